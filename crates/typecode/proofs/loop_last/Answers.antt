-- The last test of all: whether some kind returns to itself.
use mathlib.Core.Path.{sym, ◌∙◌}
use Rattle.choices.specs.Branch.{choose}
use Rattle.type_list.proofs.KindsMet.{length-kinds}
use Rattle.typecode.specs.TypeCode.{loop_last}
use Rattle.typecode.proofs.loop_last.Goals as goal

pub returns-then-loops_back : goal.returns-then-loops_back
unfolding loop_last choose
returns-then-loops_back c = rw (sym c.loops_back.ensures ∙ c.if-loops_back.true) c.refused_with.ensures

pub returns : goal.returns
unfolding loop_last choose
returns c =
    let many = c.held_in.ensures ∙ sym (length-kinds c.args.met) in
    rw (sym c.loops_back.ensures ∙ c.if-loops_back.false, many)
