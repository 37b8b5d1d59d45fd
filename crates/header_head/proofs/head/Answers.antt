-- The header is read, then written.
use mathlib.Core.Path.{sym, ap, ◌∙◌}
use Rattle.std.specs.Prelude.{Ok}
use Rattle.choices.proofs.Exits.{exit-error}
use Rattle.header_head.proofs.HeadsWritten.{called-head, answered-head, refused-head}
use Rattle.header_head.proofs.head.Goals as goal

pub returns-in_err-q : goal.returns-in_err-q
returns-in_err-q c =
    rw (exit-error c.from_residual.ensures.1) (refused-head c.args.s.now c.args.out.now _ (sym c.read.ensures ∙ c.in_err-q.was))

pub returns-in-Called : goal.returns-in-Called
returns-in-Called c =
    called-head c.args.s.now c.args.out.now _ _ _ (sym c.read.ensures ∙ c.in_ok-q.was ∙ ap Ok c.in-Called.is) c.write.ensures

pub returns-in-Answered : goal.returns-in-Answered
returns-in-Answered c =
    answered-head c.args.s.now c.args.out.now _ _ _ (sym c.read.ensures ∙ c.in_ok-q.was ∙ ap Ok c.in-Answered.is) c.write-in-Answered.ensures
