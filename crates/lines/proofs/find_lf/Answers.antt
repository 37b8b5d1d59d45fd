use mathlib.Core.Path.{◌≡◌, sym, ◌∙◌}
use native.Mathlib.Omega.{arith}
use lib.ListN.{length}
use Rattle.lines.proofs.TakenBySteps.{found, onward, at-end}
use Rattle.lines.proofs.find_lf.Goals as goal

pub returns-then-block-i-eq-LF : goal.returns-then-block-i-eq-LF
returns-then-block-i-eq-LF c =
    sym (found c.args.block.now c.loop-i.i c.loop-i-test.true c.if-block-i-eq-LF.true) ∙ c.loop-i.invariant.place

pub loop-i-preserved : goal.loop-i-preserved
loop-i-preserved c =
    record { within = omega arith; place = onward c.args.block.now c.loop-i.i c.loop-i-test.true c.if-block-i-eq-LF.false ∙ c.loop-i.invariant.place }

pub returns : goal.returns
returns c =
    let end : length c.args.block.now ≡ c.loop-i.i = omega (arith, c.loop-i.invariant.within) in
    end ∙ sym (at-end c.args.block.now c.loop-i.i c.loop-i-test.false) ∙ c.loop-i.invariant.place
