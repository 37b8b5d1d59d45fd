use Rattle.std.proofs.Common.{◌≡◌, true, false, length, sym, ap, ◌∙◌, arith}
use Rattle.recording_text.specs.Blocks.{Work, work_of, block_from, goes_on}
use Rattle.recording_text.proofs.TurnEquations.{goes, turn-goes, block-turn, block-stops}
use Rattle.recording_text.proofs.block.answer_lines.Goals as goal

pub loop-line-smaller : goal.loop-line-smaller
unfolding goes_on
loop-line-smaller c =
    let on : goes_on c.args.block.now (work_of c.loop-line.at c.loop-line.line c.loop-line.places c.loop-line.out) ≡ true = sym c.goes_on.ensures ∙ c.loop-line-test.true in
    let g = goes c.args.block.now (work_of c.loop-line.at c.loop-line.line c.loop-line.places c.loop-line.out) (on) in
    omega (arith, ap (λ (w : Work). w.at.next) c.turn-at.ensures, turn-goes c.args.block.now (work_of c.loop-line.at c.loop-line.line c.loop-line.places c.loop-line.out) (on), g.more)

pub loop-line-preserved : goal.loop-line-preserved
unfolding goes_on
loop-line-preserved c =
    let on : goes_on c.args.block.now (work_of c.loop-line.at c.loop-line.line c.loop-line.places c.loop-line.out) ≡ true = sym c.goes_on.ensures ∙ c.loop-line-test.true in (
      c.turn-at.auto.line ∙ c.loop-line.invariant.0,
      c.turn-at.auto.places ∙ c.loop-line.invariant.1,
      c.turn-at.auto.out ∙ c.loop-line.invariant.2,
      c.turn-at.auto.octets ∙ c.loop-line.invariant.3,
      c.turn-at.auto.message ∙ c.loop-line.invariant.4,
      ap (block_from (length c.args.block.now) c.args.block.now) c.turn-at.ensures
          ∙ block-turn c.args.block.now (work_of c.loop-line.at c.loop-line.line c.loop-line.places c.loop-line.out) (on) ∙ c.loop-line.invariant.5,
    )

pub returns : goal.returns
unfolding goes_on
returns c =
    let off : goes_on c.args.block.now (work_of c.loop-line.at c.loop-line.line c.loop-line.places c.loop-line.out) ≡ false = sym c.goes_on.ensures ∙ c.loop-line-test.false in
    sym (block-stops c.args.block.now (work_of c.loop-line.at c.loop-line.line c.loop-line.places c.loop-line.out) (off) (length c.args.block.now)) ∙ c.loop-line.invariant.5
