-- The block is answered from its start on.
use Rattle.std.proofs.Common.{ℕ, length, ap, ◌∙◌}
use Rattle.recording_text.specs.Blocks.{work_of, block_from}
use Rattle.recording_text.proofs.BlockListed.{block-answered}
use Rattle.recording_text.proofs.answer_block.Goals as goal

pub returns : goal.returns
returns c =
    block-answered c.args.block.now c.args.from c.args.line.now c.args.places.now c.args.out.now c.args.state _ _ _ _
    (c.answer_lines.ensures
    ∙ ap (λ (n : ℕ). block_from (length c.args.block.now) c.args.block.now (work_of (record { state = c.args.state; next = n; filled = 0 }) c.args.line.now c.args.places.now c.args.out.now))
    c.min.ensures)
