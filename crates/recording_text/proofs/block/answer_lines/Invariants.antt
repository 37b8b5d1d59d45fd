-- What is left of the block gives the same in the end.
use Rattle.std.proofs.Common.{◌≡◌, ◌-◌, length}
use Rattle.recording_text.specs.Listing.{octets_most, message_most}
use Rattle.recording_text.specs.Blocks.{work_of, block_from}
use Rattle.recording_text.proofs.block.answer_lines.Given as goal

abbrev pub invariant-loop-line : goal.invariant-loop-line
invariant-loop-line l =
    (length l.line ≡ length l.initial.line) × (length l.places ≡ length l.initial.places) × (length l.out ≡ length l.initial.out)
    × (length l.octets ≡ octets_most) × (length l.message ≡ message_most)
    × (block_from (length l.block) l.block (work_of l.at l.line l.places l.out) ≡ block_from (length l.block) l.block (work_of l.initial.at l.initial.line l.initial.places l.initial.out))

abbrev pub decreases-loop-line : goal.decreases-loop-line
decreases-loop-line l = length l.block - l.at.next
