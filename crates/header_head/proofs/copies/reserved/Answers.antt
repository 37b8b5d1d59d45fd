-- The octets are there, and zeros are written.
use mathlib.Core.Path.{sym, ap, ◌∙◌}
use Rattle.cdr_text.specs.Text.{run_of}
use Rattle.header_head.proofs.CopiedPieces.{reserved-copies}
use Rattle.header_head.proofs.copies.reserved.Goals as goal

pub returns-in-Some : goal.returns-in-Some
returns-in-Some c =
    reserved-copies c.args.s.now c.args.order c.args.at c.args.out.now c.args.minor _ (ap (run_of c.args.s.now c.args.at) (sym c.reserved_octets-count.ensures)
    ∙ sym c.read_run.ensures ∙ c.in-Some.is) _ c.reserved_octets-count.ensures _ _ c.write_zeros.ensures
