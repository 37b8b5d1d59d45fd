-- The octets, their digits, and the LF that the memory was filled with.
use native.Mathlib.Omega.{arith}
use Rattle.ask_text.proofs.TextsFit.{octets-most, bits-digits, bits-end, put-counted}
use Rattle.ask_text.proofs.head.put_bits.Goals as goal

pub returns : goal.returns
returns c =
    put-counted c.args.out.now c.args.at _ _ _ _ _
    (bits-digits c.args.size c.args.x _ c.octets-n.ensures _ _ c.write_number.ensures _ _ c.encode.ensures)
    (bits-end c.args.size c.args.x _ c.octets-n.ensures)
    (omega (arith, c.octets-n.ensures, octets-most c.args.size, c.requires)) c.write_octets.ensures
