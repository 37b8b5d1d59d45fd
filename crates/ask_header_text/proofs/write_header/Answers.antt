-- The text fits the memory that it is put into, and is written from there.
use mathlib.Core.Path.{sym, subst}
use mathlib.Core.List.{List}
use Prim.Native.Nat.{ℕ}
use lib.Seq.{length-take-le}
use Rattle.cdr_write.specs.Write.{Stored}
use Rattle.ask_header_text.proofs.TextsMost.{memory-length, text-end, text-taken}
use Rattle.ask_header_text.proofs.write_header.Goals as goal

pub slice_bounds-text-end : goal.slice_bounds-text-end
slice_bounds-text-end c =
    text-end c.args.message.now _ _ _ c.put_answer-end.ensures memory-length c.put_answer-end.auto.out

pub slice_bounds-write_octets-end : goal.slice_bounds-write_octets-end
slice_bounds-write_octets-end c =
    sym (length-take-le _ _ (text-end c.args.message.now _ _ _ c.put_answer-end.ensures memory-length c.put_answer-end.auto.out))

pub returns : goal.returns
returns c =
    subst (λ (xs : List ℕ). Stored c.args.out.now c.args.at xs c.write_octets.result c.write_octets.new.out) (text-taken c.args.message.now _ _ _ c.put_answer-end.ensures memory-length) c.write_octets.ensures
