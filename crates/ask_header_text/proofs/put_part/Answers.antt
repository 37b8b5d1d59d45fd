-- Where there is room, the text of octets is stored.
use mathlib.Core.Path.{subst}
use mathlib.Core.List.{List}
use Prim.Native.Nat.{ℕ}
use Rattle.cdr_write.specs.Write.{Stored}
use Rattle.ask_text.specs.Replies.{octets_text}
use Rattle.ask_header_text.proofs.PutsTogether.{puts_or}
use Rattle.ask_header_text.proofs.put_part.Goals as goal

pub returns : goal.returns
returns c =
    let stored = subst (λ (xs : List ℕ). Stored c.args.out.now c.args.at (octets_text xs c.args.behind) c.write_octets.result c.write_octets.new.out)
    c.octets_in-octets.ensures.octets c.write_octets.ensures in
    puts_or c.args.out.now c.args.at _ _ _ stored c.args.at _ c.unwrap_or.ensures
