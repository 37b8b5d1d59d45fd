-- One text behind the other.
use mathlib.Core.Path.{refl, sym, ap, ◌∙◌}
use Prim.Native.Nat.{ℕ, ◌+◌}
use native.Mathlib.Omega.{arith}
use lib.ListN.{length}
use Rattle.cdr.specs.Limit.{fits}
use Rattle.cdr.proofs.RoomFits.{fits-room}
use Rattle.ask_text.specs.Replies.{octets_text}
use Rattle.ask_text.proofs.StoredTogether.{first-lacks, fits-then}
use Rattle.ask_text.proofs.octets.has_room.Goals as goal

pub overflow_add-at : goal.overflow_add-at
overflow_add-at c =
    omega (arith, fits-room c.args.len c.args.at _ (sym c.fits.ensures ∙ c.if-fits.true))

pub returns-then-fits : goal.returns-then-fits
returns-then-fits c =
    λ b.
    c.fits-then-fits.ensures
    ∙ ap (λ (n : ℕ). fits c.args.len (c.args.at + length c.args.head.now) n) (c.text_length.ensures b)
    ∙ fits-then c.args.len c.args.at c.args.head.now (octets_text c.args.octets.now b) _ refl

pub returns-else-fits : goal.returns-else-fits
returns-else-fits c =
    λ b. c.if-fits.false ∙ sym (first-lacks c.args.len c.args.at c.args.head.now (octets_text c.args.octets.now b) (sym c.fits.ensures ∙ c.if-fits.false))
