-- Room for items: with enough of it a reading is the one with any room, and no reading has more items than there is room for.
use mathlib.Core.Path.{◌≡◌, refl, sym}
use mathlib.Core.List.{[], ◌∷◌}
use mathlib.Core.Bool.{Bool}
use Prim.Native.Nat.{ℕ, ◌≤◌}
use native.Mathlib.Omega.{arith}
use lib.ListN.{length, length-append}
use borrow.Author.Tests.{lt-leb, leb-false}
use Rattle.choices.specs.Branch.{choose}
use Rattle.value_meaning.specs.Sinks.{Source, St, taken, done}
use Rattle.value_meaning.specs.Visit.{Checked}
use Rattle.value_meaning.specs.Reading.{Log, logging, any_room, room_for, levels, at_start, top_of, reading}
use Rattle.value_meaning.proofs.SameButForRoom.{Keeps, reads-keep}

pub record Fit (room : ℕ) (s : St Log) : Type 0 where
  pub few : length s.kept.items ≤ room

abbrev room_in : ℕ → Log → Bool
room_in room a = room_for room (length a.items)

module _ (room : ℕ) (x : Source) where
  enough : Keeps (logging any_room) (room_in room) x (Fit room) (λ s. Unit)
  unfolding taken done choose
  enough = record {
    back-fail = λ n s h e. record { few = e.few };
    back-visit = λ s e. record { few = e.few };
    back-took = λ p next s e. record { few = e.few };
    back-put = λ i s e. record { few = let l = length-append s.kept.items (i ∷ []) in omega arith };
    same_full = λ i s p e.
        let l = length-append s.kept.items (i ∷ []) in
        let h = e.few in
        sym (lt-leb room (length s.kept.items) (omega arith));
    by-fail = λ n s h p. tt;
    by-visit = λ s p e. tt;
    by-put = λ i s p b e. tt;
    by_number = λ size p n s h g e. tt;
    by-octets = λ n s p h e. tt;
  }

  pub room-enough : (t : Checked) → length (reading any_room x t).kept.items ≤ room → reading any_room x t ≡ reading (room_for room) x t
  unfolding reading
  room-enough t h =
      (reads-keep (logging any_room) (room_in room) x (Fit room) (λ s. Unit) enough t levels (top_of t) at_start tt (record { few = h })).alike

  kept : Keeps (logging (room_for room)) (room_in room) x (λ s. Unit) (Fit room)
  unfolding taken
  kept = record {
    back-fail = λ n s h e. tt;
    back-visit = λ s e. tt;
    back-took = λ p next s e. tt;
    back-put = λ i s e. tt;
    same_full = λ i s p e. refl;
    by-fail = λ n s h p. record { few = p.few };
    by-visit = λ s p e. record { few = p.few };
    by-put = λ i s p b e.
        let l = length-append s.kept.items (i ∷ []) in
        let h = leb-false room (length s.kept.items) b in
        record { few = omega arith };
    by_number = λ size p n s h g e. record { few = h.few };
    by-octets = λ n s p h e. record { few = p.few };
  }

  pub room-kept : (t : Checked) → length (reading (room_for room) x t).kept.items ≤ room
  unfolding reading
  room-kept t =
      (reads-keep (logging (room_for room)) (room_in room) x (λ s. Unit) (Fit room) kept t levels (top_of t) at_start
      (record { few = omega arith }) tt).holds.few
