-- Which refusals a reading can give, whatever the type is: a value's, and without a limit of room not that of no room.
use mathlib.Core.Path.{◌≡◌, refl}
use mathlib.Core.Bool.{Bool, true}
use Prim.Native.Nat.{ℕ}
use native.Mathlib.Omega.{arith}
use lib.ListN.{length}
use Rattle.choices.specs.Branch.{choose}
use Rattle.choices.specs.Lists.{any_of}
use Rattle.value_meaning.specs.Refusals.{is_value_refusal, room_refusal}
use Rattle.value_meaning.specs.Sinks.{Source, St, taken, done}
use Rattle.value_meaning.specs.Visit.{Checked}
use Rattle.value_meaning.specs.Reading.{Log, logging, any_room, levels, at_start, top_of, reading}
use Rattle.value_meaning.proofs.ByChoice.{by-choice}
use Rattle.value_meaning.proofs.ReadingKeeps.{Keeps, reads-keeps}

-- nothing is refused, or the refusal's number is one of a value's
abbrev pub Refused : St Log → Type 0
Refused s = (s.fault ≡ 0 → ⊥) → is_value_refusal s.fault ≡ true

-- nothing is refused for a lack of room
abbrev pub Roomy : St Log → Type 0
Roomy s = s.fault ≡ room_refusal → ⊥

module _ (full : ℕ → Bool) (x : Source) (t : Checked) where
  refused-alone : Keeps (logging full) Refused
  unfolding taken done is_value_refusal any_of
  refused-alone =
      record {
        refused = λ n s a b h z. a;
        visited = λ s h. h;
        took = λ p next s h. h;
        finished = λ i s h. by-choice Refused (full (length s.kept.items)) (λ e z. refl) (λ e. h);
      }

  pub fault-is : Refused (reading full x t)
  unfolding reading
  fault-is = reads-keeps (logging full) x Refused refused-alone t levels (top_of t) at_start (λ z. absurd (z refl))

module _ (x : Source) (t : Checked) where
  roomy : Keeps (logging any_room) Roomy
  unfolding taken done choose
  roomy = record { refused = λ n s a b h. b; visited = λ s h. h; took = λ p next s h. h; finished = λ i s h. h }

  pub fault-not-room : Roomy (reading any_room x t)
  unfolding reading
  fault-not-room = reads-keeps (logging any_room) x Roomy roomy t levels (top_of t) at_start (λ z. omega arith)
