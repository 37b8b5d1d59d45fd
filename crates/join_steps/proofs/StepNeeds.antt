-- What each step says of the line that takes it: all that carrying it out asks.
use Rattle.std.specs.Prelude.{Option, Some, None, Result, Ok, Err}
use mathlib.Core.Path.{◌≡◌, refl, subst}
use mathlib.Core.List.{List}
use mathlib.Core.Bool.{true}
use Prim.Native.Nat.{ℕ, ◌≤◌, ◌<◌}
use lib.Dec.{ltb, leb}
use lib.ListN.{length}
use borrow.Author.Tests.{ltb-false}
use Rattle.choices.proofs.Choices.{chosen}
use Rattle.frame.specs.declared.Header.{Header}
use Rattle.frame.specs.Messages.{is_cancel, is_fragment}
use Rattle.frame.specs.Frames.{frame_of}
use Rattle.frame.proofs.Accepts.{frame-accepts}
use Rattle.join_places.specs.declared.Record.{Record}
use Rattle.join_places.specs.Places.{places_count, place_size, held_in, place_of_id, lowest_free, open_count, bad_record, IsPlace}
use Rattle.join_places.proofs.RecordSound.{free-within, sound-lent}
use Rattle.join_steps.specs.Steps.{LineStep, Passes, Opens, Extends, Completes, Frees, cancelled, differs, length_after, continued}
use Rattle.join_steps.specs.Steps.{fragment_of, opens_at, first_of, starting_of, with_id, by_id, message_step, frame_step, step_of}
use Rattle.join_steps.specs.Inner.{Sound, Opening, Continues}
use Rattle.join_steps.proofs.StepIs.{place-within, continues}
use Rattle.frame.specs.declared.Refusal.{Refusal as Row}
use Rattle.join_answers.specs.declared.Refusal.{Refusal}

abbrev pub Needs : List ℕ → Record → List ℕ → Result LineStep Refusal → Type 0
Needs v r places (Ok Passes) = Unit {0}
Needs v r places (Ok (Opens i id)) = Opening v places i
Needs v r places (Ok (Extends i)) = Continues v r places i × (length_after r i (length v) ≤ place_size)
Needs v r places (Ok (Completes i)) = Continues v r places i
Needs v r places (Ok (Frees i)) = i < places_count
Needs v r places (Err why) = Unit {0}

module _ (v : List ℕ) (r : Record) (places : List ℕ) where
  abbrev Asks : Result LineStep Refusal → Type 0
  Asks = Needs v r places

  cancel-needs : (at : Option ℕ) → IsPlace at → Asks (cancelled at)
  cancel-needs (Some i) p = p
  cancel-needs None p = tt

  module _ (h : Header) (s : Sound v h r places) (id : ℕ) where
    fragment-needs : is_fragment h.kind ≡ true → (at : Option ℕ) → place_of_id r id ≡ at → Asks (fragment_of r places (length v) h at)
    unfolding continued
    fragment-needs k (Some i) e =
        let c = continues v h r places id i s k e in
        chosen Asks (differs (held_in r places i) h) _ _ (λ _. tt) (λ _.
        chosen Asks (ltb place_size (length_after r i (length v))) _ _ (λ _. tt) (λ l.
        chosen Asks h.more _ _ (λ _. (c, ltb-false place_size (length_after r i (length v)) l)) (λ _. c)))
    fragment-needs k None e = tt

    opens-needs : (at : Option ℕ) → IsPlace at → Asks (opens_at id at)
    opens-needs (Some i) p = record { place = p; lent = sound-lent r (length places) s.sound; short = (frame-accepts v h s.accepted).0 }
    opens-needs None p = tt

    first-needs : Asks (first_of r id)
    unfolding first_of
    first-needs = chosen Asks (leb places_count (open_count r)) _ _ (λ _. tt) (λ _. opens-needs (lowest_free r) (free-within r))

    start-needs : (at : Option ℕ) → Asks (starting_of r h id at)
    start-needs (Some i) = tt
    start-needs None = chosen Asks h.more _ _ (λ _. first-needs) (λ _. tt)

    with-id-needs : Asks (with_id r places (length v) h id)
    unfolding with_id
    with-id-needs =
        chosen Asks (is_cancel h.kind) _ _ (λ _. cancel-needs (place_of_id r id) (place-within r id (place_of_id r id) refl)) (λ _.
        chosen Asks (is_fragment h.kind) _ _ (λ k. fragment-needs k (place_of_id r id) refl) (λ _. start-needs (place_of_id r id)))

  by-id-needs : (h : Header) → Sound v h r places → (id : Option ℕ) → Asks (by_id r places (length v) h id)
  by-id-needs h s None = tt
  by-id-needs h s (Some x) = with-id-needs h s x

  frame-needs : (f : Result Header Row) → frame_of v ≡ f → Asks (frame_step r places (length v) f)
  unfolding message_step
  frame-needs (Ok h) e =
      chosen Asks (bad_record r (length places)) _ _ (λ _. tt) (λ b. by-id-needs h (record { accepted = e; sound = b }) h.id)
  frame-needs (Err row) e = tt

  pub step-needs : Asks (step_of v r places)
  unfolding step_of
  step-needs = frame-needs (frame_of v) refl

  pub needs-of : (s : Result LineStep Refusal) → step_of v r places ≡ s → Asks s
  needs-of s e = subst Asks e step-needs
