-- The octets that the places have at first decide nothing: of two lots of places that hold the same parts, each line makes the same.
use Rattle.std.specs.Prelude.{Option, Some, None, Result, Ok, Err}
use mathlib.Core.Path.{◌≡◌, refl, sym, ap, subst, ◌∙◌}
use mathlib.Core.List.{List, [], ◌++◌}
use mathlib.Core.Bool.{true, false, cond}
use Prim.Native.Nat.{ℕ, ◌<◌}
use lib.Dec.{ltb}
use lib.ListN.{length}
use Rattle.frame.specs.declared.Header.{Header}
use Rattle.frame.specs.Messages.{is_cancel, is_fragment}
use Rattle.frame.specs.Frames.{frame_of}
use Rattle.join_places.specs.declared.Record.{Record}
use Rattle.join_answers.specs.declared.Refusal.{Refusal}
use Rattle.join_answers.specs.declared.Refusal.TheVariants.{BadRecord, FirstDiffers, TooLong}
use Rattle.join_places.specs.Places.{places_count, place_size, is_open, held_in, place_of_id, bad_record}
use Rattle.join_message.specs.Message.{body_after_id, corrected}
use Rattle.join_steps.specs.Steps.{LineStep, Passes, Opens, Extends, Completes, Frees, cancelled, differs, length_after, continued}
use Rattle.join_steps.specs.Steps.{fragment_of, starting_of, with_id, by_id, message_step, frame_step, step_of}
use Rattle.joining.specs.Answers.{message_written, roomed, step_within, record_after, places_after}
use Rattle.join_laws.specs.Sequence.{accepted_line, parts_from, Fresh}
use Rattle.join_places.proofs.PlaceOfId.{Placed, place_is}
use Rattle.join_laws.proofs.StepFacts.{Facts, step-says, within-says}
use Rattle.join_laws.proofs.HeldParts.{not-bad}
use Rattle.join_laws.proofs.PartsHeld.{Keeps, step_keeps, fresh_keeps}
use Rattle.frame.specs.declared.Refusal.{Refusal as FrameRefusal}

-- two lots of places hold the same parts of every open message
pub record Alike (r : Record) (p q : List ℕ) : Type 0 where
  pub parts : ℕ → List (List ℕ)
  pub one : Keeps (record { messages = r; places = p }) parts
  pub other : Keeps (record { messages = r; places = q }) parts

pub fresh-alike : (r : Record) (p q : List ℕ) → Fresh (record { messages = r; places = p }) → Fresh (record { messages = r; places = q }) → Alike r p q
fresh-alike r p q f g = record { parts = λ _. []; one = fresh_keeps _ f; other = fresh_keeps _ g }

keeps-sound : (r : Record) (p : List ℕ) (now : ℕ → List (List ℕ)) → Keeps (record { messages = r; places = p }) now → bad_record r (length p) ≡ false
keeps-sound r p now k =
    not-bad r (length p) k.lent k.once (λ i h o. (k.holds i h o).least) (λ i h o. (k.holds i h o).most)

module _ (r : Record) (p q : List ℕ) (a : Alike r p q) where
  same-held : (i : ℕ) → i < places_count → is_open r i ≡ true → held_in r p i ≡ held_in r q i
  same-held i h o = (a.one.holds i h o).held ∙ sym (a.other.holds i h o).held

  same-bad : bad_record r (length p) ≡ bad_record r (length q)
  same-bad = keeps-sound r p a.parts a.one ∙ sym (keeps-sound r q a.parts a.other)

  module _ (n : ℕ) (h : Header) where
    same-continued : (i : ℕ) → i < places_count → is_open r i ≡ true → continued r p n h i ≡ continued r q n h i
    unfolding continued
    same-continued i l o =
        ap (λ (held : List ℕ).
        cond (differs held h) (Err FirstDiffers)
        (cond (ltb place_size (length_after r i n)) (Err TooLong)
        (cond h.more (Ok (Extends i)) (Ok (Completes i)))))
        (same-held i l o)

    same-fragment : (x : ℕ) (at : Option ℕ) → Placed r x at → fragment_of r p n h at ≡ fragment_of r q n h at
    same-fragment x (Some i) f = same-continued i f.place f.opened
    same-fragment x None f = refl

    same-by-id : (id : Option ℕ) → by_id r p n h id ≡ by_id r q n h id
    unfolding with_id
    same-by-id None = refl
    same-by-id (Some x) =
        ap (λ (step : Result LineStep Refusal).
        cond (is_cancel h.kind) (cancelled (place_of_id r x))
        (cond (is_fragment h.kind) step (starting_of r h x (place_of_id r x))))
        (same-fragment x (place_of_id r x) (place_is r x))

    same-message-step : message_step r p n h ≡ message_step r q n h
    unfolding message_step
    same-message-step =
        ap (λ bad. cond bad (Err BadRecord) (by_id r p n h h.id)) same-bad
        ∙ ap (λ (step : Result LineStep Refusal). cond (bad_record r (length q)) (Err BadRecord) step) (same-by-id h.id)

  same-frame : (n : ℕ) (f : Result Header FrameRefusal) → frame_step r p n f ≡ frame_step r q n f
  same-frame n (Ok h) = same-message-step n h
  same-frame n (Err row) = refl

  same_step : (v : List ℕ) → step_of v r p ≡ step_of v r q
  unfolding step_of
  same_step v = same-frame (length v) (frame_of v)

  module _ (v : List ℕ) (room : ℕ) where
    message-by : (step : Result LineStep Refusal) → Facts v r (length p) room step → message_written step r v p ≡ message_written step r v q
    message-by (Ok Passes) f = refl
    message-by (Ok (Opens i id)) f = refl
    message-by (Ok (Extends i)) f = refl
    message-by (Ok (Completes i)) f = ap (λ (held : List ℕ). corrected (held ++ body_after_id v)) (same-held i f.place f.opened)
    message-by (Ok (Frees i)) f = refl
    message-by (Err why) f = refl

    abbrev step : Result LineStep Refusal
    step = step_within v r p room

    pub alike-step : step_within v r p room ≡ step_within v r q room
    alike-step =
        ap (λ (m : List ℕ). roomed room (step_of v r p) m) (message-by (step_of v r p) (step-says v r p room))
        ∙ ap (λ (s : Result LineStep Refusal). roomed room s (message_written s r v q)) (same_step v)

    pub alike-message : message_written step r v p ≡ message_written step r v q
    alike-message = message-by step (within-says v r p room)

    pub alike-after : Alike (record_after step r v) (places_after step r v p) (places_after step r v q)
    alike-after =
        record {
          parts = λ id. parts_from id (a.parts id) (accepted_line step v);
          one = step_keeps r p a.parts a.one v room step (within-says v r p room);
          other = step_keeps r q a.parts a.other v room step
              (subst (Facts v r (length q) room) (sym alike-step) (within-says v r q room));
        }
