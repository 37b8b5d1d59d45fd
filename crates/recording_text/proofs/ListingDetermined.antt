-- The input alone decides a recording's listing: the octets that the places have at first do not matter.
use Rattle.std.specs.Prelude.{Result, Ok, Err}
use Rattle.std.proofs.Common.{◌≡◌, ℕ, ◌≤◌, List, [], ◌∷◌, ◌++◌, length, sym, refl, ap, ◌∙◌, subst}
use Rattle.hexline.specs.Decoding.{line_octets, decoded_of}
use Rattle.lines.specs.Lines.{lines_of}
use Rattle.join_places.specs.declared.Record.{Record}
use Rattle.join_places.specs.Places.{places_size, fresh_record}
use Rattle.join_steps.specs.Steps.{LineStep}
use Rattle.join_answers.specs.declared.Refusal.{Refusal}
use Rattle.join_answers.specs.Answers.{output_in, answer_number}
use Rattle.joining.specs.Answers.{step_within, answer_of_step}
use Rattle.join_laws.proofs.PartsHeld.{fresh_start}
use Rattle.join_laws.proofs.SameFromAlike.{Alike, fresh-alike, alike-step, alike-message, alike-after}
use Rattle.recording_text.specs.Listing.{octets_most, message_most, shown_of, LineEntry, joined_entry, entry_from, entry_of, number_after, entry_text, listing_from, listing_of}
use Rattle.recording_state.specs.States.{fresh_state}
use Rattle.recording_text.specs.Calls.{Calls}
use Rattle.recording_text.proofs.RecordingListed.{recording-text}
use Rattle.hexline.specs.declared.Undecoded.TheVariants.{NoRoom, NotDigits, TooLong}
use Rattle.hexline.specs.declared.Undecoded.{Undecoded}

-- two entries that say the same, and leave the same record and places that hold the same
record Agree (e f : LineEntry) : Type 0 where
  number : e.number ≡ f.number
  shown : e.shown ≡ f.shown
  after : e.after ≡ f.after
  alike : Alike e.after e.stored f.stored

module _ (r : Record) (p q : List ℕ) (a : Alike r p q) where
  joined-agree : (v : List ℕ) → Agree (joined_entry (step_within v r p message_most) v r p) (joined_entry (step_within v r q message_most) v r q)
  joined-agree v =
      let step = step_within v r p message_most in
      let m = alike-message r p q a v message_most in
      subst (λ (s : Result LineStep Refusal). Agree (joined_entry step v r p) (joined_entry s v r q)) (alike-step r p q a v message_most)
      (record {
        number = ap (λ (l : List ℕ). answer_number (answer_of_step step (length l))) m;
        shown = ap (λ (l : List ℕ). shown_of (output_in (answer_of_step step (length l))) l) m;
        after = refl;
        alike = alike-after r p q a v message_most;
      })

  by-decoded : (d : Result ℕ Undecoded) (v : List ℕ) → Agree (entry_from d v r p) (entry_from d v r q)
  by-decoded (Ok n) v = joined-agree v
  by-decoded (Err TooLong) v = record { number = refl; shown = refl; after = refl; alike = a }
  by-decoded (Err NotDigits) v = record { number = refl; shown = refl; after = refl; alike = a }
  by-decoded (Err NoRoom) v = record { number = refl; shown = refl; after = refl; alike = a }

  entries-agree : (line : List ℕ) → Agree (entry_of line r p) (entry_of line r q)
  unfolding entry_of
  entries-agree line = by-decoded (decoded_of line octets_most) (line_octets line)

listings-agree : (lines : List (List ℕ)) (k : ℕ) (r : Record) (p q : List ℕ) → Alike r p q → listing_from k r p lines ≡ listing_from k r q lines
unfolding listing_from
listings-agree [] k r p q a = refl
listings-agree (line ∷ rest) k r p q a =
    let e = entry_of line r p in
    let f = entry_of line r q in
    let g = entries-agree r p q a line in
    rw (g.number, g.shown)
    (ap (λ (l : List ℕ). entry_text (number_after k) f ++ l)
    (listings-agree rest (number_after k) e.after e.stored f.stored g.alike
    ∙ ap (λ (s : Record). listing_from (number_after k) s f.stored rest) g.after))

-- whatever two lots of places hold, one recording has one listing
pub one-listing : (p q input : List ℕ) → places_size ≤ length p → places_size ≤ length q → listing_of p input ≡ listing_of q input
unfolding listing_of
one-listing p q input h l =
    listings-agree (lines_of input) 0 fresh_record p q (fresh-alike fresh_record p q (fresh_start _ _ p refl refl h) (fresh_start _ _ q refl refl l))

-- and so have two runs over it, whatever the blocks and the calls, and whatever the lines' memory and the places hold at first
pub one-text : (line places input text line_too places_too text_too : List ℕ) → places_size ≤ length places → places_size ≤ length places_too
    → Calls fresh_state line places input text → Calls fresh_state line_too places_too input text_too → text ≡ text_too
one-text line places input text line_too places_too text_too h l c d =
    recording-text line places input text c ∙ one-listing places places_too input h l ∙ sym (recording-text line_too places_too input text_too d)
