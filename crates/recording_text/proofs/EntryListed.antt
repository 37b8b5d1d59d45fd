-- What the steps of answering one line amount to.
use Rattle.std.specs.Prelude.{Option, Some, None, Result, Ok, Err}
use Rattle.std.proofs.Common.{◌≡◌, ℕ, ◌+◌, ◌-◌, ◌%◌, ◌<◌, ◌≤◌, false, eqb, ltb, leb, List, [], ◌∷◌, ◌++◌, length, take, sym, refl, ap, ◌∙◌, subst, append_assoc, arith, ltb-false, ltb-true, eqb-true, le-leb, leb-false, leb-true}
use borrow.Author.Tests.{lt-leb, eqb-false}
use Rattle.choices.proofs.Choices.{by-test, clash}
use Rattle.hexline.specs.Decoding.{line_limit, all_digits, line_octets, decoded_of, decoded_number, Decodes}
use Rattle.hexline.specs.Encoding.{octet_digits}
use Rattle.hexline.proofs.OctetsOfDigits.{octets-length}
use Rattle.hexline.proofs.Answers.{odd-count, no_digit, taken, too_long, within-limit, accepted}
use Rattle.lines.specs.Lines.{lf}
use Rattle.join_places.specs.declared.Record.{Record}
use Rattle.joining.specs.declared.Outcome.{Outcome}
use Rattle.join_steps.specs.Steps.{LineStep, Passes, Opens, Extends, Completes, Frees}
use Rattle.join_answers.specs.declared.Refusal.{Refusal}
use Rattle.join_answers.specs.Answers.{output_in, answer_number}
use Rattle.joining.specs.Answers.{message_written, step_within, answer_of_step, answer_to, Does, Joins}
use Rattle.join_laws.proofs.MessageFits.{message-fits}
use Rattle.decimals.specs.Decimal.{decimal}
use Rattle.decimals.specs.Puts.{Put}
use Rattle.recording_text.specs.Text.{space, dash, line_text}
use Rattle.recording_text.specs.Listing.{octets_most, message_most, shown_of, LineEntry, refused_entry, joined_entry, entry_from, entry_of, longest}
use Rattle.recording_text.specs.Inner.{Lists}
use Rattle.decimals.proofs.CharactersPut.{take-written, number-most}
use Rattle.hexline.specs.declared.Undecoded.TheVariants.{NoRoom, NotDigits, TooLong}
use Rattle.hexline.specs.declared.Undecoded.{Undecoded}

-- the numbers of a line's answer, then what is shown
pub line-text : (line answer : ℕ) (shown : List ℕ)
    → (decimal line ++ (space ∷ (decimal answer ++ (space ∷ [])))) ++ (shown ++ (lf ∷ [])) ≡ line_text line answer shown
unfolding line_text
line-text line answer shown = simp append_assoc

pub numbers-most : (line answer : ℕ) → length (decimal line ++ (space ∷ (decimal answer ++ (space ∷ [])))) ≤ 42
numbers-most line answer =
    omega (arith, number-most line (space ∷ (decimal answer ++ (space ∷ []))), number-most answer (space ∷ []))

-- what an answer shows
shown-some : (o : Option ℕ) (n : ℕ) (message : List ℕ) → o ≡ Some n → shown_of o message ≡ octet_digits message
shown-some (Some m) n message e = refl
shown-some None n message e = clash cc

shown-none : (o : Option ℕ) (message : List ℕ) → o ≡ None → shown_of o message ≡ dash
shown-none (Some m) message e = clash cc
shown-none None message e = refl

shown-count : (step : Result LineStep Refusal) (m n : ℕ) → output_in (answer_of_step step m) ≡ Some n → n ≡ m
shown-count (Ok Passes) m n e = cc
shown-count (Ok (Opens i id)) m n e = clash cc
shown-count (Ok (Extends i)) m n e = clash cc
shown-count (Ok (Completes i)) m n e = cc
shown-count (Ok (Frees i)) m n e = cc
shown-count (Err why) m n e = clash cc

-- a line's octets, joined
module _ (v : List ℕ) (before : Record) (places message : List ℕ) (r : Outcome) (places_last message_last : List ℕ)
    (room : length message ≡ message_most) (j : Joins v before places message r places_last message_last)
  where
    abbrev step : Result LineStep Refusal
    step = step_within v before places message_most

    abbrev shown : List ℕ
    shown = message_written step before v places

    does : Does step v before places message r places_last message_last
    does = rw room at j

    -- the message fits the memory, and stands at its start
    module _ (n : ℕ) (s : output_in r.answer ≡ Some n) where
      count-is : n ≡ length shown
      count-is = shown-count step (length shown) n (sym (ap output_in does.answer) ∙ s)

      pub count_most : n ≤ message_most
      count_most = omega (arith, count-is, message-fits v before places message_most)

      pub message-is : take n message_last ≡ shown
      message-is =
          rw does.output (take-written message shown n count-is (omega (arith, count_most)))

    module _ (number code : ℕ) (out : List ℕ) (at end : ℕ) (out_last : List ℕ) (c : code ≡ answer_number r.answer) where
      entry-number : code ≡ answer_number (answer_to step before v places)
      entry-number = c ∙ ap answer_number does.answer

      pub lists-shown : (n : ℕ) → output_in r.answer ≡ Some n → Put out at (line_text number code (octet_digits (take n message_last))) end out_last
          → Lists (joined_entry step v before places) number out at (record { after = r.after; end = end }) places_last out_last
      lists-shown n s p =
          let t : shown_of (output_in (answer_to step before v places)) shown ≡ octet_digits (take n message_last) =
          shown-some (output_in (answer_to step before v places)) n shown (sym (ap output_in does.answer) ∙ s)
          ∙ ap octet_digits (sym (message-is n s))
          in
          record {
            after = does.after;
            stored = does.stored;
            text = subst (λ (x : List ℕ). Put out at x end out_last) (ap (λ (k : ℕ). line_text number k (octet_digits (take n message_last))) entry-number ∙ ap (line_text number (answer_number (answer_to step before v places))) (sym t)) p;
          }

      pub lists-unshown : output_in r.answer ≡ None → Put out at (line_text number code dash) end out_last
          → Lists (joined_entry step v before places) number out at (record { after = r.after; end = end }) places_last out_last
      lists-unshown s p =
          let t : shown_of (output_in (answer_to step before v places)) shown ≡ dash =
          shown-none (output_in (answer_to step before v places)) shown (sym (ap output_in does.answer) ∙ s)
          in
          record {
            after = does.after;
            stored = does.stored;
            text = subst (λ (x : List ℕ). Put out at x end out_last) (ap (λ (k : ℕ). line_text number k dash) entry-number ∙ ap (line_text number (answer_number (answer_to step before v places))) (sym t)) p;
          }

-- a line's characters, decoded
module _ (line octets : List ℕ) (d : Result ℕ Undecoded) (last : List ℕ) (room : length octets ≡ octets_most) (s : Decodes decoded_of line octets d last) where
  decoded-is : d ≡ decoded_of line octets_most
  decoded-is = s.answer ∙ ap (decoded_of line) room

  pub decoded-count : (n : ℕ) → d ≡ Ok n → (n ≤ octets_most) × (n ≡ length (line_octets line))
  decoded-count n e =
      let a = (accepted line octets_most n (sym decoded-is ∙ e)).1 in
      (a.fits, a.count ∙ sym (octets-length line))

  pub decoded-octets : (n : ℕ) → d ≡ Ok n → take n last ≡ line_octets line
  decoded-octets n e =
      let k = decoded-count n e in
      rw (s.output, e) (take-written octets (line_octets line) n k.1 (omega arith))

  pub entry-accepted : (n : ℕ) (before : Record) (places : List ℕ) → d ≡ Ok n
      → joined_entry (step_within (take n last) before places message_most) (take n last) before places ≡ entry_of line before places
  unfolding entry_of
  entry-accepted n before places e =
      rw (decoded-octets n e) (ap (λ (x : Result ℕ Undecoded). entry_from x (line_octets line) before places) (sym e ∙ decoded-is))

  entry-refused-by : (why : Undecoded) (v : List ℕ) (before : Record) (places : List ℕ)
      → entry_from (Err why) v before places ≡ refused_entry (decoded_number (Err why)) before places
  entry-refused-by TooLong v before places = refl
  entry-refused-by NotDigits v before places = refl
  entry-refused-by NoRoom v before places = refl

  pub entry-refused : (why : Undecoded) (before : Record) (places : List ℕ) → d ≡ Err why
      → entry_of line before places ≡ refused_entry (decoded_number d) before places
  unfolding entry_of
  entry-refused why before places e =
      ap (λ (x : Result ℕ Undecoded). entry_from x (line_octets line) before places) (sym decoded-is ∙ e)
      ∙ entry-refused-by why (line_octets line) before places
      ∙ ap (λ (x : Result ℕ Undecoded). refused_entry (decoded_number x) before places) (sym e)

-- a line's octets always have room
pub never-no-room : (line : List ℕ) → decoded_of line octets_most ≡ Err NoRoom → ⊥
never-no-room line e =
    by-test (ltb line_limit (length line))
    (λ t. let q = too_long line octets_most (ltb-true line_limit (length line) t) in clash cc)
    (λ t.
    let h = ltb-false line_limit (length line) t in
    let w = within-limit line octets_most h in
    by-test (eqb (length line % 2) 1)
    (λ o. let q = odd-count line octets_most (eqb-true (length line % 2) 1 o) in clash cc)
    (λ o.
    let even = eqb-false (length line % 2) 1 o in
    by-test (all_digits line)
    (λ a. let q = taken line octets_most even a (omega arith) in clash cc)
    (λ a. let q = no_digit line octets_most even a in clash cc)))

-- the room for the longest answer
pub no_room : (size at : ℕ) → size < longest → false ≡ leb (at + longest) size
no_room size at h = sym (lt-leb (at + longest) size (omega arith))

pub room_by : (size at : ℕ) → longest ≤ size → leb at (size - longest) ≡ leb (at + longest) size
room_by size at h =
    by-test (leb at (size - longest))
    (λ t. t ∙ sym (le-leb (at + longest) size (omega (arith, leb-true at (size - longest) t))))
    (λ t. t ∙ sym (lt-leb (at + longest) size (omega (arith, leb-false at (size - longest) t))))

-- a line that is no message
pub lists-refused : (e : LineEntry) (before : Record) (places : List ℕ) (number code x : ℕ) (out : List ℕ) (at end : ℕ) (out_last : List ℕ) → code ≡ x
    → e ≡ refused_entry x before places → Put out at (line_text number code dash) end out_last
    → Lists e number out at (record { after = before; end = end }) places out_last
lists-refused e before places number code x out at end out_last c q p =
    rw q (record { after = refl; stored = refl; text = rw (← c) p })
