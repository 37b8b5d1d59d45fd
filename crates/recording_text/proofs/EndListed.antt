-- The end of a recording: what the steps of the last call amount to, and that its text fits.
use Rattle.std.specs.Prelude.{Some, None}
use Rattle.std.proofs.Common.{◌≡◌, ℕ, ◌+◌, ◌<◌, ◌≤◌, min, true, List, [], ◌∷◌, ◌++◌, length, take, sym, refl, ap, ◌∙◌, arith, length-append, length-take-le, take_all, le-leb, leb-true}
use native.Mathlib.Omega.{min_cases}
use lib.Seq.{length-sets}
use borrow.Author.Tests.{lt-leb}
use Rattle.choices.proofs.Choices.{by-test, clash}
use Rattle.lines.specs.Lines.{lf, last_line, lines_from}
use Rattle.lines.proofs.LinesOfBlocks.{lines_end}
use Rattle.join_places.specs.declared.Record.{Record}
use Rattle.join_places.specs.Places.{open_count}
use Rattle.recording_state.specs.declared.State.{State}
use Rattle.recording_text.specs.declared.line.Listed.{Listed}
use Rattle.decimals.specs.Decimal.{decimal}
use Rattle.decimals.specs.Puts.{Put}
use Rattle.recording_text.specs.Text.{space, end_text}
use Rattle.recording_text.specs.Listing.{entry_of, number_after, entry_text, listing_from}
use Rattle.recording_text.specs.Listing.{longest}
use Rattle.recording_text.specs.Blocks.{closing, stored_from, end_of, end_room, EndAnswered}
use Rattle.recording_text.specs.Inner.{Lists}
use Rattle.decimals.proofs.CharactersPut.{put_then, take-written, number-most}
use Rattle.recording_text.proofs.BlockListed.{entry-most}

-- the line that was begun
module _ (line : List ℕ) (kept n : ℕ) (e : n ≡ min kept (length line)) where
  kept_same : take n line ≡ take kept line
  kept_same =
      rw e
      (min_cases kept (length line) _
      (λ h q. rw q)
      (λ h q. rw q (take_all (length line) line (omega arith) ∙ sym (take_all kept line h))))

  pub kept-fits : n ≤ length line
  kept-fits = omega arith

  last_some : (l : List ℕ) → 0 < length l → last_line l ≡ l ∷ []
  last_some [] h = absurd (omega arith)
  last_some (c ∷ l) h = refl

  last_none : n ≡ 0 → lines_from (take kept line) [] ≡ []
  last_none z = rw (← kept_same, z) (lines_end [])

  last_one : (n ≡ 0 → ⊥) → lines_from (take kept line) [] ≡ take n line ∷ []
  last_one z =
      let l = length-take-le n line kept-fits in
      rw (← kept_same) (lines_end (take n line) ∙ last_some (take n line) (omega arith))

-- the three answers
module _ (line places out : List ℕ) (state : State) where
  pub end-full : length out < longest + closing → EndAnswered line places out state None places out
  end-full h =
      let q = lt-leb (longest + closing) (length out) h in
      record { written = rw q; stored = rw q; output = rw q }

  module _ (h : longest + closing ≤ length out) (n : ℕ) (e : n ≡ min state.kept (length line)) where
    room : end_room out ≡ true
    room = le-leb (longest + closing) (length out) h

    -- no line was begun
    pub end_none : n ≡ 0 → (r : ℕ) (out_last : List ℕ) (count : ℕ) → count ≡ open_count state.messages
        → Put out 0 (end_text state.lines count) r out_last → EndAnswered line places out state (Some r) places out_last
    unfolding listing_from stored_from
    end_none z r out_last count k p =
        let t : end_of line places state ≡ end_text state.lines (open_count state.messages) = rw (last_none line state.kept n e z) in
        record {
          written = rw (room, t, ← k) (ap Some (p.end ∙ omega arith));
          stored = rw (room, last_none line state.kept n e z);
          output = rw (room, t, ← k) p.contents;
        }

    -- one was
    module _ (z : n ≡ 0 → ⊥) (number : ℕ) (k : number ≡ number_after state.lines) (l : Listed) (places_last mid : List ℕ)
        (q : Lists (entry_of (take n line) state.messages places) number out 0 l places_last mid)
      where
        pub end_fits : l.end + closing ≤ length mid
        end_fits =
            let s : length mid ≡ length out = ap length q.text.contents ∙ length-sets out 0 (entry_text number (entry_of (take n line) state.messages places)) in
            omega (arith, q.text.end, entry-most number (take n line) state.messages places)

        pub end-one : (r : ℕ) (out_last : List ℕ) (count : ℕ) → count ≡ open_count l.after
            → Put mid l.end (end_text number count) r out_last → EndAnswered line places out state (Some r) places_last out_last
        unfolding listing_from stored_from
        end-one r out_last count c p =
            let entry = entry_of (take n line) state.messages places in
            let t : end_of line places state ≡ entry_text number entry ++ end_text number (open_count entry.after) =
            rw (last_one line state.kept n e z, k)
            in
            let g : count ≡ open_count entry.after = c ∙ ap open_count q.after in
            let w = put_then q.text (rw g at p) in
            record {
              written = rw (room, t) (ap Some (w.end ∙ omega arith));
              stored = rw (room, last_one line state.kept n e z) q.stored;
              output = rw (room, t) w.contents;
            }

-- what the last call writes fits
closing-most : (lines count : ℕ) → length (end_text lines count) ≤ closing
unfolding end_text
closing-most lines count =
    let a = number-most lines (space ∷ (decimal count ++ (lf ∷ []))) in
    let b = number-most count (lf ∷ []) in
    omega arith

last-most : (k : ℕ) (r : Record) (places l : List ℕ) → length (listing_from k r places (last_line l)) ≤ longest + closing
unfolding listing_from
last-most k r places [] = omega (arith, closing-most k (open_count r))
last-most k r places (c ∷ l) =
    let e = entry_of (c ∷ l) r places in
    rw (length-append (entry_text (number_after k) e) (end_text (number_after k) (open_count e.after)))
    (omega (arith, entry-most (number_after k) (c ∷ l) r places, closing-most (number_after k) (open_count e.after)))

module _ (line places out : List ℕ) (state : State) (n : ℕ) (places_last out_last : List ℕ) (a : EndAnswered line places out state (Some n) places_last out_last) where
  end-most : length (end_of line places state) ≤ longest + closing
  end-most = rw (lines_end (take state.kept line)) (last-most state.lines state.messages places (take state.kept line))

  -- a place where the text ends is only given where there was room
  had-room : end_room out ≡ true
  had-room =
      by-test (end_room out)
      (λ e. e)
      (λ e. let q : (Some n) ≡ None = a.written ∙ rw e in clash cc)

  count_of : n ≡ length (end_of line places state)
  count_of = let q : (Some n) ≡ Some (length (end_of line places state)) = a.written ∙ rw had-room in cc

  pub end-within : n ≤ length out
  end-within = omega (arith, count_of, end-most, leb-true (longest + closing) (length out) had-room)

  pub end-text : take n out_last ≡ end_of line places state
  end-text = rw (a.output, had-room) (take-written out (end_of line places state) n count_of end-within)
