-- Whatever way a recording is cut into blocks and calls, the texts one after the other are its listing.
use Rattle.std.specs.Prelude.{Some}
use Rattle.std.proofs.Common.{◌≡◌, ℕ, zero, suc, ◌+◌, ◌≤◌, true, List, [], ◌∷◌, ◌++◌, length, take, drop, sym, refl, ap, ◌∙◌, append-nil, arith, length-drop, le-leb}
use lib.Seq.{sets}
use Rattle.choices.specs.Branch.{choose}
use Rattle.lines.specs.Lines.{lf, lines_from}
use Rattle.recording_state.specs.declared.State.{State}
use Rattle.recording_text.specs.Listing.{longest, listing_of}
use Rattle.recording_text.specs.Blocks.{line_room, closing, listing_after, stored_from, end_of, end_room, EndAnswered}
use Rattle.recording_state.specs.States.{fresh_state}
use Rattle.recording_text.specs.Calls.{Calls, list_next, list_ended, list_last, ReadsSome, ReadThrough}
use Rattle.recording_text.proofs.BlockListed.{done, block-answered, block-lined}
use Rattle.recording_text.proofs.EndListed.{end-text}

-- a last line is listed the same with an LF behind it
pub ended-by-lf : (state : State) (line places : List ℕ) (c : ℕ) (rest : List ℕ) → take state.kept line ≡ c ∷ rest
    → listing_after state line places (lf ∷ []) ≡ listing_after state line places []
unfolding lines_from choose
ended-by-lf state line places c rest e = rw e

pub calls-text : {state : State} {line places input text : List ℕ} → Calls state line places input text → text ≡ listing_after state line places input
calls-text (list_ended state line places c rest text e d) = calls-text d ∙ ended-by-lf state line places c rest e
calls-text (list_last state line places out n places_last out_last a) = end-text line places out state n places_last out_last a
calls-text (list_next state line places out input block from rest r line_last places_last out_last text e a c) =
    ap (λ (t : List ℕ). take r.filled out_last ++ t) (calls-text c) ∙ sym (a.listed rest)
    ∙ ap (listing_after state line places) (sym e)

-- of a whole recording, whatever the line's buffer holds at first
pub recording-text : (line places input text : List ℕ) → Calls fresh_state line places input text → text ≡ listing_of places input
unfolding listing_of
recording-text line places input text c = calls-text c

-- with room for any line and any text, every input is read through: each call takes some of it, and the last one closes the listing
module _ (out : List ℕ) (enough : longest + closing ≤ length out) where
  closed : (state : State) (line places : List ℕ) → ReadThrough (length out) state line places []
  unfolding ReadsSome
  closed state line places =
      let text = end_of line places state in
      let stored = stored_from state.messages places (lines_from (take state.kept line) []) in
      let has : end_room out ≡ true = le-leb (longest + closing) (length out) enough in
      let a : EndAnswered line places out state (Some (length text)) stored (sets out 0 text) = record { written = rw has; stored = rw has; output = rw has } in
      record { text = take (length text) (sets out 0 text); calls = list_last state line places out (length text) stored (sets out 0 text) a; onward = refl }

  -- every input of at most n characters
  abbrev Through : ℕ → Type 0
  Through n = (state : State) (line places input : List ℕ) → length input ≤ n → line_room ≤ length line
      → ReadThrough (length out) state line places input

  one_more : (n : ℕ) → Through n → Through (suc n)
  unfolding ReadsSome
  one_more n again state line places [] h l = closed state line places
  one_more n again state line places (c ∷ rest) h l =
      let input = c ∷ rest in
      let w = done input 0 line places out state in
      let a = block-answered input 0 line places out state w.at w.line w.places w.out refl in
      let left = drop w.at.next input ++ [] in
      let on = a.onward l (omega arith) (omega arith) in
      let less : length left ≤ n = rw (append-nil (drop w.at.next input), length-drop w.at.next input) (omega arith) in
      let more = again w.at.state w.line w.places left less (omega (arith, block-lined input 0 line places out state)) in
      record {
        text = take w.at.filled w.out ++ more.text;
        calls = list_next state line places out input input 0 [] w.at w.line w.places w.out more.text (sym (append-nil input)) a more.calls;
        onward = (on, refl, more.onward);
      }

  none_left : Through 0
  none_left state line places [] h l = closed state line places
  none_left state line places (c ∷ rest) h l = absurd (omega arith)

  through : (n : ℕ) → Through n
  through zero = none_left
  through (suc n) = one_more n (through n)

  pub every-input : (line places input : List ℕ) → line_room ≤ length line → ReadThrough (length out) fresh_state line places input
  every-input line places input l = through (length input) fresh_state line places input (omega arith) l

  -- and so each of its lines is listed
  pub every-listing : (line places input : List ℕ) (l : line_room ≤ length line) → (every-input line places input l).text ≡ listing_of places input
  every-listing line places input l =
      let a = every-input line places input l in
      recording-text line places input a.text a.calls
