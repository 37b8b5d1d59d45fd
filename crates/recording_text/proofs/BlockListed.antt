-- Each turn writes the text that its line owes, and so does a whole call.
use Rattle.std.specs.Prelude.{Option, Some, None, Result, Ok, Err}
use Rattle.std.proofs.Common.{◌≡◌, ℕ, zero, suc, ◌+◌, ◌-◌, ◌<◌, ◌≤◌, true, false, ltb, List, [], ◌∷◌, ◌++◌, length, take, drop, sym, refl, ap, ◌∙◌, subst, true≢false, append_assoc, arith, length-append, take-take, drop-drop, ltb-false, ltb-true}
use lib.Seq.{length-sets, drop-length}
use Rattle.choices.proofs.Choices.{by-test}
use Rattle.hexline.specs.Decoding.{line_octets, decoded_of}
use Rattle.hexline.proofs.OctetsOfDigits.{digits-length}
use Rattle.lines.specs.Lines.{lf, up_to_lf, lines_from, lines_of, kept_into}
use Rattle.lines.proofs.LinesOfBlocks.{block-ended, block-open, next-open, next_more, next-most, kept-is, drop-within}
use Rattle.join_places.specs.declared.Record.{Record}
use Rattle.join_answers.specs.Answers.{output_in}
use Rattle.joining.specs.Answers.{message_written, step_within, answer_to}
use Rattle.join_laws.proofs.MessageFits.{message-fits}
use Rattle.cdr_write.proofs.BufferHolds.{take-stored, drop-stored}
use Rattle.recording_state.specs.declared.State.{State}
use Rattle.recording_text.specs.declared.Progress.{Progress}
use Rattle.decimals.specs.Decimal.{decimal}
use Rattle.recording_text.specs.Text.{space, line_text}
use Rattle.recording_text.specs.Listing.{octets_most, message_most, shown_of, LineEntry, entry_from, entry_of, number_after, entry_text, longest, listing_from}
use Rattle.recording_text.specs.Blocks.{line_room, Work, goes_on, line_ended, line_begun, turn_of, block_from, work_of, block_start, block_of, listing_after, BlockAnswered}
use Rattle.decimals.proofs.CharactersPut.{number-most}
use Rattle.recording_text.proofs.ListingCut.{entry-same, begun-cut}
use Rattle.recording_text.proofs.TurnEquations.{Goes, goes, taken, kept, turn-ended, turn-begun, turn-goes, block_on, block-stops, block-done, on-with}
use Rattle.hexline.specs.declared.Undecoded.TheVariants.{NoRoom, NotDigits, TooLong}
use Rattle.hexline.specs.declared.Undecoded.{Undecoded}

-- no answer is longer than the longest
shown-most : (o : Option ℕ) (message : List ℕ) → length message ≤ message_most → length (shown_of o message) ≤ 32768
shown-most (Some n) message h = rw (digits-length message) (omega arith)
shown-most None message h = omega arith

entry-shown : (d : Result ℕ Undecoded) (v : List ℕ) (r : Record) (places : List ℕ) → length (entry_from d v r places).shown ≤ 32768
entry-shown (Ok n) v r places =
    let step = step_within v r places message_most in
    shown-most (output_in (answer_to step r v places)) (message_written step r v places) (message-fits v r places message_most)
entry-shown (Err TooLong) v r places = omega arith
entry-shown (Err NotDigits) v r places = omega arith
entry-shown (Err NoRoom) v r places = omega arith

line-most : (line answer : ℕ) (shown : List ℕ) → length (line_text line answer shown) ≤ 43 + length shown
unfolding line_text
line-most line answer shown =
    let a = number-most line (space ∷ (decimal answer ++ (space ∷ (shown ++ (lf ∷ []))))) in
    let b = number-most answer (space ∷ (shown ++ (lf ∷ []))) in
    let c = length-append shown (lf ∷ []) in
    omega arith

pub entry-most : (number : ℕ) (line : List ℕ) (r : Record) (places : List ℕ) → length (entry_text number (entry_of line r places)) ≤ longest
unfolding entry_of
entry-most number line r places =
    let e = entry_from (decoded_of line octets_most) (line_octets line) r places in
    omega (arith, line-most number e.number e.shown, entry-shown (decoded_of line octets_most) (line_octets line) r places)

-- what is owed at a place of the block
pub owed : List ℕ → Work → List ℕ → List ℕ
owed block w rest = listing_after w.at.state w.line w.places (drop w.at.next block ++ rest)

-- one place after another
pub record Onto (block : List ℕ) (w v : Work) : Type 0 where
  pub listed : (rest : List ℕ) → take w.at.filled w.out ++ owed block w rest ≡ take v.at.filled v.out ++ owed block v rest
  pub within : w.at.filled ≤ length w.out → v.at.filled ≤ length v.out
  pub sized : length v.out ≡ length w.out
  pub lined : length v.line ≡ length w.line
  pub more : w.at.filled ≤ v.at.filled
  pub unfilled : drop v.at.filled v.out ≡ drop v.at.filled w.out
  pub further : w.at.next ≤ v.at.next
  pub inside : w.at.next ≤ length block → v.at.next ≤ length block

onto-self : (block : List ℕ) (w : Work) → Onto block w w
onto-self block w =
    record {
      listed = λ rest. refl;
      within = λ h. h;
      sized = refl;
      lined = refl;
      more = omega arith;
      unfilled = refl;
      further = omega arith;
      inside = λ h. h;
    }

onto-then : {block : List ℕ} {w v u : Work} → Onto block w v → Onto block v u → Onto block w u
onto-then {block} {w} {v} {u} p q =
    record {
      listed = λ rest. p.listed rest ∙ q.listed rest;
      within = λ h. q.within (p.within h);
      sized = q.sized ∙ p.sized;
      lined = q.lined ∙ p.lined;
      more = omega (arith, p.more, q.more);
      unfilled = q.unfilled ∙ drop-same v.out w.out v.at.filled u.at.filled q.more p.unfilled;
      further = omega (arith, p.further, q.further);
      inside = λ h. q.inside (p.inside h);
    }
  where
    drop-same : (a b : List ℕ) (m n : ℕ) → m ≤ n → drop m a ≡ drop m b → drop n a ≡ drop n b
    drop-same a b m n h e =
        let s : m + (n - m) ≡ n = omega arith in
        ap (λ (k : ℕ). drop k a) (sym s) ∙ sym (drop-drop (n - m) m a) ∙ ap (drop (n - m)) e ∙ drop-drop (n - m) m b ∙ ap (λ (k : ℕ). drop k b) s

-- a turn
module _ (block : List ℕ) (w : Work) (g : Goes block w) where
  abbrev state : State
  state = w.at.state

  -- the line so far, and to its LF or the block's end
  abbrev line : List ℕ
  line = take state.kept w.line ++ up_to_lf (drop w.at.next block)

  abbrev size : ℕ
  size = length (kept block w)

  same_size : size ≡ length w.line
  unfolding kept_into
  same_size = length-sets w.line state.kept (take (length w.line - state.kept) (up_to_lf (drop w.at.next block)))

  enough : 8192 < size
  enough = omega (arith, same_size, g.whole)

  held : take (taken block w).kept (kept block w) ≡ take size line
  held = kept-is block w.at.next w.line state.kept

  abbrev entry : LineEntry
  entry = entry_of (take (taken block w).kept (kept block w)) state.messages w.places

  abbrev text : List ℕ
  text = entry_text (number_after state.lines) entry

  text-fits : w.at.filled + length text ≤ length w.out
  text-fits = omega (arith, entry-most (number_after state.lines) (take (taken block w).kept (kept block w)) state.messages w.places, g.room)

  entry-is : entry_of line state.messages w.places ≡ entry
  entry-is = entry-same size enough line (take (taken block w).kept (kept block w)) state.messages w.places (sym (take-take size size line (omega arith)) ∙ ap (take size) (sym held))

  owed_ended : (taken block w).ended ≡ true → (rest : List ℕ)
      → owed block w rest ≡ text ++ listing_from (number_after state.lines) entry.after entry.stored (lines_of (drop (taken block w).next block ++ rest))
  unfolding owed listing_from
  owed_ended e rest =
      rw (block-ended block w.at.next (length w.line) state.kept (take state.kept w.line) rest e, entry-is)

  owed-begun : (taken block w).ended ≡ false → (rest : List ℕ)
      → owed block w rest ≡ listing_from state.lines state.messages w.places (lines_from (take (taken block w).kept (kept block w)) (drop (taken block w).next block ++ rest))
  unfolding owed
  owed-begun e rest =
      rw (block-open block w.at.next (length w.line) state.kept (take state.kept w.line) rest e, held, next-open block w.at.next (length w.line) state.kept e, drop-length block)
      (sym (begun-cut size enough state.lines state.messages w.places line rest))

  further-next : w.at.next ≤ (taken block w).next
  further-next = omega (arith, next_more block w.at.next (length w.line) state.kept g.more)

  onto-ended : (taken block w).ended ≡ true → Onto block w (line_ended (taken block w) (kept block w) w)
  unfolding owed
  onto-ended e =
      record {
        listed = λ rest.
            ap (λ (t : List ℕ). take w.at.filled w.out ++ t) (owed_ended e rest)
            ∙ sym (append_assoc (take w.at.filled w.out) text _)
            ∙ ap (λ (t : List ℕ). t ++ listing_from (number_after state.lines) entry.after entry.stored (lines_of (drop (taken block w).next block ++ rest)))
            (sym (take-stored w.out text w.at.filled text-fits));
        within = λ h. rw (length-sets w.out w.at.filled text) text-fits;
        sized = length-sets w.out w.at.filled text;
        lined = same_size;
        more = omega arith;
        unfilled = drop-stored w.out text w.at.filled text-fits;
        further = further-next;
        inside = λ h. next-most block w.at.next (length w.line) state.kept;
      }

  onto-begun : (taken block w).ended ≡ false → Onto block w (line_begun (taken block w) (kept block w) w)
  unfolding owed
  onto-begun e =
      record {
        listed = λ rest. ap (λ (t : List ℕ). take w.at.filled w.out ++ t) (owed-begun e rest);
        within = λ h. h;
        sized = refl;
        lined = same_size;
        more = omega arith;
        unfilled = refl;
        further = further-next;
        inside = λ h. next-most block w.at.next (length w.line) state.kept;
      }

  onto-turn : Onto block w (turn_of block w)
  onto-turn =
      by-test (taken block w).ended
      (λ e. rw (turn-ended block w e) (onto-ended e))
      (λ e. rw (turn-begun block w e) (onto-begun e))

onto-block : (block : List ℕ) (n : ℕ) (w : Work) → Onto block w (block_from n block w)
unfolding block_from
onto-block block zero w = onto-self block w
onto-block block (suc n) w =
    by-test (goes_on block w)
    (λ e. rw (block_on block w e n) (onto-then (onto-turn block w (goes block w e)) (onto-block block n (turn_of block w))))
    (λ e. rw (block-stops block w e (suc n)) (onto-self block w))

-- a whole call
module _ (block : List ℕ) (from : ℕ) (line places out : List ℕ) (state : State) where
  abbrev pub start : Work
  start = work_of (block_start block from state) line places out

  abbrev pub done : Work
  done = block_from (length block) block start

  onto : Onto block start done
  onto = onto-block block (length block) start

  owed_start : (rest : List ℕ) → owed block start rest ≡ listing_after state line places (drop from block ++ rest)
  unfolding owed
  owed_start rest = rw (drop-within from block)

  reached : line_room ≤ length line → done.at.filled + longest ≤ length out → done.at.next ≡ length block
  reached h k =
      let i = onto.inside (omega arith) in
      by-test (ltb done.at.next (length block))
      (λ e. absurd (true≢false (sym (on-with block done (ltb-true _ _ e) (rw onto.lined h) (rw onto.sized k)) ∙ block-done block (length block) start (omega arith))))
      (λ e. omega (arith, ltb-false done.at.next (length block) e))

  onward-by : (n : ℕ) → length block ≡ suc n → line_room ≤ length line → longest ≤ length out → from < length block → from < done.at.next
  onward-by n q h k l =
      let f : (block_start block from state).next ≡ from = omega arith in
      let g = on-with block start (omega arith) h (omega arith) in
      let t = turn-goes block start g in
      let o = (onto-block block n (turn_of block start)).further in
      let e : done ≡ block_from n block (turn_of block start) = ap (λ (j : ℕ). block_from j block start) q ∙ block_on block start g n in
      rw e (omega arith)

  answered : BlockAnswered block from line places out state done.at done.line done.places done.out
  unfolding owed block_of
  answered =
      record {
        listed = λ rest. sym (owed_start rest) ∙ onto.listed rest;
        within = omega (arith, onto.within (omega arith), onto.sized);
        unfilled = onto.unfilled;
        reached = reached;
        onward = λ h k l. let e : length block ≡ suc (length block - 1) = omega arith in onward-by (length block - 1) e h k l;
        decided = refl;
      }

  pub block-answered : (r : Progress) (line_last places_last out_last : List ℕ) → work_of r line_last places_last out_last ≡ done
      → BlockAnswered block from line places out state r line_last places_last out_last
  block-answered r line_last places_last out_last e =
      subst (λ (w : Work). BlockAnswered block from line places out state w.at w.line w.places w.out) (sym e) answered

  pub block-lined : length done.line ≡ length line
  block-lined = onto.lined
