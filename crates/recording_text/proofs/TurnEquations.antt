-- What the turns of a block amount to.
use Rattle.std.proofs.Common.{◌≡◌, ℕ, zero, suc, ◌+◌, ◌<◌, ◌≤◌, Bool, true, false, ◌&&◌, ltb, leb, List, length, take, sym, refl, ap, ◌∙◌, arith, ltb-true, le-ltb, lt-ltb, le-leb, leb-true}
use borrow.Author.Tests.{lt-leb}
use Rattle.choices.proofs.Choices.{by-test, and-true}
use Rattle.choices.specs.Branch.{choose}
use Rattle.lines.specs.declared.Taken.{Taken}
use Rattle.lines.specs.Lines.{taken_of, kept_into, LineTaken}
use Rattle.lines.proofs.LinesOfBlocks.{next_more}
use Rattle.recording_text.specs.declared.line.Listed.{Listed}
use Rattle.recording_text.specs.Listing.{entry_of, number_after}
use Rattle.recording_text.specs.Listing.{longest}
use Rattle.recording_text.specs.Blocks.{line_room, Work, goes_on, line_ended, line_begun, turn_of, block_from, work_of}
use Rattle.recording_text.specs.Inner.{Lists}

-- whether a block goes on, in the order of the tests
module _ (block line out next filled : ℕ) where
  abbrev on : Bool
  on = ltb next block && (leb line_room line && leb (filled + longest) out)

  pub at-end : block ≤ next → false ≡ on
  at-end h = rw (le-ltb next block h)

  pub short-line : next < block → line < line_room → false ≡ on
  short-line h k = rw (lt-ltb next block h, lt-leb line_room line k)

  pub by-room : next < block → line_room ≤ line → leb (filled + longest) out ≡ on
  by-room h k = rw (lt-ltb next block h, le-leb line_room line k)

-- what it then has
pub record Goes (block : List ℕ) (w : Work) : Type 0 where
  pub more : w.at.next < length block
  pub whole : line_room ≤ length w.line
  pub room : w.at.filled + longest ≤ length w.out

pub goes : (block : List ℕ) (w : Work) → goes_on block w ≡ true → Goes block w
unfolding goes_on
goes block w h =
    let a = and-true _ _ h in
    let b = and-true _ _ a.1 in
    record { more = ltb-true _ _ a.0; whole = leb-true _ _ b.0; room = leb-true _ _ b.1 }

-- a turn, by whether the line ended
module _ (block : List ℕ) (w : Work) where
  abbrev pub taken : Taken
  taken = taken_of block w.at.next (length w.line) w.at.state.kept

  abbrev pub kept : List ℕ
  kept = kept_into block w.at.next w.line w.at.state.kept

  pub turn-ended : taken.ended ≡ true → turn_of block w ≡ line_ended taken kept w
  unfolding turn_of choose
  turn-ended e = rw e

  pub turn-begun : taken.ended ≡ false → turn_of block w ≡ line_begun taken kept w
  unfolding turn_of choose
  turn-begun e = rw e

  turn-next : (turn_of block w).at.next ≡ taken.next
  turn-next = by-test taken.ended (λ e. rw (turn-ended e)) (λ e. rw (turn-begun e))

  pub turn-goes : goes_on block w ≡ true → w.at.next < (turn_of block w).at.next
  turn-goes h =
      rw turn-next (next_more block w.at.next (length w.line) w.at.state.kept (goes block w h).more)

  pub block_on : goes_on block w ≡ true → (n : ℕ) → block_from (suc n) block w ≡ block_from n block (turn_of block w)
  unfolding block_from choose
  block_on h n = rw h

  pub block-stops : goes_on block w ≡ false → (n : ℕ) → block_from n block w ≡ w
  unfolding block_from choose
  block-stops h zero = refl
  block-stops h (suc n) = rw h

-- the steps of a turn amount to it
module _ (block : List ℕ) (w : Work) (t : Taken) (l : List ℕ) (k : LineTaken block w.at.next w.line w.at.state.kept t l) where
  pub begun-is : t.ended ≡ false → line_begun t l w ≡ turn_of block w
  begun-is e =
      ap (λ (x : Taken). line_begun x l w) k.answered ∙ ap (λ (x : List ℕ). line_begun (taken block w) x w) k.filled
      ∙ sym (turn-begun block w (sym (ap (λ (x : Taken). x.ended) k.answered) ∙ e))

  ended_is : t.ended ≡ true → line_ended t l w ≡ turn_of block w
  ended_is e =
      ap (λ (x : Taken). line_ended x l w) k.answered ∙ ap (λ (x : List ℕ). line_ended (taken block w) x w) k.filled
      ∙ sym (turn-ended block w (sym (ap (λ (x : Taken). x.ended) k.answered) ∙ e))

  pub answered-is : t.ended ≡ true → (number : ℕ) → number ≡ number_after w.at.state.lines → (r : Listed) (places_last out_last : List ℕ)
      → Lists (entry_of (take t.kept l) w.at.state.messages w.places) number w.out w.at.filled r places_last out_last
      → work_of (record { state = record { messages = r.after; lines = number; kept = 0 }; next = t.next; filled = r.end }) l places_last out_last ≡ turn_of block w
  answered-is e number n r places_last out_last q =
      rw (q.after, q.stored, q.text.end, q.text.contents, n) (ended_is e)

-- enough turns are as good as more
block-turns : (block : List ℕ) (n m : ℕ) (w : Work) → length block ≤ w.at.next + n → length block ≤ w.at.next + m
    → block_from n block w ≡ block_from m block w
block-turns block zero zero w h k = refl
block-turns block zero (suc m) w h k =
    by-test (goes_on block w)
    (λ g. absurd (omega (arith, (goes block w g).more)))
    (λ g. block-stops block w g zero ∙ sym (block-stops block w g (suc m)))
block-turns block (suc n) zero w h k =
    by-test (goes_on block w)
    (λ g. absurd (omega (arith, (goes block w g).more)))
    (λ g. block-stops block w g (suc n) ∙ sym (block-stops block w g zero))
block-turns block (suc n) (suc m) w h k =
    by-test (goes_on block w)
    (λ g.
    let t = turn-goes block w g in
    block_on block w g n ∙ block-turns block n m (turn_of block w) (omega arith) (omega arith) ∙ sym (block_on block w g m))
    (λ g. block-stops block w g (suc n) ∙ sym (block-stops block w g (suc m)))

-- what is left after a turn gives the same
pub block-turn : (block : List ℕ) (w : Work) → goes_on block w ≡ true
    → block_from (length block) block (turn_of block w) ≡ block_from (length block) block w
block-turn block w g =
    sym
    (block-turns block (length block) (suc (length block)) w (omega arith) (omega arith)
    ∙ block_on block w g (length block))

-- with enough turns, it goes as far as it can
pub block-done : (block : List ℕ) (n : ℕ) (w : Work) → length block ≤ w.at.next + n → goes_on block (block_from n block w) ≡ false
block-done block zero w h =
    by-test (goes_on block w)
    (λ g. absurd (omega (arith, (goes block w g).more)))
    (λ g. rw (block-stops block w g zero) g)
block-done block (suc n) w h =
    by-test (goes_on block w)
    (λ g. let t = turn-goes block w g in rw (block_on block w g n) (block-done block n (turn_of block w) (omega arith)))
    (λ g. rw (block-stops block w g (suc n)) g)

-- it goes on where characters and room are left
pub on-with : (block : List ℕ) (w : Work) → w.at.next < length block → line_room ≤ length w.line → w.at.filled + longest ≤ length w.out
    → goes_on block w ≡ true
unfolding goes_on
on-with block w a b c = rw (lt-ltb _ _ a, le-leb _ _ b, le-leb _ _ c)
