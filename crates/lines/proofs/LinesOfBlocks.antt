-- Laws of lines taken from blocks, for those who read a recording.
use mathlib.Core.Path.{◌≡◌, refl, sym, ap, ◌∙◌}
use mathlib.Core.List.{List, [], ◌∷◌, ◌++◌, append_assoc, append-nil}
use mathlib.Core.Bool.{true, false, true≢false}
use Prim.Native.Nat.{ℕ, zero, suc, ◌+◌, ◌-◌, ◌<◌, ◌≤◌, min}
use native.Mathlib.Nat.{zero-sub, suc-sub-suc, sub-zero, sub_self, sub-eq-zero_of_le}
use native.Mathlib.Omega.{arith, min_cases}
use lib.Dec.{eqb, ltb, leb-suc-suc}
use lib.ListN.{length, take, drop, length-append, length-take, length-drop, drop_of_length-le}
use lib.Seq.{length-sets, length-take-le, take_all, take_at, take-append-le, drop-length, drop-drop}
use borrow.Author.Tests.{lt-ltb, ltb-true, ltb-false}
use Rattle.choices.proofs.Choices.{by-test}
use Rattle.choices.specs.Branch.{choose}
use Rattle.cdr_write.proofs.BufferHolds.{take-stored}
use Rattle.lines.specs.Lines.{lf, up_to_lf, has_lf, after_lf, last_line, lines_from, lines_of, taken_of, kept_into}

-- each definition at an LF, and at another character
module _ (c : ℕ) (rest : List ℕ) (e : eqb c lf ≡ true) where
  pub up-lf : up_to_lf (c ∷ rest) ≡ []
  unfolding up_to_lf choose
  up-lf = rw e

  has-lf : has_lf (c ∷ rest) ≡ true
  unfolding has_lf choose
  has-lf = rw e

  after-lf : after_lf (c ∷ rest) ≡ rest
  unfolding after_lf choose
  after-lf = rw e

  from-lf : (begun : List ℕ) → lines_from begun (c ∷ rest) ≡ begun ∷ lines_of rest
  unfolding lines_from choose
  from-lf begun = rw e

module _ (c : ℕ) (rest : List ℕ) (e : eqb c lf ≡ false) where
  pub up-other : up_to_lf (c ∷ rest) ≡ c ∷ up_to_lf rest
  unfolding up_to_lf choose
  up-other = rw e

  has_other : has_lf (c ∷ rest) ≡ has_lf rest
  unfolding has_lf choose
  has_other = rw e

  after-other : after_lf (c ∷ rest) ≡ after_lf rest
  unfolding after_lf choose
  after-other = rw e

  from-other : (begun : List ℕ) → lines_from begun (c ∷ rest) ≡ lines_from (begun ++ (c ∷ [])) rest
  unfolding lines_from choose
  from-other begun = rw e

-- the characters before the first LF are the first ones
pub up-prefix : (s : List ℕ) → up_to_lf s ≡ take (length (up_to_lf s)) s
unfolding up_to_lf
up-prefix [] = refl
up-prefix (c ∷ rest) =
    by-test (eqb c lf) (λ e. rw (up-lf c rest e)) (λ e. rw (up-other c rest e) (ap (λ (l : List ℕ). c ∷ l) (up-prefix rest)))

pub up-length : (s : List ℕ) → length (up_to_lf s) ≤ length s
up-length s = omega (arith, ap length (up-prefix s) ∙ length-take (length (up_to_lf s)) s)

-- there is an LF where not all characters stand before one
pub has-by-length : (s : List ℕ) → has_lf s ≡ ltb (length (up_to_lf s)) (length s)
unfolding up_to_lf has_lf
has-by-length [] = refl
has-by-length (c ∷ rest) =
    by-test (eqb c lf)
    (λ e. rw (has-lf c rest e, up-lf c rest e) (sym (lt-ltb 0 (suc (length rest)) (omega arith))))
    (λ e. rw (has_other c rest e, up-other c rest e) (has-by-length rest ∙ sym (leb-suc-suc (suc (length (up_to_lf rest))) (length rest))))

-- a place beyond the end counts as the end
pub drop-within : (from : ℕ) (s : List ℕ) → drop (min from (length s)) s ≡ drop from s
drop-within from s =
    min_cases from (length s) _ (λ h e. rw e) (λ h e. rw e (drop-length s ∙ sym (drop_of_length-le s h)))

-- without an LF all characters are the line's
pub up-all : (s : List ℕ) → has_lf s ≡ false → up_to_lf s ≡ s
unfolding up_to_lf
up-all [] h = refl
up-all (c ∷ rest) h =
    by-test (eqb c lf)
    (λ e. absurd (true≢false (sym (has-lf c rest e) ∙ h)))
    (λ e. up-other c rest e ∙ ap (λ (l : List ℕ). c ∷ l) (up-all rest (sym (has_other c rest e) ∙ h)))

pub up-append : (s more : List ℕ) → has_lf s ≡ false → up_to_lf (s ++ more) ≡ s ++ up_to_lf more
up-append [] more h = refl
up-append (c ∷ rest) more h =
    by-test (eqb c lf)
    (λ e. absurd (true≢false (sym (has-lf c rest e) ∙ h)))
    (λ e. up-other c (rest ++ more) e ∙ ap (λ (l : List ℕ). c ∷ l) (up-append rest more (sym (has_other c rest e) ∙ h)))

pub after-drop : (s : List ℕ) → after_lf s ≡ drop (suc (length (up_to_lf s))) s
unfolding after_lf
after-drop [] = refl
after-drop (c ∷ rest) =
    by-test (eqb c lf)
    (λ e. rw (after-lf c rest e, up-lf c rest e))
    (λ e. rw (after-other c rest e, up-other c rest e) (after-drop rest))

-- a line that has been begun goes on past an end without LF
pub lines-open : (begun s more : List ℕ) → has_lf s ≡ false → lines_from begun (s ++ more) ≡ lines_from (begun ++ s) more
lines-open begun [] more h = rw (append-nil begun)
lines-open begun (c ∷ rest) more h =
    by-test (eqb c lf)
    (λ e. absurd (true≢false (sym (has-lf c rest e) ∙ h)))
    (λ e.
    from-other c (rest ++ more) e begun
    ∙ lines-open (begun ++ (c ∷ [])) rest more (sym (has_other c rest e) ∙ h)
    ∙ ap (λ (l : List ℕ). lines_from l more) (append_assoc begun (c ∷ []) rest))

-- it ends at an LF, and the next begins
pub lines-ended : (begun s more : List ℕ) → has_lf s ≡ true
    → lines_from begun (s ++ more) ≡ (begun ++ up_to_lf s) ∷ lines_of (after_lf s ++ more)
unfolding has_lf
lines-ended begun [] more h = absurd (true≢false (sym h))
lines-ended begun (c ∷ rest) more h =
    by-test (eqb c lf)
    (λ e. rw (up-lf c rest e, after-lf c rest e, append-nil begun) (from-lf c (rest ++ more) e begun))
    (λ e.
    rw (up-other c rest e, after-other c rest e)
    (from-other c (rest ++ more) e begun
    ∙ lines-ended (begun ++ (c ∷ [])) rest more (sym (has_other c rest e) ∙ h)
    ∙ ap (λ (l : List ℕ). l ∷ lines_of (after_lf rest ++ more)) (append_assoc begun (c ∷ []) (up_to_lf rest))))

last-long : (l : List ℕ) → 0 < length l → last_line l ≡ l ∷ []
last-long [] h = absurd (omega arith)
last-long (c ∷ l) h = refl

-- the last line, which has no LF
pub lines-last : (begun : List ℕ) (c : ℕ) (rest : List ℕ) → has_lf (c ∷ rest) ≡ false
    → lines_from begun (c ∷ rest) ≡ (begun ++ (c ∷ rest)) ∷ []
unfolding lines_from
lines-last begun c rest h = ap (lines_from begun) (sym (append-nil (c ∷ rest))) ∙ lines-open begun (c ∷ rest) [] h ∙ last-long (begun ++ (c ∷ rest)) (simp length-append (omega arith))

-- the end of input
pub lines_end : (begun : List ℕ) → lines_from begun [] ≡ last_line begun
unfolding lines_from
lines_end begun = refl

after_none : (s : List ℕ) → has_lf s ≡ false → after_lf s ≡ []
after_none s h =
    let past : length s ≤ suc (length (up_to_lf s)) = omega (arith, ap length (up-all s h)) in
    after-drop s ∙ drop_of_length-le s past

-- what has been begun lengthens the first line, and no other
pub lines-first : (begun : List ℕ) (c : ℕ) (rest : List ℕ) → lines_from begun (c ∷ rest) ≡ (begun ++ up_to_lf (c ∷ rest)) ∷ lines_of (after_lf (c ∷ rest))
lines-first begun c rest =
    by-test (has_lf (c ∷ rest))
    (λ h. ap (lines_from begun) (sym (append-nil (c ∷ rest))) ∙ lines-ended begun (c ∷ rest) [] h ∙ ap (λ (s : List ℕ). (begun ++ up_to_lf (c ∷ rest)) ∷ lines_of s) (append-nil (after_lf (c ∷ rest))))
    (λ h. rw (up-all (c ∷ rest) h, after_none (c ∷ rest) h, lines_end []) (lines-last begun c rest h))

next-sum : (from n : ℕ) → from + n + 1 ≡ from + suc n
next-sum from n = omega arith

module _ (block : List ℕ) (from room kept : ℕ) where
  -- a loop over a block ends: each turn goes on, and none goes past the end
  pub next-most : (taken_of block from room kept).next ≤ length block
  unfolding taken_of
  next-most = omega arith

  pub next_more : from < length block → from < (taken_of block from room kept).next
  unfolding taken_of
  next_more h = omega arith

  pub kept-most : (taken_of block from room kept).kept ≤ room
  unfolding taken_of
  kept-most = omega arith

  -- what is left of the block
  pub next-rest : drop (taken_of block from room kept).next block ≡ after_lf (drop from block)
  unfolding taken_of
  next-rest =
      drop-within (from + length (up_to_lf (drop from block)) + 1) block
      ∙ ap (λ (k : ℕ). drop k block) (next-sum from (length (up_to_lf (drop from block))))
      ∙ sym (drop-drop (suc (length (up_to_lf (drop from block)))) from block)
      ∙ sym (after-drop (drop from block))

  -- a block in which the line ends
  pub block-ended : (begun more : List ℕ) → (taken_of block from room kept).ended ≡ true
      → lines_from begun (drop from block ++ more) ≡ (begun ++ up_to_lf (drop from block)) ∷ lines_of (drop (taken_of block from room kept).next block ++ more)
  unfolding taken_of
  block-ended begun more h =
      lines-ended begun (drop from block) more h
      ∙ ap (λ (s : List ℕ). (begun ++ up_to_lf (drop from block)) ∷ lines_of (s ++ more)) (sym next-rest)

  -- a block at whose end the line is open
  pub block-open : (begun more : List ℕ) → (taken_of block from room kept).ended ≡ false
      → lines_from begun (drop from block ++ more) ≡ lines_from (begun ++ up_to_lf (drop from block)) more
  unfolding taken_of
  block-open begun more h = rw (up-all (drop from block) h) (lines-open begun (drop from block) more h)

  pub next-open : (taken_of block from room kept).ended ≡ false → (taken_of block from room kept).next ≡ length block
  unfolding taken_of
  next-open h = omega (arith, ap length (up-all (drop from block) h), length-drop from block)

-- the buffer holds the line so far, or as much of it as there is room for
pub record Keeps (line : List ℕ) (kept : ℕ) (l : List ℕ) : Type 0 where
  pub count : kept ≡ length (take (length line) l)
  pub chars : take kept line ≡ take (length line) l

take-append : (n : ℕ) (xs ys : List ℕ) → take n (xs ++ ys) ≡ take n xs ++ take (n - length xs) ys
take-append zero xs ys = rw zero-sub
take-append (suc n) [] ys = rw sub-zero
take-append (suc n) (x ∷ xs) ys = rw suc-sub-suc (ap (λ (l : List ℕ). x ∷ l) (take-append n xs ys))

-- and so it does after a block
pub keeps-more : (block : List ℕ) (from : ℕ) (line : List ℕ) (kept : ℕ) (l : List ℕ) → Keeps line kept l
    → Keeps (kept_into block from line kept) (taken_of block from (length line) kept).kept (l ++ up_to_lf (drop from block))
unfolding kept_into taken_of
keeps-more block from line kept l k =
    let room = length line in
    let u = up_to_lf (drop from block) in
    let vs = take (room - kept) u in
    let h : kept ≡ min room (length l) = k.count ∙ length-take room l in
    let n : length vs ≡ min (room - kept) (length u) = length-take (room - kept) u in
    let e : min (kept + length u) room ≡ kept + length vs = omega arith in
    let d : room - length l ≡ room - kept = omega arith in
    record {
      count = rw (length-sets line kept vs, length-take room (l ++ u), length-append l u) (omega arith);
      chars =
          rw (length-sets line kept vs, e)
          (take-stored line vs kept (omega arith)
          ∙ ap (λ (x : List ℕ). x ++ vs) k.chars
          ∙ sym (take-append room l u ∙ ap (λ (m : ℕ). take room l ++ take m u) d));
    }

-- of what is kept, the first ones of more characters are kept
pub take-longer : (n : ℕ) (l u : List ℕ) → take n (take n l ++ u) ≡ take n (l ++ u)
take-longer n l u =
    by-test (ltb n (length l))
    (λ e.
    let g = ltb-true n (length l) e in
    let s = length-take-le n l (omega arith) in
    take_at (take n l) u n s ∙ sym (take-append-le n l u (omega arith)))
    (λ e. ap (λ (x : List ℕ). take n (x ++ u)) (take_all n l (ltb-false n (length l) e)))

-- more characters kept than there is room for count as many as there is
module _ (block : List ℕ) (from : ℕ) (line : List ℕ) (kept : ℕ) where
  most-kept : ℕ
  most-kept = min kept (length line)

  taken-most : taken_of block from (length line) most-kept ≡ taken_of block from (length line) kept
  unfolding taken_of most-kept
  taken-most =
      let n = length (up_to_lf (drop from block)) in
      let e : min (min kept (length line) + n) (length line) ≡ min (kept + n) (length line) = omega arith in
      rw e

  into-most : kept_into block from line most-kept ≡ kept_into block from line kept
  unfolding kept_into most-kept
  into-most =
      min_cases kept (length line) _
      (λ h e. rw e)
      (λ h e. rw (e, sub_self (length line), sub-eq-zero_of_le h))

  keeps-kept : Keeps line most-kept (take kept line)
  unfolding most-kept
  keeps-kept =
      min_cases kept (length line) _
      (λ h e.
      let l = length-take-le kept line h in
      let a : take (length line) (take kept line) ≡ take kept line = take_all (length line) (take kept line) (omega arith) in
      rw e (record { count = rw a (sym l); chars = sym a }))
      (λ h e.
      let a : take kept line ≡ line = take_all kept line h in
      let b : take (length line) line ≡ line = take_all (length line) line (omega arith) in
      rw (e, a) (record { count = rw b refl; chars = refl }))

  -- what the buffer holds after a block: the line so far, or as much of it as there is room for
  pub kept-is : take (taken_of block from (length line) kept).kept (kept_into block from line kept)
      ≡ take (length (kept_into block from line kept)) (take kept line ++ up_to_lf (drop from block))
  kept-is =
      rw (← taken-most, ← into-most) (keeps-more block from line most-kept (take kept line) keeps-kept).chars
