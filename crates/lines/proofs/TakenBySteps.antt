-- What the steps of the search for the LF and of `take_line` amount to.
use Rattle.std.specs.Prelude.{Option}
use mathlib.Core.Path.{◌≡◌, refl, sym, ap, ◌∙◌}
use mathlib.Core.List.{List, ◌∷◌}
use mathlib.Core.Bool.{Bool, true, false, ◌||◌}
use Prim.Native.Nat.{ℕ, suc, ◌+◌, ◌-◌, ◌<◌, ◌≤◌, min}
use native.Mathlib.Nat.{min-le_right, sub-eq-zero_of_le}
use native.Mathlib.Numerals.{add-one}
use native.Mathlib.Omega.{arith, min_cases}
use lib.Dec.{ltb, eqb}
use lib.ListN.{get_or, length, take, drop, length-drop, drop_of_length-le, length-append, take-append-drop}
use lib.Seq.{sets, length-take-le, drop-cons, drop-drop, take_all, take-take}
use borrow.Author.Tests.{eq-eqb, ne_eqb, lt-ltb, le-ltb, ltb-true, ltb-false}
use Rattle.choices.proofs.Choices.{by-test}
use Rattle.choices.specs.Branch.{choose}
use Rattle.cdr_write.specs.Write.{Stored}
use Rattle.cdr_write.proofs.BufferHolds.{stored-fits}
use Rattle.lines.specs.Lines.{lf, up_to_lf, has_lf, taken_of, kept_into, LineTaken}
use Rattle.lines.specs.declared.Taken.{Taken}
use Rattle.lines.proofs.LinesOfBlocks.{up-append, up-lf, up-other, up-prefix, up-length, has-by-length, drop-within}

module _ (block : List ℕ) (i : ℕ) where
  -- the search has met an LF
  pub found : i < length block → get_or block i 0 ≡ lf → i + length (up_to_lf (drop i block)) ≡ i
  found h e = rw (drop-cons block i 0 h, up-lf (get_or block i 0) (drop (suc i) block) (eq-eqb _ _ e)) (omega arith)

  -- it goes on past another character
  pub onward : i < length block → (get_or block i 0 ≡ lf → ⊥) → i + 1 + length (up_to_lf (drop (i + 1) block)) ≡ i + length (up_to_lf (drop i block))
  onward h n =
      rw (drop-cons block i 0 h, up-other (get_or block i 0) (drop (suc i) block) (ne_eqb _ _ n), add-one i) (omega arith)

  -- it has come to the end
  pub at-end : length block ≤ i → i + length (up_to_lf (drop i block)) ≡ i
  unfolding up_to_lf
  at-end h = rw (drop_of_length-le block h) (omega arith)

-- an LF among characters: the first is one, or there is one among the others
has-cons : (c : ℕ) (rest : List ℕ) → has_lf (c ∷ rest) ≡ (eqb c lf || has_lf rest)
unfolding has_lf choose
has-cons c rest = by-test (eqb c lf) (λ e. rw e) (λ e. rw e)

or-or : (a b c : Bool) → ((a || b) || c) ≡ (a || (b || c))
or-or true b c = refl
or-or false b c = refl

or-none : (a : Bool) → (a || false) ≡ a
or-none true = refl
or-none false = refl

-- what has been judged, with what is left, gives the answer for all
pub met-turn : (l : List ℕ) (met : Bool) (k : ℕ) → k < length l → ((met || eqb (get_or l k 0) lf) || has_lf (drop (k + 1) l)) ≡ (met || has_lf (drop k l))
met-turn l met k h =
    or-or met (eqb (get_or l k 0) lf) (has_lf (drop (k + 1) l))
    ∙ ap (λ (i : ℕ). met || (eqb (get_or l k 0) lf || has_lf (drop i l))) (add-one k)
    ∙ ap (λ (b : Bool). met || b) (sym (has-cons (get_or l k 0) (drop (suc k) l)))
    ∙ ap (λ (r : List ℕ). met || has_lf r) (sym (drop-cons l k 0 h))

pub met-done : (l : List ℕ) (met : Bool) (k : ℕ) → length l ≤ k → met ≡ (met || has_lf (drop k l))
unfolding has_lf
met-done l met k h = sym (ap (λ (r : List ℕ). met || has_lf r) (drop_of_length-le l h) ∙ or-none met)

-- a run without an LF is passed over
pub run-passed : (block : List ℕ) (i n : ℕ) → i + n ≤ length block → has_lf (take (i + n - i) (drop i block)) ≡ false
    → i + n + length (up_to_lf (drop (i + n) block)) ≡ i + length (up_to_lf (drop i block))
run-passed block i n h e =
    let f : i + n - i ≡ n = omega arith in
    let d = length-drop i block in
    let l : length (take n (drop i block)) ≡ n = length-take-le n (drop i block) (omega arith) in
    let u = take n (drop i block) in
    let v = drop n (drop i block) in
    let g : length (up_to_lf (drop i block)) ≡ length u + length (up_to_lf v) =
    ap (λ (s : List ℕ). length (up_to_lf s)) (sym (take-append-drop n (drop i block)))
    ∙ ap length (up-append u v (ap (λ (k : ℕ). has_lf (take k (drop i block))) (sym f) ∙ e))
    ∙ length-append u (up_to_lf v) in
    let w : length (up_to_lf v) ≡ length (up_to_lf (drop (i + n) block)) = ap (λ (s : List ℕ). length (up_to_lf s)) (drop-drop n i block) in
    omega arith

-- as many of the line's characters as there is room for, counted in the block
pub up-take : (room : ℕ) (s : List ℕ) → take room (up_to_lf s) ≡ take (min (length (up_to_lf s)) room) s
up-take room s =
    min_cases (length (up_to_lf s)) room _
    (λ h e. rw e (take_all room (up_to_lf s) h ∙ up-prefix s))
    (λ h e. rw e (ap (take room) (up-prefix s) ∙ take-take room (length (up_to_lf s)) s h))

pub up-within : (i : ℕ) (s : List ℕ) → i ≤ length s → i + length (up_to_lf (drop i s)) ≤ length s
up-within i s h = omega (arith, up-length (drop i s), length-drop i s)

-- numbers of the steps: the characters found, the next one, those kept
steps-found : (start n : ℕ) → start + n - start ≡ n
steps-found start n = omega arith

steps_next : (from n end : ℕ) → min from end + n ≤ end → min (min from end + n + 1) end ≡ min (from + n + 1) end
steps_next from n end h = omega arith

steps-kept : (kept n room : ℕ) → min kept room + min n (room - min kept room) ≡ min (kept + n) room
steps-kept kept n room = omega arith

steps-full : (n kept room : ℕ) → room ≤ kept → min n (room - min kept room) ≡ 0
steps-full n kept room h = omega arith

-- what is kept fits the buffer, and stands in the block
pub held_fits : (kept size held n count : ℕ) → held ≡ min kept size → count ≡ min n (size - held) → held + count ≤ size
held_fits kept size held n count h c = omega arith

pub count_fits : (start stop end room count : ℕ) → start ≤ stop → stop ≤ end → count ≡ min (stop - start) room → start + count ≤ end
count_fits start stop end room count a b c = omega arith

pub kept-as : (block line : List ℕ) (start held count : ℕ) (r : Option ℕ) (last : List ℕ) → held + count ≤ length line → start + count ≤ length block
    → Stored line held (take (start + count - start) (drop start block)) r last → last ≡ sets line held (take count (drop start block))
kept-as block line start held count r last a b s =
    let e : start + count - start ≡ count = omega arith in
    let l : length (take count (drop start block)) ≡ count = length-take-le count (drop start block) (simp length-drop (omega arith)) in
    stored-fits line held (take count (drop start block)) r last (omega arith) (rw e at s)

steps-ended : (start n end : ℕ) → start ≤ end → ltb (start + n) end ≡ ltb n (end - start)
steps-ended start n end h =
    by-test (ltb n (end - start))
    (λ t. lt-ltb (start + n) end (omega (arith, ltb-true)) ∙ sym t)
    (λ t. le-ltb (start + n) end (omega (arith, ltb-false)) ∙ sym t)

-- what the steps of taking amount to, each step's number given by its equation
module _ (block line : List ℕ) (from kept start held stop next count : ℕ)
    (starts : start ≡ min from (length block))
    (holds : held ≡ min kept (length line))
    (stops : stop ≡ start + length (up_to_lf (drop start block)))
    (goes_on : next ≡ min (stop + 1) (length block))
    (counts : count ≡ min (stop - start) (length line - held))
  where
    same_rest : drop start block ≡ drop from block
    same_rest = ap (λ (k : ℕ). drop k block) starts ∙ drop-within from block

    stops-there : stop ≡ start + length (up_to_lf (drop from block))
    stops-there = rw (← same_rest) stops

    start-within : start ≤ length block
    start-within = rw starts (min-le_right from (length block))

    within : start + length (up_to_lf (drop from block)) ≤ length block
    within = rw (← same_rest) (up-within start block start-within)

    found-count : stop - start ≡ length (up_to_lf (drop from block))
    found-count = rw stops-there (steps-found start (length (up_to_lf (drop from block))))

    ends : ltb stop (length block) ≡ has_lf (drop from block)
    ends =
        rw (stops, ← same_rest, has-by-length (drop start block), length-drop start block)
        (steps-ended start (length (up_to_lf (drop start block))) (length block) start-within)

    steps-answer : ◌≡◌ {A = Taken} (record { next = next; kept = held + count; ended = ltb stop (length block) }) (taken_of block from (length line) kept)
    unfolding taken_of
    steps-answer =
        let n : next ≡ min (from + length (up_to_lf (drop from block)) + 1) (length block) =
        rw (goes_on, stops-there, starts) (steps_next from (length (up_to_lf (drop from block))) (length block) (rw starts at within))
        in
        let k : held + count ≡ min (kept + length (up_to_lf (drop from block))) (length line) =
        rw (counts, found-count, holds) (steps-kept kept (length (up_to_lf (drop from block))) (length line))
        in
        rw (n, k, ends)

    steps-buffer : sets line held (take count (drop start block)) ≡ kept_into block from line kept
    unfolding kept_into
    steps-buffer =
        min_cases kept (length line) _
        (λ h e.
        rw (same_rest, counts, found-count, holds, e) (ap (sets line kept) (sym (up-take (length line - kept) (drop from block)))))
        (λ h e. rw (counts, holds, steps-full (stop - start) kept (length line) h, sub-eq-zero_of_le h))

    pub steps-taken : LineTaken block from line kept (record { next = next; kept = held + count; ended = ltb stop (length block) }) (sets line held (take count (drop start block)))
    steps-taken = record { answered = steps-answer; filled = steps-buffer }
