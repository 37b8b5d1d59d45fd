-- What the steps say after each of the functions that make them.
use mathlib.Core.Path.{◌≡◌, refl, sym, ◌∙◌, ap}
use mathlib.Core.Bool.{Bool, false, ◌&&◌, ◌||◌, or-false}
use mathlib.Core.List.{List}
use Prim.Native.Nat.{ℕ, zero, suc, ◌^◌, ◌<◌}
use lib.Dec.{eqb}
use lib.ListN.{get_or, set, length, replicate, length-set}
use lib.Seq.{get_or-set_same, get_or-set_other}
use borrow.Author.Tests.{lt-ltb, eqb-true, eqb-false}
use Rattle.choices.proofs.Choices.{by-test}
use Rattle.type_loops.specs.Loops.{bit_at, cell, row_with, with_step}
use Rattle.type_numbers.specs.{kinds_limit}
use Rattle.type_loops.proofs.RowBits.{bit-zero, bit-or, bit-power}

-- past its end a list gives 0 too
get_d-zeros : (n i : ℕ) → ◌≡◌ {A = ℕ} (get_or (replicate n 0) i 0) 0
get_d-zeros zero i = refl
get_d-zeros (suc n) zero = refl
get_d-zeros (suc n) (suc i) = get_d-zeros n i

pub none-cell : (i j : ℕ) → cell (replicate kinds_limit 0) i j ≡ false
none-cell i j = rw (get_d-zeros kinds_limit i) (bit-zero j)

row-with : (row j z : ℕ) → bit_at (row_with row j) z ≡ (bit_at row z || eqb z j)
row-with row j z = bit-or row (2 ^ j) z ∙ ap (λ (b : Bool). bit_at row z || b) (bit-power j z)

module _ (rows : List ℕ) (i j : ℕ) (hi : i < length rows) (hj : j < kinds_limit) where
  pub with_rows : with_step rows i j ≡ set rows i (row_with (get_or rows i 0) j)
  unfolding with_step
  with_rows = rw (lt-ltb i (length rows) hi, lt-ltb j kinds_limit hj)

  -- the row of kind i
  with-same : (z : ℕ) → cell (with_step rows i j) i z ≡ (cell rows i z || eqb z j)
  with-same z =
      ap (λ (after : List ℕ). cell after i z) with_rows
      ∙ ap (λ (row : ℕ). bit_at row z) (get_or-set_same rows i (row_with (get_or rows i 0) j) 0 hi)
      ∙ row-with (get_or rows i 0) j z

  -- the other rows
  with-other : (x z : ℕ) → (x ≡ i → ⊥) → cell (with_step rows i j) x z ≡ cell rows x z
  with-other x z f =
      ap (λ (after : List ℕ). cell after x z) with_rows
      ∙ ap (λ (row : ℕ). bit_at row z) (get_or-set_other rows i x (row_with (get_or rows i 0) j) 0 f)

  -- the steps are those that there were, and the one from i to j
  pub with_cell : (x z : ℕ) → cell (with_step rows i j) x z ≡ (cell rows x z || (eqb x i && eqb z j))
  with_cell x z =
      by-test (eqb x i)
      (λ e. rw (e, eqb-true x i e) (with-same z))
      (λ e. rw e (with-other x z (eqb-false x i e) ∙ sym (or-false (cell rows x z))))

  pub with-length : length (with_step rows i j) ≡ length rows
  with-length = ap length with_rows ∙ length-set rows i (row_with (get_or rows i 0) j)
