-- Gaps: smaller than the size, and decided by the index modulo 8. What a read gives where a number fits and where not, and what an
-- answer tells.
use Rattle.std.specs.Prelude.{Option, Some, None}
use mathlib.Core.Path.{◌≡◌, refl, sym, ap, ◌∙◌}
use mathlib.Core.List.{List}
use mathlib.Core.Bool.{Bool, true, false}
use Prim.Native.Nat.{ℕ, ◌+◌, ◌-◌, ◌<◌, ◌≤◌, ◌%◌, ◌^◌}
use native.Mathlib.Omega.{arith}
use lib.Dec.{ltb}
use lib.ListN.{length}
use borrow.Author.Tests.{lt-ltb, le-ltb, ltb-true, ltb-false}
use Rattle.choices.proofs.Choices.{clash}
use Rattle.choices.proofs.Tuples.{some-pair}
use Rattle.cdr.specs.declared.Order.{Order}
use Rattle.cdr.specs.declared.Size.{Size}
use Rattle.cdr.specs.declared.Size.TheVariants.{One, Two, Four, Eight}
use Rattle.cdr.specs.declared.Index.{Index}
use Rattle.cdr.specs.Align.{octets, gap, aligned, behind_gap, index_of, aligned_of}
use Rattle.cdr.specs.Number.{read_of, number_at}

pub octets-small : (size : Size) → octets size ≤ 8
octets-small One = omega arith
octets-small Two = omega arith
octets-small Four = omega arith
octets-small Eight = omega arith

pub gap-small : (size : Size) (i : ℕ) → gap i (octets size) < octets size
gap-small One i = omega arith
gap-small Two i = omega arith
gap-small Four i = omega arith
gap-small Eight i = omega arith

pub gap-modulo-8 : (size : Size) (start at : ℕ) → gap (start % 8 + at) (octets size) ≡ gap (start + at) (octets size)
gap-modulo-8 One start at = omega arith
gap-modulo-8 Two start at = omega arith
gap-modulo-8 Four start at = omega arith
gap-modulo-8 Eight start at = omega arith

-- the aligned index, counted from the slice's first octet
pub behind-gap : (size : Size) (start : Index) (at : ℕ)
    → aligned (start.0 % 8 + at) (octets size) - start.0 % 8 ≡ behind_gap start at (octets size)
behind-gap size start at = let e = gap-modulo-8 size start.0 at in omega arith

abbrev at-index : Option Index → ℕ
at-index (Some j) = j.0
at-index None = 0

-- what each answer of an alignment tells
module _ (i : Index) (size : Size) where
  at-by : (t : Bool) → ltb (aligned i.0 (octets size)) (2 ^ 64) ≡ t → (j : Index) → aligned_of i size ≡ Some j → j.0 ≡ aligned i.0 (octets size)
  at-by true t j e = let f : (Some (index_of (aligned i.0 (octets size)))) ≡ Some j = rw t at e in ap at-index (sym f)
  at-by false t j e = let f : None ≡ Some j = rw t at e in clash cc

  beyond-by : (t : Bool) → ltb (aligned i.0 (octets size)) (2 ^ 64) ≡ t → aligned_of i size ≡ None → 2 ^ 64 ≤ aligned i.0 (octets size)
  beyond-by true t e =
      let f : (Some (index_of (aligned i.0 (octets size)))) ≡ None = rw t at e in clash cc
  beyond-by false t e = ltb-false _ _ t

  pub aligned_at : (j : Index) → aligned_of i size ≡ Some j → j.0 ≡ aligned i.0 (octets size)
  aligned_at j e = at-by _ refl j e

  pub aligned-beyond : aligned_of i size ≡ None → 2 ^ 64 ≤ aligned i.0 (octets size)
  aligned-beyond e = beyond-by _ refl e

-- the place of an aligned index, whose alignment was counted modulo 8
pub place-at : (size : Size) (start : Index) (at : ℕ) (j : Index) → aligned_of (index_of (start.0 % 8 + at)) size ≡ Some j
    → j.0 - start.0 % 8 ≡ behind_gap start at (octets size)
place-at size start at j e =
    ap (λ (k : ℕ). k - start.0 % 8) (aligned_at (index_of (start.0 % 8 + at)) size j e) ∙ behind-gap size start at

-- where a number that was read stands, and what it is
pub record NumberRead (v : List ℕ) (start : Index) (at : ℕ) (size : Size) (order : Order) (p x : ℕ) : Type 0 where
  pub place : p ≡ behind_gap start at (octets size)
  pub fits : p + octets size ≤ length v
  pub value : x ≡ number_at v p (octets size) order

module _ (v : List ℕ) (start : Index) (at : ℕ) (size : Size) (order : Order) where
  pub read-ends : length v < behind_gap start at (octets size) + octets size → read_of v start at size order ≡ None
  unfolding read_of
  read-ends h = simp (lt-ltb (length v) (behind_gap start at (octets size) + octets size) h)

  pub read_number : behind_gap start at (octets size) + octets size ≤ length v
      → read_of v start at size order
      ≡ Some (behind_gap start at (octets size), number_at v (behind_gap start at (octets size)) (octets size) order)
  unfolding read_of
  read_number h = simp (le-ltb (length v) (behind_gap start at (octets size) + octets size) h)

  facts-by : (t : Bool) → ltb (length v) (behind_gap start at (octets size) + octets size) ≡ t → (p x : ℕ)
      → read_of v start at size order ≡ Some (p, x) → NumberRead v start at size order p x
  facts-by true t p x e =
      let n = read-ends (ltb-true _ _ t) in
      clash cc
  facts-by false t p x e =
      let h = ltb-false _ _ t in
      let n = read_number h in
      let parts = some-pair (sym e ∙ n) in
      let q : p ≡ behind_gap start at (octets size) = cc in
      let y : x ≡ number_at v (behind_gap start at (octets size)) (octets size) order = cc in
      record { place = q; fits = omega arith; value = y ∙ ap (λ (k : ℕ). number_at v k (octets size) order) (sym q) }

  pub read-facts : (p x : ℕ) → read_of v start at size order ≡ Some (p, x) → NumberRead v start at size order p x
  read-facts p x e = facts-by _ refl p x e
