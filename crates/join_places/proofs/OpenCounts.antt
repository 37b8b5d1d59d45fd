-- The messages open and the sum of their lengths: how a place that is opened, lengthened or freed changes them, and when all are open.
use Rattle.std.specs.Prelude.{Option, Some, None}
use mathlib.Core.Path.{◌≡◌, refl, ap}
use mathlib.Core.Bool.{Bool, true, false, cond, not}
use Prim.Native.Nat.{ℕ, ◌+◌, ◌≤◌, ◌<◌}
use native.Mathlib.Omega.{arith}
use lib.ListN.{length}
use lib.Seq.{get_or-set_same, get_or-set_other}
use borrow.Author.Tests.{not-false}
use Rattle.choices.proofs.Choices.{clash}
use Rattle.join_places.specs.declared.Record.{Record}
use Rattle.join_places.specs.Places.{places_count, is_open, length_of, first_with, lowest_free, open_at, open_count, open_length, open_lengths}
use Rattle.join_places.specs.Places.{closed, opened, lengthened}
use Rattle.join_places.proofs.FoldsChanged.{sum-changed, sum-full, sum-of-ones, FirstOf, first-is}

flag-most : (r : Record) (i : ℕ) → open_at r i ≤ 1
flag-most r i = by (is_open r i)
  where
    by : (b : Bool) → cond b 1 0 ≤ 1
    by true = omega arith
    by false = omega arith

flag-full : (b : Bool) → ◌≡◌ {A = ℕ} (cond b 1 0) 1 → b ≡ true
flag-full true e = refl
flag-full false e = clash cc

-- all are open exactly where as many are open as there are places
pub count-full : (r : Record) → places_count ≤ open_count r → (i : ℕ) → i < places_count → is_open r i ≡ true
unfolding open_count
count-full r h i l = flag-full (is_open r i) (sum-full (open_at r) places_count (flag-most r) h i l)

pub full-count : (r : Record) → ((i : ℕ) → i < places_count → is_open r i ≡ true) → open_count r ≡ places_count
unfolding open_count
full-count r all = sum-of-ones (open_at r) places_count (λ i h. ap (λ (b : Bool). cond b 1 0) (all i h))

-- where no place is free, as many are open as there are places
pub none_free : (r : Record) → lowest_free r ≡ None → places_count ≤ open_count r
unfolding lowest_free
none_free r e =
    let full = full-count r (by_first (first_with free places_count) (first-is free places_count) e) in
    omega arith
  where
    free : ℕ → Bool
    free i = not (is_open r i)

    by_first : (f : Option ℕ) → FirstOf free places_count f → f ≡ None → (i : ℕ) → i < places_count → is_open r i ≡ true
    by_first (Some j) f s = clash cc
    by_first None each s = λ i h. not-false (is_open r i) (each i h)

-- a record that differs from another at one place
module _ (r q : Record) (i : ℕ) (place : i < places_count)
    (flags : (j : ℕ) → (j ≡ i → ⊥) → is_open q j ≡ is_open r j) (lengths : (j : ℕ) → (j ≡ i → ⊥) → length_of q j ≡ length_of r j) where
  pub count-changed : open_count q + open_at r i ≡ open_count r + open_at q i
  unfolding open_count
  count-changed = sum-changed (open_at r) (open_at q) places_count i place (λ j n. ap (λ (b : Bool). cond b 1 0) (flags j n))

  pub lengths-changed : open_lengths q + open_length r i ≡ open_lengths r + open_length q i
  unfolding open_lengths
  lengths-changed = sum-changed (open_length r) (open_length q) places_count i place (λ j n. rw (flags j n, lengths j n))

-- a place that was free is opened
module _ (r : Record) (i id n : ℕ) (place : i < places_count) (free : is_open r i ≡ false)
    (long : places_count ≤ length r.opened) (longer : places_count ≤ length r.lengths) where
  abbrev first : Record
  first = opened r i id n

  flag : is_open first i ≡ true
  flag = get_or-set_same r.opened i true false (omega arith)

  others : (j : ℕ) → (j ≡ i → ⊥) → is_open first j ≡ is_open r j
  others j other = get_or-set_other r.opened i j true false other

  long-others : (j : ℕ) → (j ≡ i → ⊥) → length_of first j ≡ length_of r j
  long-others j other = get_or-set_other r.lengths i j n 0 other

  pub count-opened : open_count (opened r i id n) ≡ open_count r + 1
  count-opened =
      let c = count-changed r first i place others long-others in
      let a : open_at r i ≡ 0 = rw free in
      let b : open_at first i ≡ 1 = rw flag in
      omega arith

  pub lengths-opened : open_lengths (opened r i id n) ≡ open_lengths r + n
  lengths-opened =
      let c = lengths-changed r first i place others long-others in
      let a : open_length r i ≡ 0 = rw free in
      let b : open_length first i ≡ n = rw flag (get_or-set_same r.lengths i n 0 (omega arith)) in
      omega arith

-- an open place's message is lengthened
module _ (r : Record) (i n : ℕ) (place : i < places_count) (open-at : is_open r i ≡ true) (long : places_count ≤ length r.lengths) where
  pub count-lengthened : open_count (lengthened r i n) ≡ open_count r
  unfolding open_count
  count-lengthened = refl

  pub lengths-lengthened : open_lengths (lengthened r i n) + length_of r i ≡ open_lengths r + n
  lengths-lengthened =
      let c = lengths-changed r (lengthened r i n) i place (λ j other. refl) (λ j other. get_or-set_other r.lengths i j n 0 other) in
      let a : open_length r i ≡ length_of r i = rw open-at in
      let b : open_length (lengthened r i n) i ≡ n = rw open-at (get_or-set_same r.lengths i n 0 (omega arith)) in
      omega arith

-- an open place is freed
module _ (r : Record) (i : ℕ) (place : i < places_count) (open-at : is_open r i ≡ true) (long : places_count ≤ length r.opened) where
  freed : is_open (closed r i) i ≡ false
  freed = get_or-set_same r.opened i false false (omega arith)

  left : (j : ℕ) → (j ≡ i → ⊥) → is_open (closed r i) j ≡ is_open r j
  left j other = get_or-set_other r.opened i j false false other

  pub count-closed : open_count (closed r i) + 1 ≡ open_count r
  count-closed =
      let c = count-changed r (closed r i) i place left (λ j other. refl) in
      let a : open_at r i ≡ 1 = rw open-at in
      let b : open_at (closed r i) i ≡ 0 = rw freed in
      omega arith

  pub lengths-closed : open_lengths (closed r i) + length_of r i ≡ open_lengths r
  lengths-closed =
      let c = lengths-changed r (closed r i) i place left (λ j other. refl) in
      let a : open_length r i ≡ length_of r i = rw open-at in
      let b : open_length (closed r i) i ≡ 0 = rw freed in
      omega arith
