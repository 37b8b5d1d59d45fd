-- The list of kinds that a struct of arrays stands for: how long it is, what its entries are, and what one more kind makes of it.
use mathlib.Core.Path.{◌≡◌, refl, sym, ◌∙◌, ap}
use mathlib.Core.List.{List, [], ◌∷◌, ◌++◌}
use Prim.Native.Nat.{ℕ, zero, suc, min, ◌+◌, ◌≤◌, ◌<◌}
use native.Mathlib.Omega.{arith}
use native.Mathlib.Nat.{add-zero, min-eq_left, min-eq_right}
use borrow.Author.Tests.{lt-ltb, ltb-true, ltb-false}
use lib.Dec.{ltb}
use lib.ListN.{length, get_or, set}
use lib.Seq.{get_or-set_same, get_or-set_other}
use Rattle.choices.proofs.Choices.{by-test}
use Rattle.cdr.specs.declared.Place.{Place}
use Rattle.cdr.specs.declared.Order.{Order}
use Rattle.cdr.specs.declared.Order.TheVariants.{Big, Little}
use Rattle.cdr.specs.Orders.{order_octet}
use Rattle.type_kinds.specs.declared.Kind.{Kind}
use Rattle.type_kinds.specs.Parts.{written_at}
use Rattle.type_list.specs.declared.Met.{Met}
use Rattle.type_list.specs.Met.{no_kind, kind_no}
use Rattle.type_list.specs.Arrays.{order_in, entry_at, kinds_from, kinds_held, kinds_met, added}

-- ---- the list of a struct

module _ (m : Met) where
  length_from : (n i : ℕ) → length (kinds_from m n i) ≡ n
  unfolding kinds_from
  length_from zero i = refl
  length_from (suc n) i = ap suc (length_from n (i + 1))

  pub length-kinds : length (kinds_met m) ≡ kinds_held m
  unfolding kinds_met
  length-kinds = length_from (kinds_held m) 0

  pub kinds-few : length (kinds_met m) ≤ 64
  kinds-few =
      let l = length-kinds in
      by-test (ltb m.count 64)
      (λ t. let z : kinds_held m ≡ m.count = min-eq_left (omega (arith, ltb-true m.count 64 t)) in omega (arith, ltb-true m.count 64 t))
      (λ t. let z : kinds_held m ≡ 64 = min-eq_right (ltb-false m.count 64 t) in omega arith)

  get_from : (n i j : ℕ) (d : Kind) → j < n → get_or (kinds_from m n i) j d ≡ entry_at m (i + j)
  unfolding kinds_from
  get_from zero i j d l = absurd (omega arith)
  get_from (suc n) i zero d l = ap (entry_at m) (sym (add-zero i))
  get_from (suc n) i (suc j) d l = let z : i + 1 + j ≡ i + suc j = omega arith in get_from n (i + 1) j d (omega arith) ∙ ap (entry_at m) z

  pub kind-entry : (j : ℕ) → j < kinds_held m → kind_no (kinds_met m) j ≡ entry_at m j
  unfolding kinds_met
  kind-entry j l = let z : 0 + j ≡ j = omega arith in get_from (kinds_held m) 0 j no_kind l ∙ ap (entry_at m) z

  past-from : (n i j : ℕ) (d : Kind) → n ≤ j → get_or (kinds_from m n i) j d ≡ d
  unfolding kinds_from
  past-from zero i j d l = refl
  past-from (suc n) i zero d l = absurd (omega arith)
  past-from (suc n) i (suc j) d l = past-from n (i + 1) j d (omega arith)

  pub kind-past : (j : ℕ) → kinds_held m ≤ j → kind_no (kinds_met m) j ≡ no_kind
  unfolding kinds_met
  kind-past j l = past-from (kinds_held m) 0 j no_kind l

-- ---- one more kind

module _ (m m' : Met) where
  same_from : (n i : ℕ) → ((j : ℕ) → i ≤ j → j < i + n → entry_at m' j ≡ entry_at m j) → kinds_from m' n i ≡ kinds_from m n i
  unfolding kinds_from
  same_from zero i h = refl
  same_from (suc n) i h =
      ap (λ (a : Kind). a ∷ kinds_from m' n (i + 1)) (h i (omega arith) (omega arith))
      ∙ ap (λ (ks : List Kind). entry_at m i ∷ ks) (same_from n (i + 1) (λ j a l. h j (omega arith) (omega arith)))

more-from : (m : Met) (n i : ℕ) → kinds_from m (suc n) i ≡ kinds_from m n i ++ (entry_at m (i + n) ∷ [])
unfolding kinds_from
more-from m zero i = let z : i ≡ i + 0 = omega arith in ap (λ (j : ℕ). entry_at m j ∷ []) z
more-from m (suc n) i =
    let z : i + 1 + n ≡ i + suc n = omega arith in
    ap (λ (ks : List Kind). entry_at m i ∷ ks) (more-from m n (i + 1) ∙ ap (λ (j : ℕ). kinds_from m n (i + 1) ++ (entry_at m j ∷ [])) z)

order-back : (order : Order) → order_in (order_octet order) ≡ order
order-back Big = refl
order-back Little = refl

module _ (m : Met) (p b : Place) (order : Order) (room : m.count < 64) (low : p.0 < 65536) (low' : b.0 < 65536)
    (ps : length m.places ≡ 64) (ss : length m.starts ≡ 64) (os : length m.orders ≡ 64) where
  abbrev m₁ : Met
  m₁ =
      record {
        places = set m.places m.count p.0;
        starts = set m.starts m.count b.0;
        orders = set m.orders m.count (order_octet order);
        count = m.count + 1;
      }

  added_is : added m p b order ≡ m₁
  unfolding added
  added_is = rw (lt-ltb m.count 64 room, lt-ltb p.0 65536 low, lt-ltb b.0 65536 low')

  old-entry : (j : ℕ) → j < m.count → entry_at m₁ j ≡ entry_at m j
  old-entry j l =
      rw (
        get_or-set_other m.places m.count j p.0 0 (λ e. omega arith),
        get_or-set_other m.starts m.count j b.0 0 (λ e. omega arith),
        get_or-set_other m.orders m.count j (order_octet order) 0 (λ e. omega arith),
      )

  new-entry : entry_at m₁ m.count ≡ written_at p b order
  new-entry =
      rw (
        get_or-set_same m.places m.count p.0 0 (omega arith),
        get_or-set_same m.starts m.count b.0 0 (omega arith),
        get_or-set_same m.orders m.count (order_octet order) 0 (omega arith),
        order-back order,
      )

  -- the struct with one more kind stands for the list with one more
  pub added-kinds : kinds_met (added m p b order) ≡ kinds_met m ++ (written_at p b order ∷ [])
  unfolding kinds_met
  added-kinds =
      let n = m.count in
      let held : kinds_held m ≡ n = min-eq_left (omega arith) in
      let held₁ : min (n + 1) 64 ≡ suc n = min-eq_left (omega arith) ∙ omega arith in
      ap (λ (x : Met). kinds_from x (kinds_held x) 0) added_is
      ∙ ap (λ (x : ℕ). kinds_from m₁ x 0) held₁
      ∙ more-from m₁ n 0
      ∙ ap (λ (ks : List Kind). ks ++ (entry_at m₁ (0 + n) ∷ [])) (same_from m m₁ n 0 (λ j a l. old-entry j (omega arith)) ∙ ap (λ (x : ℕ). kinds_from m x 0) (sym held))
      ∙ ap (λ (a : Kind). kinds_from m (kinds_held m) 0 ++ (a ∷ [])) (let z : 0 + n ≡ n = omega arith in ap (entry_at m₁) z ∙ new-entry)
