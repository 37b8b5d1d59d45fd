-- What the struct that the check keeps stands for, after each change.
use mathlib.Core.Path.{◌≡◌, refl, sym, ◌∙◌, ap}
use mathlib.Core.List.{List, [], ◌∷◌, ◌++◌}
use mathlib.Core.Bool.{Bool, false}
use Prim.Native.Nat.{ℕ, zero, suc, ◌≤◌, ◌<◌}
use native.Mathlib.Omega.{arith}
use native.Mathlib.Nat.{min-eq_left, min-eq_right}
use borrow.Author.Tests.{ltb-true, ltb-false}
use lib.Dec.{ltb}
use lib.ListN.{length, get_or, set, take, length-append}
use lib.Seq.{take-set-lt, take-set-le, take-suc-set, get_or-take}
use Rattle.choices.proofs.Choices.{by-test}
use Rattle.cdr.specs.declared.Place.{Place}
use Rattle.cdr.specs.declared.Order.{Order}
use Rattle.type_kinds.specs.declared.Kind.{Kind}
use Rattle.type_kinds.specs.declared.Form.{Form}
use Rattle.type_list.specs.declared.Met.{Met}
use Rattle.type_kinds.specs.Parts.{written_at}
use Rattle.type_list.specs.Arrays.{kinds_from, kinds_held, kinds_met, no_kinds, added}
use Rattle.type_list.proofs.KindsMet.{length-kinds, added-kinds}
use Rattle.type_walk.specs.declared.Walk as kept
use Rattle.type_walk.specs.Walk.{Walk, seen, nothing_met, is_barred, entered, closed_at}

both : (w : Walk) {ks : List Kind} {bs : List Bool} → w.kinds ≡ ks → w.barred ≡ bs → w ≡ record { kinds = ks; barred = bs }
both w {ks} {bs} e f =
    ap (λ (x : List Kind). record { kinds = x; barred = w.barred }) e ∙ ap (λ (x : List Bool). record { kinds = ks; barred = x }) f

-- no kind met
pub seen_none : (w : kept.Walk) → w.met ≡ no_kinds → seen w ≡ nothing_met
unfolding kinds_met kinds_from
seen_none w e = rw e

-- room for one more
pub held-room : (m : Met) → length (kinds_met m) < 64 → (m.count < 64) × (length (kinds_met m) ≡ m.count)
held-room m h =
    let l = length-kinds m in
    by-test (ltb m.count 64)
    (λ t. let c = ltb-true m.count 64 t in (c, l ∙ min-eq_left (omega arith)))
    (λ t. let z : kinds_held m ≡ 64 = min-eq_right (ltb-false m.count 64 t) in absurd (omega arith))

-- one more kind
module _ (w r : kept.Walk) (p b : Place) (order : Order) (form : Form) (room : length (kinds_met w.met) < 64) (low : p.0 < 65536) (low' : b.0 < 65536)
    (ps : length w.met.places ≡ 64) (ss : length w.met.starts ≡ 64) (os : length w.met.orders ≡ 64) (bs : length w.barred ≡ 64) where
  abbrev ks : List Kind
  ks = kinds_met w.met

  more : kinds_met (added w.met p b order) ≡ ks ++ (written_at p b order ∷ [])
  more = added-kinds w.met p b order (held-room w.met room).0 low low' ps ss os

  pub seen-entered : r.met ≡ added w.met p b order → r.barred ≡ set w.barred (length ks) (is_barred form) → seen r ≡ entered (seen w) p b order form
  unfolding entered
  seen-entered e q =
      let kinds : kinds_met r.met ≡ ks ++ (written_at p b order ∷ []) = ap kinds_met e ∙ more in
      let long : length (ks ++ (written_at p b order ∷ [])) ≡ suc (length ks) = length-append ks (written_at p b order ∷ []) ∙ omega arith in
      let barred : take (length (kinds_met r.met)) r.barred ≡ take (length ks) w.barred ++ (is_barred form ∷ []) =
      ap (λ (l : List Kind). take (length l) r.barred) kinds ∙ ap (λ (n : ℕ). take n r.barred) long
      ∙ ap (take (suc (length ks))) q ∙ take-suc-set w.barred (length ks) (is_barred form) (omega arith) in
      both (seen r) kinds barred

set_past : (l : List Bool) (i : ℕ) (a : Bool) → length l ≤ i → set l i a ≡ l
set_past [] i a h = refl
set_past (x ∷ xs) zero a h = absurd (omega arith)
set_past (x ∷ xs) (suc i) a h = ap (λ (r : List Bool). x ∷ r) (set_past xs i a (omega arith))

take_short : (n : ℕ) (l : List Bool) → length (take n l) ≤ n
take_short zero l = omega arith
take_short (suc n) [] = omega arith
take_short (suc n) (x ∷ xs) = omega (arith, take_short n xs)

take-set : (n : ℕ) (l : List Bool) (i : ℕ) (a : Bool) → take n (set l i a) ≡ set (take n l) i a
take-set n l i a =
    by-test (ltb i n) (λ t. take-set-lt n l i a (ltb-true i n t)) (λ t.
    let h = ltb-false i n t in
    take-set-le n l i a h ∙ sym (set_past (take n l) i a (omega (arith, take_short n l))))

-- a kind is read to its end
pub seen-closed : (w r : kept.Walk) (here : ℕ) → r.met ≡ w.met → r.barred ≡ set w.barred here false → seen r ≡ closed_at (seen w) here
unfolding closed_at
seen-closed w r here e q =
    let n = length (kinds_met w.met) in
    let barred : take (length (kinds_met r.met)) r.barred ≡ set (take n w.barred) here false =
    ap (λ (m : Met). take (length (kinds_met m)) r.barred) e ∙ ap (take n) q ∙ take-set n w.barred here false in
    both (seen r) (ap kinds_met e) barred

-- whether a kind of the list is no target yet
pub seen-barred : (w : kept.Walk) (i : ℕ) → i < length (kinds_met w.met) → get_or (seen w).barred i false ≡ get_or w.barred i false
seen-barred w i l = get_or-take (length (kinds_met w.met)) w.barred i false l
