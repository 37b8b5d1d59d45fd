-- Two lists of the same kinds in order of place are the same: the number of kinds written is one number.
use mathlib.Core.Path.{◌≡◌, refl, sym, ◌∙◌, ap}
use mathlib.Core.Logic.{◌↔◌}
use mathlib.Core.List.{List, [], ◌∷◌}
use Prim.Native.Nat.{ℕ}
use native.Mathlib.Omega.{arith}
use lib.ListN.{length}
use Rattle.cdr.specs.declared.Order.{Order}
use Rattle.type_kinds.specs.declared.Kind.{Kind}
use Rattle.choices.specs.Lists.{Among}
use Rattle.choices.specs.Lists.Among.{first, later}
use Rattle.type_laws.specs.Loops.{Ascending, Listed, KindCount}
use Rattle.type_laws.proofs.InnerKnown.{no-among}

-- an element of a list is its head or lies in its tail
module _ (a : Kind) (ks : List Kind) where
  head-or : {G : Type 0} (x : Kind) → Among x (a ∷ ks) → (x ≡ a → G) → (Among x ks → G) → G
  head-or x first f g = f refl
  head-or x (later h) f g = g h

same-list : (ks ls : List Kind) → Ascending ks → Ascending ls → ((a : Kind) → Among a ks ↔ Among a ls) → ks ≡ ls
same-list [] [] p q h = refl
same-list [] (b ∷ ls) p q h = no-among b ((h b).1 first)
same-list (a ∷ ks) [] p q h = no-among a ((h a).0 first)
same-list (a ∷ ks) (b ∷ ls) p q h =
    let e : a ≡ b =
    head-or b ls a ((h a).0 first) (λ z. z) (λ y. head-or a ks b ((h b).1 first) (λ z. sym z) (λ x. absurd (omega (arith, p.0 b x, q.0 a y)))) in
    let t : ks ≡ ls =
    same-list ks ls p.1 q.1 (λ x. (
      (λ y. head-or b ls x ((h x).0 (later y)) (λ z. absurd (omega (arith, p.0 x y, ap (λ (k : Kind). k.place.0) (z ∙ sym e)))) (λ z. z)),
      (λ y. head-or a ks x ((h x).1 (later y)) (λ z. absurd (omega (arith, q.0 x y, ap (λ (k : Kind). k.place.0) (z ∙ e)))) (λ z. z)),
    )) in
    ap (λ (x : Kind). x ∷ ks) e ∙ ap (λ (x : List Kind). b ∷ x) t

module _ (v : List ℕ) (order : Order) where
  pub listed-once : (ks ls : List Kind) → Listed v order ks → Listed v order ls → ks ≡ ls
  listed-once ks ls p q =
      same-list ks ls p.ascending q.ascending (λ a. ((λ y. (q.all a).1 ((p.all a).0 y)), (λ y. (p.all a).1 ((q.all a).0 y))))

  pub count-once : (j k : ℕ) → KindCount v order j → KindCount v order k → j ≡ k
  count-once j k p q = sym p.many ∙ ap length (listed-once p.kinds q.kinds p.listed q.listed) ∙ q.many
