-- 39 is given exactly when no octet is at fault and some kind returns to itself; and what an accepted type promises.
use Rattle.std.specs.Prelude.{Result, Ok, Err}
use mathlib.Core.Path.{◌≡◌, refl, sym, ◌∙◌, ap, subst}
use mathlib.Core.List.{List, [], ◌∷◌}
use mathlib.Core.Bool.{Bool, true, false, ◌||◌, false≢true}
use Prim.Native.Nat.{ℕ, ◌≤◌, ◌<◌}
use borrow.Author.Tests.{eqb-true, le-ltb, lt-ltb, ltb-true, ltb-false}
use lib.Dec.{ltb}
use lib.ListN.{length}
use Rattle.choices.specs.Branch.{choose}
use Rattle.choices.specs.Lists.{any_of, All}
use Rattle.choices.proofs.Choices.{by-test, clash}
use Rattle.choices.proofs.Tuples.{ok-pair}
use Rattle.cdr.specs.declared.Index.{Index}
use Rattle.cdr.specs.declared.Order.{Order}
use Rattle.type_kinds.specs.declared.Inner.{Inner}
use Rattle.type_parameters.specs.declared.Parameters.{Parameters}
use Rattle.type_parameters.specs.declared.Parameters.TheVariants.{Fault, Flat, Struct, Exception, Union, Sequence, Array, Alias}
use Rattle.type_kinds.specs.declared.Kind.{Kind}
use Rattle.type_counts.specs.declared.Refusal.TheVariants.{TooLong}
use Rattle.cdr.specs.Align.{index_of}
use Rattle.type_kinds.specs.Parts.{place_of, place_in}
use Rattle.type_loops.specs.Loops.{loop_found}
use Rattle.type_loops.proofs.LoopDecided.{Returns, loop-decided}
use Rattle.type_loops.proofs.RankFalls.{rank-low, rank_falls}
use Rattle.type_list.specs.Met.{find_kind, parameters_of}
use Rattle.type_unions.specs.Shapes.{shape_of}
use Rattle.type_fields.specs.Fields.{nesting_limit}
use Rattle.type_walk.specs.Walk.{Walk, Walked, nothing_met}
use Rattle.type_walk.specs.Types.{type_at, walked_of}
use Rattle.type_steps.specs.Steps.{stands, any_stands, steps_of, steps}
use Rattle.typecode.specs.TypeCode.{CheckedType, without_type, accepted_type, loop_last, checked_type}
use Rattle.type_laws.proofs.Sound.{Fitting, Sound}
use Rattle.type_laws.proofs.AcceptedAs.{Returning, AcceptedAs}
use Rattle.type_laws.proofs.InnerKnown.{Complete}
use Rattle.type_laws.proofs.ReadAgain.{complete}
use Rattle.type_laws.proofs.PlaceFound.{known-low, known-seen}
use Rattle.type_counts.specs.declared.Refusal.{Refusal}
use Rattle.typecode.specs.declared.NoType.TheVariants.{Loop, Refused}

-- ---- a step leads to a kind of the list

either-of : {A : Type 0} (a b : Bool) → (a || b) ≡ true → (a ≡ true → A) → (b ≡ true → A) → A
either-of true b e f g = f refl
either-of false b e f g = g e

steps-fit : (v : List ℕ) (m : List Kind) (p : Parameters) → Sound v m p → All (Fitting v m) (steps_of (shape_of v m p))
unfolding steps_of shape_of
steps-fit v m Fault h = absurd h
steps-fit v m (Flat i) h = tt
steps-fit v m (Struct g) h = h.1.all
steps-fit v m (Exception g) h = h.all
steps-fit v m (Union g d default) h = (h.0, h.4.all)
steps-fit v m (Sequence x bound) h = tt
steps-fit v m (Array x n) h = (h.1, tt)
steps-fit v m (Alias x) h = (h, tt)

module _ (v : List ℕ) (order : Order) (m : List Kind) (c : Complete v order m) where
  any-low : (k : ℕ) (xs : List Inner) → All (Fitting v m) xs → any_stands m k xs ≡ true → k < length m
  unfolding any_of
  any-low k [] h e = absurd (false≢true e)
  any-low k (x ∷ xs) h e =
      either-of (stands m (place_in x) k) (any_stands m k xs) e
      (λ z. subst (λ (y : ℕ). y < length m) (eqb-true (find_kind m (place_in x)) k z) (known-low v order m c x h.0.0))
      (any-low k xs h.1)

  pub step-low : (i j : ℕ) → i < length m → steps v m i j ≡ true → j < length m
  unfolding steps
  step-low i j l e =
      any-low j (steps_of (shape_of v m (parameters_of v m i))) (steps-fit v m (parameters_of v m i) (c.good i l).sound) e

-- ---- the walk that has no fault

module _ (v : List ℕ) (order : Order) where
  abbrev m : List Kind
  m = (walked_of v order).walk.kinds

  walked-long : 16384 < length v → (walked_of v order).step ≡ Err TooLong
  unfolding walked_of choose
  walked-long h = rw (lt-ltb 16384 (length v) h)

  pub walked-short : length v ≤ 16384 → walked_of v order ≡ type_at v nesting_limit v (place_of 0) order (index_of 0) nothing_met
  unfolding walked_of choose
  walked-short h = rw (le-ltb 16384 (length v) h)

  module _ (i : Index) (e : (walked_of v order).step ≡ Ok i) where
    pub short : length v ≤ 16384
    short =
        by-test (ltb 16384 (length v))
        (λ t. let q : Err TooLong ≡ Ok i = sym (walked-long (ltb-true 16384 (length v) t)) ∙ e in clash cc)
        (λ t. ltb-false 16384 (length v) t)

    completes : (w : Walk) → w ≡ nothing_met → walked_of v order ≡ type_at v nesting_limit v (place_of 0) order (index_of 0) w → Complete v order m
    completes w z q =
        subst (λ (c : Walked). Complete v order c.walk.kinds) (sym q) (complete v order w z i (sym (ap (λ (c : Walked). c.step) q) ∙ e))

    pub walked-complete : Complete v order m
    walked-complete = completes nothing_met refl (walked-short short)

    last : checked_type v order ≡ loop_last v i m
    unfolding checked_type
    last = rw e

    decided : (loop_found (length m) (steps v m) ≡ true → Returns (length m) (steps v m)) × (Returns (length m) (steps v m) → loop_found (length m) (steps v m) ≡ true)
    decided = loop-decided (length m) (steps v m) (λ x y l q. step-low v order m walked-complete x y l q)

    pub loops : loop_found (length m) (steps v m) ≡ true → checked_type v order ≡ without_type (Err Loop)
    unfolding loop_last choose
    loops t = last ∙ rw t

    pub passes : loop_found (length m) (steps v m) ≡ false → checked_type v order ≡ accepted_type i m
    unfolding loop_last choose
    passes t = last ∙ rw t

  -- 39 exactly when no octet is at fault and some kind returns to itself
  returning-39 : Returning v order → (checked_type v order).answer ≡ Err Loop
  returning-39 r = ap (λ (c : CheckedType). c.answer) (loops r.end r.sound ((decided r.end r.sound).1 r.loop))

  only-returning : (t : Result Index Refusal) → (walked_of v order).step ≡ t → (checked_type v order).answer ≡ Err Loop → Returning v order
  unfolding checked_type
  only-returning (Err n) e q = let z : Err (Refused n) ≡ Err Loop = rw e at q in clash cc
  only-returning (Ok i) e q =
      by-test (loop_found (length m) (steps v m)) (λ t. record { end = i; sound = e; loop = (decided i e).0 t })
      (λ t. let z : Ok (i.0, length m) ≡ Err Loop = sym (ap (λ (c : CheckedType). c.answer) (passes i e t)) ∙ q in clash cc)

  pub exactly-39 : ((checked_type v order).answer ≡ Err Loop → Returning v order) × (Returning v order → (checked_type v order).answer ≡ Err Loop)
  exactly-39 = (only-returning (walked_of v order).step refl, returning-39)

  -- ---- what an accepted type promises

  promises : (i : Index) → (walked_of v order).step ≡ Ok i → loop_found (length m) (steps v m) ≡ false → AcceptedAs v order (length m) m
  promises i e t =
      record {
        kinds = refl;
        some = c.some;
        most = c.most;
        first = c.top;
        good = c.good;
        seen = known-seen v order m c;
        listed = known-low v order m c;
        low = low;
        ranked = λ x l. rank-low (length m) (steps v m) t x l;
        falls = λ x y l q. rank_falls (length m) (steps v m) t x y l (low x y l q) q;
      }
    where
      c : Complete v order m
      c = walked-complete i e

      low : (x y : ℕ) → x < length m → steps v m x y ≡ true → y < length m
      low x y l q = step-low v order m c x y l q

  accepted-by : (used k : ℕ) (t : Result Index Refusal) → (walked_of v order).step ≡ t → (checked_type v order).answer ≡ Ok (used, k) → AcceptedAs v order k (checked_type v order).kinds
  unfolding checked_type
  accepted-by used k (Err n) e q = let z : Err (Refused n) ≡ Ok (used, k) = rw e at q in clash cc
  accepted-by used k (Ok i) e q =
      by-test (loop_found (length m) (steps v m))
      (λ t. let z : Err Loop ≡ Ok (used, k) = sym (ap (λ (c : CheckedType). c.answer) (loops i e t)) ∙ q in clash cc)
      (λ t.
      let p = passes i e t in
      let z : Ok (i.0, length m) ≡ Ok (used, k) = sym (ap (λ (c : CheckedType). c.answer) p) ∙ q in
      let n : length m ≡ k = (ok-pair z).1 in
      subst (λ (x : ℕ). AcceptedAs v order x (checked_type v order).kinds) n (subst (AcceptedAs v order (length m)) (sym (ap (λ (c : CheckedType). c.kinds) p)) (promises i e t)))

  -- in an accepted type every kind's parameters are read again without a fault and lead to kinds of its list, and ranks fall
  pub accepted-as : (used k : ℕ) → (checked_type v order).answer ≡ Ok (used, k) → AcceptedAs v order k (checked_type v order).kinds
  accepted-as used k q = accepted-by used k (walked_of v order).step refl q
