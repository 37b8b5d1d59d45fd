-- The steps between positions of the list are 01's steps between kinds written, so 39 is given exactly when no octet is at fault and some
-- kind written returns to itself.
use Rattle.std.specs.Prelude.{Result, Ok, Err}
use mathlib.Core.Path.{◌≡◌, refl, sym, ◌∙◌, ap, subst}
use mathlib.Core.Logic.{◌↔◌}
use mathlib.Core.List.{List, [], ◌∷◌}
use lib.ListN.{length}
use mathlib.Core.Bool.{Bool, true, false, ◌||◌, false≢true, true≢false}
use Prim.Native.Nat.{ℕ, ◌<◌}
use borrow.Author.Tests.{eq-eqb, eqb-true}
use Rattle.choices.specs.Lists.{any_of, Among}
use Rattle.choices.specs.Lists.Among.{first, later}
use Rattle.choices.proofs.Choices.{by-test, clash}
use Rattle.choices.proofs.Tuples.{ok-pair}
use Rattle.cdr.specs.declared.Index.{Index}
use Rattle.cdr.specs.declared.Order.{Order}
use Rattle.type_kinds.specs.declared.Inner.{Inner}
use Rattle.type_kinds.specs.declared.Inner.TheVariants.{Here, There}
use Rattle.type_kinds.specs.declared.Fields.{Fields}
use Rattle.type_kinds.specs.declared.Labels.{Labels}
use Rattle.type_parameters.specs.declared.Parameters.{Parameters}
use Rattle.type_parameters.specs.declared.Parameters.TheVariants.{Fault, Flat, Struct, Exception, Union, Sequence, Array, Alias}
use Rattle.type_kinds.specs.declared.Kind.{Kind}
use Rattle.type_counts.specs.declared.Refusal.{Refusal}
use Rattle.type_kinds.specs.Parts.{place_in}
use Rattle.type_kinds.specs.Members.{members_of, types_of}
use Rattle.type_parameters.specs.Parameters.{parameters_at}
use Rattle.type_loops.specs.Loops.{loop_found}
use Rattle.type_loops.proofs.LoopDecided.{Reaches, Returns}
use Rattle.type_loops.proofs.LoopDecided.Reaches.{once as one-step, then as more-steps}
use Rattle.type_list.specs.Met.{find_kind, kind_no, parameters_of}
use Rattle.type_unions.specs.Discriminants.{labels_for}
use Rattle.type_unions.specs.Shapes.{shape_of}
use Rattle.type_walk.specs.Types.{walked_of}
use Rattle.type_steps.specs.Steps.{stands, any_stands, steps_of, steps}
use Rattle.typecode.specs.TypeCode.{CheckedType, checked_type}
use Rattle.type_laws.specs.Written.{types_by, is_sequence, Inside, Tells}
use Rattle.type_laws.specs.Written.Inside.{typed, member}
use Rattle.type_laws.specs.Loops.{Step01, Leads, Loops, FirstFault, NoFault, Listed, KindCount}
use Rattle.type_laws.specs.Loops.Step01.{down, across}
use Rattle.type_laws.specs.Loops.Leads.{once, then}
use Rattle.type_laws.proofs.FlatList.{is_union}
use Rattle.type_laws.proofs.Sound.{Entry}
use Rattle.type_laws.proofs.ListGrows.{grows_none}
use Rattle.type_laws.proofs.InnerKnown.{Closed, Switched, Complete}
use Rattle.type_laws.proofs.PlaceFound.{find-own, position-once, found-place}
use Rattle.type_laws.proofs.KindsListed.{single, same-union, closed_at, resolves, written_entry, tells-said, inside-known, tells-by, all-written, listed}
use Rattle.type_laws.proofs.Exactly39.{walked-complete, loops, passes, exactly-39}
use Rattle.typecode.specs.declared.NoType.TheVariants.{Loop, Refused}

-- ---- some entry of a list

pub any-of : (f : Inner → Bool) (xs : List Inner) → any_of f xs ≡ true → (x : Inner) × Among x xs × (f x ≡ true)
unfolding any_of
any-of f [] e = absurd (false≢true e)
any-of f (x ∷ xs) e = go (f x) refl e (λ h. any-of f xs h)
  where
    go : (t : Bool) → f x ≡ t → (t || any_of f xs) ≡ true → (any_of f xs ≡ true → (y : Inner) × Among y xs × (f y ≡ true))
        → (y : Inner) × Among y (x ∷ xs) × (f y ≡ true)
    go true r e h = (x, first, r)
    go false r e h = let z = h e in (z.0, later z.1, z.2)

or_later : (a b : Bool) → b ≡ true → (a || b) ≡ true
or_later true b e = refl
or_later false b e = e

pub of-any : (f : Inner → Bool) (x : Inner) (xs : List Inner) → Among x xs → f x ≡ true → any_of f xs ≡ true
unfolding any_of
of-any f x xs first e = rw e
of-any f x xs (later {y = y} {xs = ys} h) e = or_later (f y) (any_of f ys) (of-any f x ys h e)

module _ (v : List ℕ) (order : Order) (m : List Kind) (c : Complete v order m) where
  -- ---- what one steps to from an entry is what stands directly inside it

  module _ (a : Kind) where
    in-plain : (p : Parameters) → parameters_at v a ≡ p → is_union p ≡ false → (x : Inner) → Inside v order a x → Among x (types_by v p)
    in-plain p e u x (typed y) = subst (λ (q : Parameters). Among x (types_by v q)) e y
    in-plain p e u x (member q t y) = absurd (true≢false (ap is_union (sym q ∙ e) ∙ u))

    out-plain : (p : Parameters) → parameters_at v a ≡ p → (x : Inner) → Among x (types_by v p) → Inside v order a x
    out-plain p e x y = typed (subst (λ (q : Parameters). Among x (types_by v q)) (sym e) y)

    module _ (g : Fields) (d : Inner) (default : ℕ) (e : parameters_at v a ≡ Union g d default) (h : Switched v m g d) where
      in-union : (x : Inner) → Inside v order a x → Among x (d ∷ types_of (members_of (labels_for v m (place_in d)) v g))
      in-union x (typed y) =
          let y' : Among x (d ∷ []) = subst (λ (q : Parameters). Among x (types_by v q)) e y in
          subst (λ (z : Inner). Among z (d ∷ types_of (members_of (labels_for v m (place_in d)) v g))) (sym (single y')) first
      in-union x (member {d = d'} {g = g'} {labels = labels} q t y) =
          let z = same-union (sym q ∙ e) in
          let l : labels ≡ h.by.labels = tells-said v order m c d h.by labels (subst (λ (u : Inner). Tells v order u labels) z.1 t) in
          later (subst (λ (t : Labels). Among x (types_of (members_of t v g))) (l ∙ sym h.by.said) (subst (λ (f : Fields). Among x (types_of (members_of labels v f))) z.0 y))

      out-union : (x : Inner) → Among x (d ∷ types_of (members_of (labels_for v m (place_in d)) v g)) → Inside v order a x
      out-union x first = typed (subst (λ (q : Parameters). Among x (types_by v q)) (sym e) first)
      out-union x (later y) =
          member e
          (tells-by v order m c m (grows_none m) (all-written v order m c) h.by.labels (place_in d) (resolves v order m c d h.by) d h.by.known refl)
          (subst (λ (t : Labels). Among x (types_of (members_of t v g))) h.by.said y)

    inside-steps : (p : Parameters) → parameters_at v a ≡ p → Closed v m p → is_sequence p ≡ false → (x : Inner)
        → Inside v order a x ↔ Among x (steps_of (shape_of v m p))
    unfolding steps_of shape_of
    inside-steps Fault e h s x = (in-plain Fault e refl x, out-plain Fault e x)
    inside-steps (Flat i) e h s x = (in-plain (Flat i) e refl x, out-plain (Flat i) e x)
    inside-steps (Struct g) e h s x = (in-plain (Struct g) e refl x, out-plain (Struct g) e x)
    inside-steps (Exception g) e h s x = (in-plain (Exception g) e refl x, out-plain (Exception g) e x)
    inside-steps (Union g d default) e h s x = (in-union g d default e h x, out-union g d default e h x)
    inside-steps (Sequence y bound) e h s x = absurd (true≢false s)
    inside-steps (Array y n) e h s x = (in-plain (Array y n) e refl x, out-plain (Array y n) e x)
    inside-steps (Alias y) e h s x = (in-plain (Alias y) e refl x, out-plain (Alias y) e x)

  -- from a sequence there is no step
  no_steps : (j : ℕ) (p : Parameters) → is_sequence p ≡ true → any_stands m j (steps_of (shape_of v m p)) ≡ true → ⊥
  unfolding steps_of shape_of any_of
  no_steps j Fault s e = false≢true s
  no_steps j (Flat i) s e = false≢true s
  no_steps j (Struct g) s e = false≢true s
  no_steps j (Exception g) s e = false≢true s
  no_steps j (Union g d default) s e = false≢true s
  no_steps j (Sequence x bound) s e = false≢true e
  no_steps j (Array x n) s e = false≢true s
  no_steps j (Alias x) s e = false≢true s

  -- the type that is stepped to, at its position
  module _ (i : ℕ) (l : i < length m) (j : ℕ) where
    abbrev a : Kind
    a = kind_no m i

    abbrev stepped : Inner → Bool
    stepped x = stands m (place_in x) j

    to_step : (x : Inner) → is_sequence (parameters_at v a) ≡ false → Inside v order a x → find_kind m (place_in x) ≡ j
        → any_stands m j (steps_of (shape_of v m (parameters_at v a))) ≡ true
    to_step x s y q =
        of-any stepped x (steps_of (shape_of v m (parameters_at v a)))
        ((inside-steps a (parameters_at v a) refl (closed_at v order m c a (i, l, refl)) s x).0 y) (eq-eqb (find_kind m (place_in x)) j q)

    from_step : any_stands m j (steps_of (shape_of v m (parameters_at v a))) ≡ true
        → (is_sequence (parameters_at v a) ≡ false) × (x : Inner) × Inside v order a x × (find_kind m (place_in x) ≡ j)
    from_step t =
        by-test (is_sequence (parameters_at v a)) (λ s. absurd (no_steps j (parameters_at v a) s t)) (λ s.
        let z = any-of stepped (steps_of (shape_of v m (parameters_at v a))) t in
        (s, z.0, (inside-steps a (parameters_at v a) refl (closed_at v order m c a (i, l, refl)) s z.0).1 z.1, eqb-true (find_kind m (place_in z.0)) j z.2))

  pub step-steps : (a b : Kind) → (k : Entry m a) → Step01 v order a b → (j : ℕ) × (j < length m) × (kind_no m j ≡ b) × (steps v m k.0 j ≡ true)
  unfolding steps parameters_of
  step-steps a b k (down s y) =
      let r = inside-known v order m c a (Here b) y k in (
        r.0,
        r.1,
        r.2,
        to_step k.0 k.1 r.0 (Here b) (ap (λ (x : Kind). is_sequence (parameters_at v x)) k.2 ∙ s) (subst (λ (x : Kind). Inside v order x (Here b)) (sym k.2) y)
            (ap (λ (x : Kind). find_kind m x.place) (sym r.2) ∙ find-own v order m c r.0 r.1),
      )
  step-steps a b k (across {p = p} s y w q) =
      let r = written_entry v order m c b w in (
        r.0,
        r.1,
        r.2,
        to_step k.0 k.1 r.0 (There p) (ap (λ (x : Kind). is_sequence (parameters_at v x)) k.2 ∙ s) (subst (λ (x : Kind). Inside v order x (There p)) (sym k.2) y)
            (ap (find_kind m) (sym q) ∙ ap (λ (x : Kind). find_kind m x.place) (sym r.2) ∙ find-own v order m c r.0 r.1),
      )

  pub steps-step : (i j : ℕ) → i < length m → steps v m i j ≡ true → (j < length m) × Step01 v order (kind_no m i) (kind_no m j)
  unfolding steps parameters_of
  steps-step i j l t = let z = from_step i l j t in go z.1 z.0 z.2 z.3
    where
      go : (x : Inner) → is_sequence (parameters_at v (kind_no m i)) ≡ false → Inside v order (kind_no m i) x → find_kind m (place_in x) ≡ j → (j < length m) × Step01 v order (kind_no m i) (kind_no m j)
      go (Here b) s y q =
          let r = inside-known v order m c (kind_no m i) (Here b) y (i, l, refl) in
          let e : r.0 ≡ j = sym (ap (λ (x : Kind). find_kind m x.place) (sym r.2) ∙ find-own v order m c r.0 r.1) ∙ q in
          (subst (λ (x : ℕ). x < length m) e r.1, down s (subst (λ (x : Kind). Inside v order (kind_no m i) (Here x)) (sym r.2 ∙ ap (kind_no m) e) y))
      go (There p) s y q =
          let r = inside-known v order m c (kind_no m i) (There p) y (i, l, refl) in
          let n = subst (λ (x : ℕ). x < length m) q r in
          (n, across s y (all-written v order m c j n) (subst (λ (x : ℕ). (kind_no m x).place ≡ p) q (found-place v order m c p r)))

  -- ---- ways

  leads_reaches : (a b : Kind) → Leads v order a b → (k : Entry m a) → (j : ℕ) × (j < length m) × (kind_no m j ≡ b) × Reaches (steps v m) k.0 j
  leads_reaches a b (once s) k = let z = step-steps a b k s in (z.0, z.1, z.2, one-step z.3)
  leads_reaches a b (then {b = d} s w) k =
      let z = step-steps a d k s in
      let r = leads_reaches d b w (z.0, z.1, z.2) in
      (r.0, r.1, r.2, more-steps z.3 r.3)

  reaches-leads : (i j : ℕ) → i < length m → Reaches (steps v m) i j → Leads v order (kind_no m i) (kind_no m j)
  reaches-leads i j l (one-step t) = once (steps-step i j l t).1
  reaches-leads i j l (more-steps {j = x} t r) = let z = steps-step i x l t in then z.1 (reaches-leads x j z.0 r)

  pub loops-are : Loops v order ↔ Returns (length m) (steps v m)
  loops-are = (
    (λ h.
        let k = written_entry v order m c h.0 h.1 in
        let z = leads_reaches h.0 h.0 h.2 k in
        let e : k.0 ≡ z.0 = position-once v order m c k.0 z.0 k.1 z.1 (k.2 ∙ sym z.2) in
        (k.0, k.1, subst (Reaches (steps v m) k.0) (sym e) z.3)),
    (λ r. (kind_no m r.0, all-written v order m c r.0 r.1, reaches-leads r.0 r.0 r.1 r.2)),
  )

-- ---- octets without a fault

module _ (v : List ℕ) (order : Order) where
  abbrev met : List Kind
  met = (walked_of v order).walk.kinds

  -- no refusal applies exactly where the walk over the octets comes to an end
  ended : (t : Result Index Refusal) → (walked_of v order).step ≡ t → NoFault v order → (end : Index) × ((walked_of v order).step ≡ Ok end)
  ended (Err r) e h = absurd (h r e)
  ended (Ok i) e h = (i, e)

  pub no-fault-ends : NoFault v order → (end : Index) × ((walked_of v order).step ≡ Ok end)
  no-fault-ends h = ended (walked_of v order).step refl h

  pub ends-no-fault : (end : Index) → (walked_of v order).step ≡ Ok end → NoFault v order
  ends-no-fault i e r q = let z : Err r ≡ Ok i = sym q ∙ e in clash cc

  pub fault-complete : NoFault v order → Complete v order met
  fault-complete h = let e = no-fault-ends h in walked-complete v order e.0 e.1

  -- the list that the check met has the kinds written, each once, in order of place
  pub met-listed : NoFault v order → Listed v order met
  met-listed h = listed v order met (fault-complete h)

  -- so its count is the number of kinds written
  pub met-count : NoFault v order → KindCount v order (length met)
  met-count h = record { kinds = met; listed = met-listed h; many = refl }

  -- 39 exactly when no other type refusal applies and some kind written returns to itself
  pub loops-exactly : ((checked_type v order).answer ≡ Err Loop) ↔ (NoFault v order × Loops v order)
  loops-exactly = (
    (λ q. let r = (exactly-39 v order).0 q in
        let h = ends-no-fault r.end r.sound in
        (h, (loops-are v order met (fault-complete h)).1 r.loop)),
    (λ h. let e = no-fault-ends h.0 in
        (exactly-39 v order).1 (record { end = e.0; sound = e.1; loop = (loops-are v order met (fault-complete h.0)).0 h.1 })),
  )

  -- and every other refusal exactly when it is the first fault
  refuses-by : (r : Refusal) (t : Result Index Refusal) → (walked_of v order).step ≡ t → (checked_type v order).answer ≡ Err (Refused r) → FirstFault v order r
  unfolding checked_type
  refuses-by r (Err n) e q = let z : Err (Refused n) ≡ Err (Refused r) = rw e at q in let y : n ≡ r = cc in e ∙ ap Err y
  refuses-by r (Ok i) e q =
      by-test (loop_found (length met) (steps v met))
      (λ t. let z : Err Loop ≡ Err (Refused r) = sym (ap (λ (c : CheckedType). c.answer) (loops v order i e t)) ∙ q in clash cc)
      (λ t. let z : Ok (i.0, length met) ≡ Err (Refused r) = sym (ap (λ (c : CheckedType). c.answer) (passes v order i e t)) ∙ q in clash cc)

  pub refuses-exactly : (r : Refusal) → ((checked_type v order).answer ≡ Err (Refused r)) ↔ FirstFault v order r
  unfolding checked_type
  refuses-exactly r = (refuses-by r (walked_of v order).step refl, (λ e. rw e))

  -- an accepted type's k is the number of kinds written
  accepted-by : (used k : ℕ) (t : Result Index Refusal) → (walked_of v order).step ≡ t → (checked_type v order).answer ≡ Ok (used, k) → KindCount v order k
  unfolding checked_type
  accepted-by used k (Err n) e q = let z : Err (Refused n) ≡ Ok (used, k) = rw e at q in clash cc
  accepted-by used k (Ok i) e q =
      by-test (loop_found (length met) (steps v met))
      (λ t. let z : Err Loop ≡ Ok (used, k) = sym (ap (λ (c : CheckedType). c.answer) (loops v order i e t)) ∙ q in clash cc)
      (λ t.
      let z : Ok (i.0, length met) ≡ Ok (used, k) = sym (ap (λ (c : CheckedType). c.answer) (passes v order i e t)) ∙ q in
      subst (KindCount v order) (ok-pair z).1 (met-count (ends-no-fault i e)))

  pub accepted-count : (used k : ℕ) → (checked_type v order).answer ≡ Ok (used, k) → KindCount v order k
  accepted-count used k q = accepted-by used k (walked_of v order).step refl q
