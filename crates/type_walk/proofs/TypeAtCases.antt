-- The ways that the check of a type takes.
use Rattle.std.specs.Prelude.{Option, Some, None, Result, Ok, Err}
use mathlib.Core.Path.{◌≡◌, refl, sym, ◌∙◌, ap, subst}
use mathlib.Core.List.{List}
use mathlib.Core.Bool.{Bool, true, false, not}
use Prim.Native.Nat.{ℕ, suc, ◌+◌, ◌-◌, ◌≤◌, ◌<◌}
use native.Mathlib.Omega.{arith}
use borrow.Author.Tests.{eq-eqb, ne_eqb, eqb-false, leb-false, ltb-false}
use lib.Dec.{eqb, leb, ltb}
use lib.ListN.{length, get_or}
use Rattle.choices.specs.Branch.{choose}
use Rattle.choices.proofs.Choices.{by-test, clash}
use Rattle.choices.proofs.Tuples.{ok-triple}
use Rattle.cdr.specs.declared.Index.{Index}
use Rattle.cdr.specs.declared.Place.{Place}
use Rattle.cdr.specs.declared.Order.{Order}
use Rattle.cdr.specs.declared.Size.TheVariants.{Four}
use Rattle.type_kinds.specs.declared.Form.{Form}
use Rattle.type_kinds.specs.declared.Labels.{Labels}
use Rattle.type_counts.specs.declared.Refusal.{Refusal}
use Rattle.type_counts.specs.declared.Refusal.TheVariants.{Ends, NoSuchKind, BadEncapsulation, BelowTop, TooDeep, TooManyKinds}
use Rattle.type_walk.specs.Walk.{Walk, Walked}
use Rattle.cdr_fields.specs.Encapsulation.{field_of}
use Rattle.type_kinds.specs.Forms.{form_of}
use Rattle.type_numbers.specs.{indirection_kind}
use Rattle.type_kinds.specs.Parts.{place_before}
use Rattle.type_counts.specs.Counts.{part_from, part_of}
use Rattle.type_fields.specs.Fields.{is_listed, below_top, kind_entry}
use Rattle.cdr.specs.Orders.{order_of}
use Rattle.cdr_fields.proofs.FieldsRead.{field-facts}
use Rattle.type_walk.specs.Walk.{entered, refused_as}
use Rattle.type_walk.specs.Types.{Checker, indirection_at, name_step, members_at, labels_at, switch_head, switched_at, discriminant_at, inside_at, entered_at, type_with, enter_at, type_at}

-- a kind that may stand where it does is listed, below 16 levels, and one of 64
pub record Entering (form : Form) (kind left count : ℕ) : Type 0 where
  pub listed : is_listed form ≡ true
  pub placed : below_top kind left ≡ false
  pub some : 0 < left
  pub room : count < 64

pub entry-facts : (form : Form) (kind left count : ℕ) → kind_entry form kind left count ≡ Ok tt → Entering form kind left count
unfolding kind_entry
entry-facts form kind left count e =
    by-test (not (is_listed form)) (λ a. let q : Err NoSuchKind ≡ Ok tt = rw a at e in clash cc) (λ a.
    by-test (below_top kind left) (λ b. let q : Err BelowTop ≡ Ok tt = rw (a, b) at e in clash cc) (λ b.
    by-test (eqb left 0) (λ c. let q : Err TooDeep ≡ Ok tt = rw (a, b, c) at e in clash cc) (λ c.
    by-test (leb 64 count) (λ d. let q : Err TooManyKinds ≡ Ok tt = rw (a, b, c, d) at e in clash cc) (λ d.
    record { listed = is_true (is_listed form) a; placed = b; some = omega (arith, eqb-false left 0 c); room = leb-false 64 count d }))))
  where
    is_true : (t : Bool) → not t ≡ false → t ≡ true
    is_true true a = refl
    is_true false a = sym a

-- where an encapsulation was found
pub record Found (s : List ℕ) (i : Index) (order : Order) (x e : ℕ) (o : Order) : Type 0 where
  pub size : ℕ
  pub from : Index
  pub read : field_of s i Four order ≡ Some (size, from)
  pub start : from.0 ≡ x
  pub ends : e ≤ length s
  pub size_is : x + size ≡ e
  pub some : x < e
  pub named : order_of (get_or s x 0) ≡ Some o

part_by : (s : List ℕ) (i : Index) (order : Order) (f : Option (ℕ × Index)) → field_of s i Four order ≡ f → (x e : ℕ) (o : Order) → part_of s i order ≡ Ok (x, e, o)
    → Found s i order x e o
unfolding part_of
part_by s i order None r x e o p = let q : Err Ends ≡ Ok (x, e, o) = rw r at p in clash cc
part_by s i order (Some (n, next)) r x e o p =
    by-test (eqb n 0) (λ a. let q : Err BadEncapsulation ≡ Ok (x, e, o) = rw (r, a) at p in clash cc) (λ a.
    by-test (ltb (length s - next.0) n) (λ b. let q : Err BadEncapsulation ≡ Ok (x, e, o) = rw (r, a, b) at p in clash cc) (λ b.
    by_order (order_of (get_or s next.0 0)) refl (rw (r, a, b) at p) (eqb-false n 0 a) (ltb-false (length s - next.0) n b)))
  where
    by_order : (t : Option Order) → order_of (get_or s next.0 0) ≡ t → part_from (order_of (get_or s next.0 0)) next.0 (next.0 + n) ≡ Ok (x, e, o) → (n ≡ 0 → ⊥) → n ≤ length s - next.0 → Found s i order x e o
    by_order (Some o') t q z l =
        let q' : ◌≡◌ {A = Result (ℕ × ℕ × Order) Refusal} (Ok (next.0, next.0 + n, o')) (Ok (x, e, o)) = rw t at q in
        let parts = ok-triple q' in
        let f = field-facts s i Four order n next r in
        record {
          size = n;
          from = next;
          read = r;
          start = parts.0;
          ends = omega (arith, parts.1, f.fits);
          size_is = omega (arith, parts.0, parts.1);
          some = omega (arith, parts.0, parts.1);
          named = subst (λ (y : ℕ). order_of (get_or s y 0) ≡ Some o) parts.0 (rw (t, parts.2));
        }
    by_order None t q z l = let q' : Err BadEncapsulation ≡ Ok (x, e, o) = rw t at q in clash cc

pub part-facts : (s : List ℕ) (i : Index) (order : Order) (x e : ℕ) (o : Order) → part_of s i order ≡ Ok (x, e, o) → Found s i order x e o
part-facts s i order x e o p = part_by s i order (field_of s i Four order) refl x e o p

module _ (v : List ℕ) (left : ℕ) (s : List ℕ) (b : Place) (order : Order) (i : Index) (w : Walk) where
  pub type-ends : field_of s i Four order ≡ None → refused_as Ends w ≡ type_at v left s b order i w
  unfolding type_at type_with
  type-ends e = rw e

  module _ (kind : ℕ) (next : Index) (r : field_of s i Four order ≡ Some (kind, next)) where
    pub type-indirection : kind ≡ indirection_kind → indirection_at s b order next w ≡ type_at v left s b order i w
    unfolding type_at type_with choose
    type-indirection e = rw (r, eq-eqb kind indirection_kind e)

    module _ (k : kind ≡ indirection_kind → ⊥) (form : Form) (f : form ≡ form_of kind) (here : ℕ) (h : here ≡ length w.kinds) where
      pub type-barred : (n : Refusal) → kind_entry form kind left here ≡ Err n → refused_as n w ≡ type_at v left s b order i w
      unfolding type_at type_with choose
      type-barred n e = rw (r, ne_eqb kind indirection_kind k, ← f, ← h, e)

      entering : kind_entry form kind left here ≡ Ok tt → enter_at v left (form_of kind) s b order next w ≡ type_at v left s b order i w
      unfolding type_at type_with choose
      entering e = let e' : kind_entry (form_of kind) kind left (length w.kinds) ≡ Ok tt = rw (f, h) at e in rw (r, ne_eqb kind indirection_kind k, e')

      enter-on : (l : ℕ) (w₁ : Walk) → w₁ ≡ entered w (place_before b next) b order form
          → inside_at v (type_at v l) form s b order next w₁ here ≡ enter_at v (suc l) (form_of kind) s b order next w
      unfolding enter_at entered_at type_at
      enter-on l w₁ q = rw (q, f, h)

      pub type-enters : kind_entry form kind left here ≡ Ok tt → (w₁ : Walk) → w₁ ≡ entered w (place_before b next) b order form
          → inside_at v (type_at v (left - 1)) form s b order next w₁ here ≡ type_at v left s b order i w
      type-enters e w₁ q =
          let z : suc (left - 1) ≡ left = omega (arith, (entry-facts form kind left here e).some) in
          enter-on (left - 1) w₁ q ∙ ap (λ (x : ℕ). enter_at v x (form_of kind) s b order next w) z ∙ entering e

module _ (v : List ℕ) (go : Checker) (labels : Labels) (default : ℕ) (s : List ℕ) (b : Place) (order : Order) (first : Index) where
  -- what n members from an index on give, of which k stand before: x is k, the index and what was met
  abbrev pub members_for : ℕ → ℕ × Index × Walk → Walked
  members_for n x = members_at v go labels default s b order first n x.0 x.1 x.2

  module _ (k : ℕ) (i : Index) (w : Walk) where
    pub members-refused : (r : Refusal) → name_step labels v s b order default k first i ≡ Err r → (n : ℕ) → members_for (suc n) (k, i, w) ≡ refused_as r w
    unfolding members_at
    members-refused r e n = rw e

    module _ (j : Index) (e : name_step labels v s b order default k first i ≡ Ok j) (c : Walked) (q : c ≡ go s b order j w) where
      pub members-cut : (r : Refusal) → c.step ≡ Err r → (n : ℕ) → members_for (suc n) (k, i, w) ≡ refused_as r c.walk
      unfolding members_at
      members-cut r f n = rw (e, ← q, f)

      pub members-on : (next : Index) → c.step ≡ Ok next → (n : ℕ) → members_for (suc n) (k, i, w) ≡ members_for n (k + 1, next, c.walk)
      unfolding members_at
      members-on next f n = rw (e, ← q, f)

module _ (v : List ℕ) (go : Checker) (s : List ℕ) (b : Place) (order : Order) (i : Index) (w : Walk) (c : Walked) (q : c ≡ go s b order i w) where
  pub switched-refused : (r : Refusal) → c.step ≡ Err r → refused_as r c.walk ≡ discriminant_at v go s b order i w
  unfolding discriminant_at
  switched-refused r f = rw (← q, f)

  module _ (j : Index) (f : c.step ≡ Ok j) (labels : Labels) (l : labels ≡ labels_at v c.walk.kinds b i order) where
    pub switched-wrong : (r : Refusal) → switch_head labels s j order ≡ Err r → refused_as r c.walk ≡ discriminant_at v go s b order i w
    unfolding discriminant_at switched_at
    switched-wrong r e = rw (← q, f, ← l, e)

    pub switched-on : (default n : ℕ) (next : Index) → switch_head labels s j order ≡ Ok (default, n, next)
        → members_at v go labels default s b order next n 0 next c.walk ≡ discriminant_at v go s b order i w
    unfolding discriminant_at switched_at
    switched-on default n next e = rw (← q, f, ← l, e)
