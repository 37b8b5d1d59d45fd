-- Parameters that may stand below the top: of every kind but null, void and an exception.
use Rattle.std.specs.Prelude.{Option, Some, None}
use mathlib.Core.Path.{◌≡◌, refl, ◌∙◌, ap, subst}
use mathlib.Core.List.{List}
use mathlib.Core.Bool.{false, true≢false}
use Prim.Native.Nat.{ℕ, ◌+◌}
use borrow.Author.Tests.{eqb-true}
use lib.Dec.{ltb, eqb}
use lib.ListN.{length, get_or}
use Rattle.choices.proofs.Choices.{by-test, clash}
use Rattle.cdr.specs.declared.Index.{Index}
use Rattle.cdr.specs.declared.Place.{Place}
use Rattle.cdr.specs.declared.Order.{Order}
use Rattle.cdr.specs.declared.Size.TheVariants.{Four}
use Rattle.type_kinds.specs.declared.Form.{Form}
use Rattle.type_kinds.specs.declared.Form.TheVariants.{Unlisted, Plain, Bounded, Composite}
use Rattle.type_kinds.specs.declared.Layout.{Layout}
use Rattle.type_kinds.specs.declared.Layout.TheVariants.{Objref as objref, Struct as struct, Union as union, Enum as enum, Sequence as sequence, Array as array, Alias as alias, Exception as exception}
use Rattle.type_kinds.specs.declared.Inner.{Inner}
use Rattle.type_parameters.specs.declared.Parameters.{Parameters}
use Rattle.type_parameters.specs.declared.Parameters.TheVariants.{Fault}
use Rattle.cdr.specs.Orders.{order_of}
use Rattle.type_kinds.specs.Forms.{form_of}
use Rattle.type_kinds.specs.Parts.{place_of, on_spot, field_in}
use Rattle.type_parameters.specs.Parameters.{count_in, type_in, element_in, on_element, union_in, parameters_in, on_named, encapsulated, parameters_after}
use Rattle.type_fields.specs.Fields.{top_only}
use Rattle.type_walk.specs.Walk.{layout_barred, is_barred}
use Rattle.type_laws.proofs.Sound.{NotTop}
use Rattle.type_laws.proofs.ByCases.{on-field, on-cond}

form-exception : (kind : ℕ) → form_of kind ≡ Composite exception → kind ≡ 22
unfolding form_of
form-exception kind e =
    by-test (ltb kind 11) (λ a. let q : Plain ≡ Composite exception = rw a at e in clash cc) (λ a₁.
    by-test (eqb kind 14) (λ a. let q : Composite objref ≡ Composite exception = rw (a₁, a) at e in clash cc) (λ a₂.
    by-test (eqb kind 15) (λ a. let q : Composite struct ≡ Composite exception = rw (a₁, a₂, a) at e in clash cc) (λ a₃.
    by-test (eqb kind 16) (λ a. let q : Composite union ≡ Composite exception = rw (a₁, a₂, a₃, a) at e in clash cc) (λ a₄.
    by-test (eqb kind 17) (λ a. let q : Composite enum ≡ Composite exception = rw (a₁, a₂, a₃, a₄, a) at e in clash cc) (λ a₅.
    by-test (eqb kind 18) (λ a. let q : Bounded ≡ Composite exception = rw (a₁, a₂, a₃, a₄, a₅, a) at e in clash cc) (λ a₆.
    by-test (eqb kind 19) (λ a. let q : Composite sequence ≡ Composite exception = rw (a₁, a₂, a₃, a₄, a₅, a₆, a) at e in clash cc) (λ a₇.
    by-test (eqb kind 20) (λ a. let q : Composite array ≡ Composite exception = rw (a₁, a₂, a₃, a₄, a₅, a₆, a₇, a) at e in clash cc) (λ a₈.
    by-test (eqb kind 21) (λ a. let q : Composite alias ≡ Composite exception = rw (a₁, a₂, a₃, a₄, a₅, a₆, a₇, a₈, a) at e in clash cc) (λ a₉.
    by-test (eqb kind 22) (λ a. eqb-true kind 22 a) (λ a₀.
    by-test (eqb kind 23) (λ a. let q : Plain ≡ Composite exception = rw (a₁, a₂, a₃, a₄, a₅, a₆, a₇, a₈, a₉, a₀, a) at e in clash cc) (λ b.
    by-test (eqb kind 24) (λ a. let q : Plain ≡ Composite exception = rw (a₁, a₂, a₃, a₄, a₅, a₆, a₇, a₈, a₉, a₀, b, a) at e in clash cc)
    (λ c. let q : Unlisted ≡ Composite exception = rw (a₁, a₂, a₃, a₄, a₅, a₆, a₇, a₈, a₉, a₀, b, c) at e in clash cc))))))))))))

module _ (v : List ℕ) where
  on-spot : (Q : Parameters → Type 0) (x : Option (Inner × Index)) (a : Parameters) (f : Inner → Index → Parameters) → Q a → ((p : Inner) (i : Index) → Q (f p i)) → Q (on_spot x a f)
  on-spot Q (Some (p, i)) a f g h = h p i
  on-spot Q None a f g h = g

  on-element : (x : Option (Inner × ℕ)) (f : Inner → ℕ → Parameters) → ((p : Inner) (n : ℕ) → NotTop (f p n)) → NotTop (on_element x f)
  on-element (Some (p, n)) f h = h p n
  on-element None f h = tt

  in-not-top : (layout : Layout) (b : Place) (order : Order) → (layout ≡ exception → ⊥) → NotTop (parameters_in layout v b order)
  unfolding union_in
  in-not-top objref b order e = tt
  in-not-top alias b order e = on-spot NotTop (type_in v b order) _ _ tt (λ p i. tt)
  in-not-top struct b order e = on-field NotTop (count_in v b order) _ _ (λ r. tt) (λ n i r. tt)
  in-not-top exception b order e = absurd (e refl)
  in-not-top union b order e =
      on-spot NotTop (type_in v b order) _ _ tt
      (λ d i. on-field NotTop (field_in v b i Four order) _ _ (λ r. tt) (λ x j r. on-field NotTop (field_in v b j Four order) _ _ (λ r. tt) (λ n k r. tt)))
  in-not-top enum b order e = on-field NotTop (count_in v b order) _ _ (λ r. tt) (λ n i r. tt)
  in-not-top sequence b order e = on-element (element_in v b order) _ (λ p n. tt)
  in-not-top array b order e = on-element (element_in v b order) _ (λ p n. tt)

  order-not-top : (x : Option Order) (f : Order → Parameters) → ((o : Order) → NotTop (f o)) → NotTop (on_named x f)
  order-not-top (Some o) f h = h o
  order-not-top None f h = tt

  encapsulated-not-top : (layout : Layout) (b : Place) → (layout ≡ exception → ⊥) → NotTop (encapsulated layout v b)
  unfolding encapsulated
  encapsulated-not-top layout b e =
      on-cond NotTop (ltb b.0 (length v)) (on_named (order_of (get_or v b.0 0)) (λ order. parameters_in layout v b order)) Fault
      (λ t. order-not-top (order_of (get_or v b.0 0)) (λ order. parameters_in layout v b order) (λ o. in-not-top layout b o e)) (λ t. tt)

  pub after-not-top : (b : Place) (order : Order) (kind : ℕ) (i : Index) → top_only kind ≡ false → (form : Form) → form_of kind ≡ form
      → NotTop (parameters_after form v b order kind i)
  after-not-top b order kind i t Unlisted e = tt
  after-not-top b order kind i t Plain e = t
  after-not-top b order kind i t Bounded e = on-field NotTop (field_in v b i Four order) _ _ (λ r. tt) (λ n j r. tt)
  after-not-top b order kind i t (Composite layout) e =
      on-field NotTop (field_in v b i Four order) _ _ (λ r. tt) (λ n j r. encapsulated-not-top layout (place_of (b.0 + j.0)) (λ q. never (form-exception kind (e ∙ ap Composite q))))
    where
      never : kind ≡ 22 → ⊥
      never q = true≢false (subst (λ (x : ℕ). top_only x ≡ false) q t)

  -- a kind that is no longer barred may stand below the top: a struct or a union
  pub unbarred-not-top : (b : Place) (order : Order) (kind : ℕ) (i : Index) (form : Form) → is_barred form ≡ false → NotTop (parameters_after form v b order kind i)
  unbarred-not-top b order kind i Unlisted u = tt
  unbarred-not-top b order kind i Plain u = absurd (true≢false u)
  unbarred-not-top b order kind i Bounded u = absurd (true≢false u)
  unbarred-not-top b order kind i (Composite layout) u =
      on-field NotTop (field_in v b i Four order) _ _ (λ r. tt)
      (λ n j r. encapsulated-not-top layout (place_of (b.0 + j.0)) (λ q. true≢false (subst (λ (x : Layout). layout_barred x ≡ false) q u)))
