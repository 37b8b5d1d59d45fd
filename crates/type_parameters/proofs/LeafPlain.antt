-- A kind without parameters is one that is listed so: of whatever octets.
use Rattle.std.specs.Prelude.{Option, Some, None}
use mathlib.Core.Path.{◌≡◌, refl, subst}
use mathlib.Core.List.{List}
use mathlib.Core.Bool.{Bool, true, false, cond}
use Prim.Native.Nat.{ℕ, ◌+◌, ◌-◌}
use lib.Dec.{ltb}
use lib.ListN.{length, get_or}
use Rattle.choices.proofs.Choices.{clash}
use Rattle.cdr.specs.declared.Index.{Index}
use Rattle.cdr.specs.declared.Place.{Place}
use Rattle.cdr.specs.declared.Order.{Order}
use Rattle.cdr.specs.declared.Size.TheVariants.{Four}
use Rattle.type_kinds.specs.declared.Kind.{Kind}
use Rattle.type_kinds.specs.declared.Inner.{Inner}
use Rattle.type_kinds.specs.declared.Form.{Form}
use Rattle.type_kinds.specs.declared.Form.TheVariants.{Unlisted, Plain, Bounded, Composite}
use Rattle.type_kinds.specs.declared.Layout.{Layout}
use Rattle.type_kinds.specs.declared.Layout.TheVariants.{Objref as objref, Struct as struct, Union as union, Enum as enum, Sequence as sequence, Array as array, Alias as alias, Exception as exception}
use Rattle.type_kinds.specs.declared.Inert.TheVariants.{Leaf}
use Rattle.type_parameters.specs.declared.Parameters.{Parameters}
use Rattle.type_parameters.specs.declared.Parameters.TheVariants.{Fault, Flat}
use Rattle.cdr.specs.Align.{index_of}
use Rattle.cdr.specs.Orders.{order_of}
use Rattle.type_kinds.specs.Forms.{form_of}
use Rattle.type_kinds.specs.Parts.{place_of, on_field, on_spot, field_in}
use Rattle.type_parameters.specs.Parameters.{count_in, type_in, element_in, on_element, union_in, parameters_in, on_named, encapsulated, parameters_after, parameters_at}

abbrev Listed : Parameters → Type 0
Listed p = (kind : ℕ) → p ≡ Flat (Leaf kind) → form_of kind ≡ Plain

fault-listed : Listed Fault
fault-listed kind e = clash cc

on-field : (x : Option (ℕ × Index)) (f : ℕ → Index → Parameters) → ((n : ℕ) (i : Index) → Listed (f n i)) → Listed (on_field x Fault f)
on-field (Some (n, i)) f h = h n i
on-field None f h = fault-listed

on-spot : (x : Option (Inner × Index)) (f : Inner → Index → Parameters) → ((y : Inner) (i : Index) → Listed (f y i)) → Listed (on_spot x Fault f)
on-spot (Some (y, i)) f h = h y i
on-spot None f h = fault-listed

on-element : (x : Option (Inner × ℕ)) (f : Inner → ℕ → Parameters) → ((y : Inner) (n : ℕ) → Listed (f y n)) → Listed (on_element x f)
on-element (Some (y, n)) f h = h y n
on-element None f h = fault-listed

on-order : (x : Option Order) (f : Order → Parameters) → ((o : Order) → Listed (f o)) → Listed (on_named x f)
on-order (Some o) f h = h o
on-order None f h = fault-listed

on-cond : (t : Bool) (p : Parameters) → Listed p → Listed (cond t p Fault)
on-cond true p h = h
on-cond false p h = fault-listed

module _ (v : List ℕ) where
  in-listed : (layout : Layout) (b : Place) (order : Order) → Listed (parameters_in layout v b order)
  unfolding union_in
  in-listed objref b order = λ kind e. clash cc
  in-listed alias b order = on-spot (type_in v b order) _ (λ y i kind e. clash cc)
  in-listed struct b order = on-field (count_in v b order) _ (λ n i kind e. clash cc)
  in-listed exception b order = on-field (count_in v b order) _ (λ n i kind e. clash cc)
  in-listed union b order =
      on-spot (type_in v b order) _ (λ d i.
      on-field (field_in v b i Four order) _ (λ x j. on-field (field_in v b j Four order) _ (λ n k kind e. clash cc)))
  in-listed enum b order = on-field (count_in v b order) _ (λ n i kind e. clash cc)
  in-listed sequence b order = on-element (element_in v b order) _ (λ y n kind e. clash cc)
  in-listed array b order = on-element (element_in v b order) _ (λ y n kind e. clash cc)

  encapsulated-listed : (layout : Layout) (b : Place) → Listed (encapsulated layout v b)
  unfolding encapsulated
  encapsulated-listed layout b =
      on-cond (ltb b.0 (length v)) (on_named (order_of (get_or v b.0 0)) (λ order. parameters_in layout v b order))
      (on-order (order_of (get_or v b.0 0)) _ (λ o. in-listed layout b o))

  after-listed : (b : Place) (order : Order) (k : ℕ) (i : Index) (form : Form) → form_of k ≡ form → Listed (parameters_after form v b order k i)
  after-listed b order k i Unlisted q = fault-listed
  after-listed b order k i Plain q = λ kind e. let z : k ≡ kind = cc in subst (λ (n : ℕ). form_of n ≡ Plain) z q
  after-listed b order k i Bounded q = on-field (field_in v b i Four order) _ (λ n j kind e. clash cc)
  after-listed b order k i (Composite layout) q =
      on-field (field_in v b i Four order) _ (λ n j. encapsulated-listed layout (place_of (b.0 + j.0)))

  pub leaf-plain : (a : Kind) (kind : ℕ) → parameters_at v a ≡ Flat (Leaf kind) → form_of kind ≡ Plain
  unfolding parameters_at
  leaf-plain a =
      on-field (field_in v a.start (index_of (a.place.0 - a.start.0)) Four a.order) _
      (λ k next. after-listed a.start a.order k next (form_of k) refl)
