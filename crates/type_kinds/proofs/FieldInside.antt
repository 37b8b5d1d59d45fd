-- What is read in an encapsulation lies in the octets of the whole.
use Rattle.std.specs.Prelude.{Some, None}
use mathlib.Core.Path.{◌≡◌}
use mathlib.Core.List.{List}
use Prim.Native.Nat.{ℕ, ◌+◌, ◌≤◌, ◌<◌}
use native.Mathlib.Omega.{arith}
use lib.ListN.{length, drop, length-drop}
use Rattle.cdr.specs.declared.Index.{Index}
use Rattle.cdr.specs.declared.Place.{Place}
use Rattle.cdr.specs.declared.Order.{Order}
use Rattle.cdr.specs.declared.Size.{Size}
use Rattle.cdr.specs.declared.Size.TheVariants.{One, Two, Four, Eight}
use Rattle.cdr.specs.Align.{octets}
use Rattle.cdr_fields.specs.Encapsulation.{start, field_of, counted_of}
use Rattle.cdr_fields.proofs.FieldsRead.{field-facts, field-none, counted_none}
use Rattle.cdr.proofs.GapsBounded.{read-ends}
use Rattle.type_kinds.specs.Parts.{field_in}

some-octet : (size : Size) → 0 < octets size
some-octet One = omega arith
some-octet Two = omega arith
some-octet Four = omega arith
some-octet Eight = omega arith

module _ (v : List ℕ) (b : Place) (i : Index) where
  pub field-beyond : (size : Size) (order : Order) → length v < b.0 → field_of (drop b.0 v) i size order ≡ None
  field-beyond size order h =
      field-none (drop b.0 v) i size order
      (read-ends (drop b.0 v) start i.0 size order (omega (arith, length-drop b.0 v, some-octet size)))

  pub counted-beyond : (order : Order) → length v < b.0 → counted_of (drop b.0 v) i order ≡ None
  counted-beyond order h = counted_none (drop b.0 v) i order (field-beyond Four order h)

  -- a number that was read ends in the octets of the whole
  pub field-inside : (size : Size) (order : Order) (x : ℕ) (next : Index) → field_in v b i size order ≡ Some (x, next)
      → (octets size ≤ next.0) × (b.0 + next.0 ≤ length v)
  unfolding field_in
  field-inside size order x next e =
      let f = field-facts (drop b.0 v) i size order x next e in
      (omega (arith, f.ends), omega (arith, f.ends, f.fits, length-drop b.0 v, some-octet size))
