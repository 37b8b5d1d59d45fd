-- The parts of a profile body: what each answer rests on.
use Rattle.std.specs.Prelude.{Option, Some, None, Result, Ok, Err}
use Rattle.std.specs.Option.{ok_or}
use mathlib.Core.Path.{◌≡◌, refl, sym, ap, ◌∙◌}
use mathlib.Core.List.{List}
use mathlib.Core.Bool.{Bool, cond}
use Prim.Native.Nat.{ℕ, ◌+◌, ◌≤◌}
use lib.ListN.{length, get_or}
use Rattle.choices.proofs.Choices.{clash}
use Rattle.cdr.specs.declared.Index.{Index}
use Rattle.cdr.specs.declared.Order.{Order}
use Rattle.cdr.specs.declared.Size.{Size}
use Rattle.cdr.specs.Align.{index_of}
use Rattle.cdr.specs.Orders.{order_of}
use Rattle.cdr_text.specs.Text.{run_of}
use Rattle.cdr_fields.specs.declared.Extent.{Extent}
use Rattle.cdr_fields.specs.Encapsulation.{field_of, counted_of}
use Rattle.cdr_fields.specs.Extents.{string_at, counted_upto, counted_at}
use Rattle.cdr_fields.specs.Tagged.{tagged_at}
use Rattle.version.specs.Versions.{major_exists, minor_exists}
use Rattle.profile_parts.specs.declared.Refusal.TheVariants.{Ends, NoSuchVersion}
use Rattle.profile_parts.specs.Parts.{order_part_at, order_from, order_named, minor_part_at, minor_from, version_at, major_from, host_at, host_from, number_part_at, number_part, key_at, key_from, component_at, component_part}
use Rattle.cdr_fields.proofs.FieldsRead.{field-facts}
use Rattle.cdr_fields.proofs.FieldsWithin.{counted-at-facts, string-at-inside}
use Rattle.cdr_fields.proofs.TaggedWithin.{tagged-inside}
use Rattle.cdr_fields.specs.declared.StringFault.{StringFault}

module _ (v : List ℕ) (i : Index) where
  pub order-none : run_of v i.0 1 ≡ None → order_part_at v i ≡ Err Ends
  unfolding order_part_at
  order-none e = ap (order_from v i) e

  pub order_is : (e : ℕ) → run_of v i.0 1 ≡ Some e → (n : Option Order) → order_of (get_or v i.0 0) ≡ n → order_part_at v i ≡ order_named n (index_of e)
  unfolding order_part_at
  order_is e r n o = ap (order_from v i) r ∙ ap (λ (x : Option Order). order_named x (index_of e)) o

  pub version-none : run_of v i.0 1 ≡ None → version_at v i ≡ Err Ends
  unfolding version_at
  version-none e = ap (major_from v i) e

  pub version-is : (e : ℕ) → run_of v i.0 1 ≡ Some e → (b : Bool) → major_exists (get_or v i.0 0) ≡ b
      → version_at v i ≡ cond b (minor_part_at v (get_or v i.0 0) (index_of (i.0 + 1))) (Err NoSuchVersion)
  unfolding version_at
  version-is e r b q = ap (major_from v i) r ∙ ap (λ (x : Bool). cond x (minor_part_at v (get_or v i.0 0) (index_of (i.0 + 1))) (Err NoSuchVersion)) q

module _ (v : List ℕ) (major : ℕ) (i : Index) where
  pub minor-none : run_of v i.0 1 ≡ None → minor_part_at v major i ≡ Err Ends
  unfolding minor_part_at
  minor-none e = ap (minor_from v major i) e

  pub minor-is : (e : ℕ) → run_of v i.0 1 ≡ Some e → (b : Bool) → minor_exists (get_or v i.0 0) ≡ b
      → minor_part_at v major i ≡ cond b (Ok (major, get_or v i.0 0, index_of e)) (Err NoSuchVersion)
  unfolding minor_part_at
  minor-is e r b q = ap (minor_from v major i) r ∙ ap (λ (x : Bool). cond x (Ok (major, get_or v i.0 0, index_of e)) (Err NoSuchVersion)) q

-- a part that was read stood there
some-of : {T : Type 0} (o : Option T) {x : T} → ok_or o Ends ≡ Ok x → o ≡ Some x
some-of (Some y) q = ap Some cc
some-of None q = clash cc

host-of : (s : Result (Extent × Index) StringFault) {w : Extent × Index} → host_from s ≡ Ok w → s ≡ Ok w
host-of (Ok (part, behind)) q = ap Ok cc
host-of (Err fault) q = clash cc

-- what a part is where it is what stands there, or its octets end
pub or-ends : {T : Type 0} {o p : Option T} → o ≡ p → ok_or o Ends ≡ ok_or p Ends
or-ends e = ap (λ o. ok_or o Ends) e

module _ (v : List ℕ) (i : Index) (order : Order) where
  pub host-is : (s : Result (Extent × Index) StringFault) → string_at v i order ≡ s → host_at v i order ≡ host_from s
  unfolding host_at
  host-is s e = ap host_from e

  -- where no rule of its own is broken, a part is what stands there, or its octets end
  number_from : (f : Option (ℕ × Index)) → number_part f ≡ ok_or f Ends
  number_from (Some (x, next)) = refl
  number_from None = refl

  pub number_is : (size : Size) → number_part_at v i size order ≡ ok_or (field_of v i size order) Ends
  unfolding number_part_at
  number_is size = number_from (field_of v i size order)

  key-from : (c : Option (Index × ℕ)) → key_from c ≡ ok_or (counted_upto c) Ends
  key-from (Some (from, n)) = refl
  key-from None = refl

  pub key-is : key_at v i order ≡ ok_or (counted_at v i order) Ends
  unfolding key_at counted_at
  key-is = key-from (counted_of v i order)

  component-from : (c : Option (ℕ × Extent × Index)) → component_part c ≡ ok_or c Ends
  component-from (Some (tag, octets, next)) = refl
  component-from None = refl

  pub component-is : component_at v i order ≡ ok_or (tagged_at v i order) Ends
  unfolding component_at
  component-is = component-from (tagged_at v i order)

  -- what a part that was read tells: its octets, and so the index after it, are among the body's
  pub component-inside : (tag : ℕ) (octets : Extent) (next : Index) → component_at v i order ≡ Ok (tag, octets, next)
      → (next.0 ≡ octets.from.0 + octets.length) × (next.0 ≤ length v)
  component-inside tag octets next q = tagged-inside v i order tag octets next (some-of (tagged_at v i order) (sym component-is ∙ q))

  pub key-inside : (octets : Extent) (next : Index) → key_at v i order ≡ Ok (octets, next)
      → (next.0 ≡ octets.from.0 + octets.length) × (next.0 ≤ length v)
  key-inside octets next q =
      let f = counted-at-facts v i order octets next (some-of (counted_at v i order) (sym key-is ∙ q)) in (f.ends, f.fits)

  pub host-inside : (octets : Extent) (next : Index) → host_at v i order ≡ Ok (octets, next)
      → (next.0 ≡ octets.from.0 + octets.length + 1) × (next.0 ≤ length v)
  unfolding host_at
  host-inside octets next q = string-at-inside v i order octets next (host-of (string_at v i order) q)

  pub number-inside : (size : Size) (x : ℕ) (next : Index) → number_part_at v i size order ≡ Ok (x, next) → next.0 ≤ length v
  number-inside size x next q = (field-facts v i size order x next (some-of (field_of v i size order) (sym (number_is size) ∙ q))).fits
