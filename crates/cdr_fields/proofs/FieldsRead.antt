-- Fields of an encapsulation: what each answer rests on, and what it tells.
use Rattle.std.specs.Prelude.{Option, Some, None, Result, Err}
use mathlib.Core.Path.{◌≡◌, refl, sym, ap, ◌∙◌}
use mathlib.Core.List.{List}
use Prim.Native.Nat.{ℕ, ◌+◌, ◌≤◌}
use native.Mathlib.Omega.{arith}
use lib.ListN.{length}
use Rattle.choices.proofs.Choices.{clash}
use Rattle.choices.proofs.Tuples.{some-pair}
use Rattle.cdr.specs.declared.Index.{Index}
use Rattle.cdr.specs.declared.Order.{Order}
use Rattle.cdr.specs.declared.Size.{Size}
use Rattle.cdr.specs.declared.Size.TheVariants.{Four}
use Rattle.cdr.specs.Align.{octets, behind_gap, index_of}
use Rattle.cdr.specs.Number.{number_at, read_of}
use Rattle.cdr_text.specs.Text.{text_of, run_of}
use Rattle.cdr_fields.specs.Encapsulation.{start, field_of, field_from, string_of, string_from, string_after, counted_of, counted_from, counted_after}
use Rattle.cdr.proofs.GapsBounded.{read-facts}
use Rattle.cdr_fields.specs.declared.StringFault.TheVariants.{NoText}
use Rattle.cdr_text.specs.declared.TextFault.{TextFault}

-- where a field stands, behind its gap and before the next, and what it is
pub record FieldRead (v : List ℕ) (i : Index) (size : Size) (order : Order) (x : ℕ) (next : Index) : Type 0 where
  pub ends : next.0 ≡ behind_gap start i.0 (octets size) + octets size
  pub fits : next.0 ≤ length v
  pub value : x ≡ number_at v (behind_gap start i.0 (octets size)) (octets size) order

module _ (v : List ℕ) (i : Index) (size : Size) (order : Order) where
  pub field_is : (p x : ℕ) → read_of v start i.0 size order ≡ Some (p, x) → field_of v i size order ≡ Some (x, index_of (p + octets size))
  unfolding field_of
  field_is p x e = ap (λ (r : Option (ℕ × ℕ)). field_from r (octets size)) e

  pub field-none : read_of v start i.0 size order ≡ None → field_of v i size order ≡ None
  unfolding field_of
  field-none e = ap (λ (r : Option (ℕ × ℕ)). field_from r (octets size)) e

  value-by : (r : Option (ℕ × ℕ)) → read_of v start i.0 size order ≡ r → (x : ℕ) (next : Index) → field_from r (octets size) ≡ Some (x, next)
      → FieldRead v i size order x next
  value-by (Some (p, y)) e x next f =
      let n = read-facts v start i.0 size order p y e in
      let parts = some-pair f in
      let a : index_of (p + octets size) ≡ next = cc in
      let b : y ≡ x = cc in
      let q = n.place in
      let k : next.0 ≡ p + octets size = ap (λ (j : Index). j.0) (sym a) in
      record {
        ends = omega arith;
        fits = omega (arith, n.fits);
        value = sym b ∙ n.value ∙ ap (λ (j : ℕ). number_at v j (octets size) order) q;
      }
  value-by None e x next f = clash cc

  pub field-facts : (x : ℕ) (next : Index) → field_of v i size order ≡ Some (x, next) → FieldRead v i size order x next
  unfolding field_of
  field-facts x next e = value-by (read_of v start i.0 size order) refl x next e

module _ (v : List ℕ) (i : Index) (order : Order) where
  pub string-none : field_of v i Four order ≡ None → string_of v i order ≡ Err NoText
  unfolding string_of
  string-none e = ap (string_after v) e

  pub string-is : (n : ℕ) (next : Index) → field_of v i Four order ≡ Some (n, next) → (t : Result ℕ TextFault) → text_of v next.0 n 0 ≡ t
      → string_of v i order ≡ string_from t next
  unfolding string_of
  string-is n next e t f = ap (string_after v) e ∙ ap (λ (u : Result ℕ TextFault). string_from u next) f

  pub counted_none : field_of v i Four order ≡ None → counted_of v i order ≡ None
  unfolding counted_of
  counted_none e = ap (counted_after v) e

  pub counted_is : (n : ℕ) (next : Index) → field_of v i Four order ≡ Some (n, next) → (t : Option ℕ) → run_of v next.0 n ≡ t
      → counted_of v i order ≡ counted_from t next n
  unfolding counted_of
  counted_is n next e t f = ap (counted_after v) e ∙ ap (λ (u : Option ℕ). counted_from u next n) f
