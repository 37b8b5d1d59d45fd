-- A word of a header: at a multiple of 4 there is no gap before it, and where its octets are there it is read.
use Rattle.std.specs.Prelude.{Some, None}
use mathlib.Core.Path.{◌≡◌, ap, ◌∙◌}
use mathlib.Core.List.{List}
use Prim.Native.Nat.{ℕ, ◌+◌, ◌≤◌, ◌%◌}
use native.Mathlib.Omega.{arith}
use lib.ListN.{length}
use Rattle.choices.proofs.Choices.{clash}
use Rattle.cdr.specs.declared.Index.{Index}
use Rattle.cdr.specs.declared.Order.{Order}
use Rattle.cdr.specs.declared.Size.TheVariants.{Four}
use Rattle.cdr.specs.Align.{behind_gap, index_of}
use Rattle.cdr.specs.Number.{number_at}
use Rattle.cdr_fields.specs.Encapsulation.{start, field_of}
use Rattle.cdr.proofs.GapsBounded.{read_number}
use Rattle.cdr_fields.proofs.FieldsRead.{field_is, field-facts}

module _ (v : List ℕ) (at : ℕ) (order : Order) (m : at % 4 ≡ 0) where
  no_gap : behind_gap start at 4 ≡ at
  no_gap = omega arith

  pub word_value : (x : ℕ) (next : Index) → field_of v (index_of at) Four order ≡ Some (x, next) → x ≡ number_at v at 4 order
  word_value x next e = (field-facts v (index_of at) Four order x next e).value ∙ ap (λ (p : ℕ). number_at v p 4 order) no_gap

  pub word-there : at + 4 ≤ length v → field_of v (index_of at) Four order ≡ None → ⊥
  word-there h e =
      let g = no_gap in
      let f = field_is v (index_of at) Four order _ _ (read_number v start at Four order (omega arith)) in
      clash cc
