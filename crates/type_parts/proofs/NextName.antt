-- The names of an enum, turn by turn.
use Rattle.std.specs.Prelude.{Ok, Err}
use mathlib.Core.Path.{◌≡◌}
use mathlib.Core.List.{List}
use Prim.Native.Nat.{ℕ, suc}
use Rattle.cdr.specs.declared.Index.{Index}
use Rattle.cdr.specs.declared.Order.{Order}
use Rattle.type_counts.specs.declared.Refusal.{Refusal}
use Rattle.type_counts.specs.Counts.{text_step, texts_step}

module _ (s : List ℕ) (order : Order) (i : Index) where
  pub texts-refused : (r : Refusal) → text_step s i order ≡ Err r → (m : ℕ) → texts_step s order (suc m) i ≡ Err r
  unfolding texts_step
  texts-refused r e m = rw e

  pub texts-next : (j : Index) → text_step s i order ≡ Ok j → (m : ℕ) → texts_step s order (suc m) i ≡ texts_step s order m j
  unfolding texts_step
  texts-next j e m = rw e
