-- The numbers of kinds are set one after the other.
use mathlib.Core.Path.{◌≡◌, sym, ap, ◌∙◌}
use mathlib.Core.List.{List, map}
use Prim.Native.Nat.{ℕ, ◌+◌, ◌≤◌, ◌<◌}
use native.Mathlib.Numerals.{add-one}
use native.Mathlib.Omega.{arith}
use lib.ListN.{length, drop, set, drop_of_length-le}
use lib.Seq.{sets, drop-cons}
use Rattle.type_kinds.specs.declared.Kind.{Kind}
use Rattle.type_list.specs.declared.Met.{Met}
use Rattle.type_list.specs.Met.{no_kind, kind_no}
use Rattle.type_list.specs.Arrays.{kinds_held, kinds_met, entry_at}
use Rattle.type_list.proofs.KindsMet.{kind-entry, length-kinds}

pub set_all : (f : Kind → ℕ) (ks : List Kind) (i : ℕ) (l : List ℕ) → length ks ≤ i → sets l i (map f (drop i ks)) ≡ l
set_all f ks i l h = rw (drop_of_length-le ks h)

set-one : (f : Kind → ℕ) (ks : List Kind) (i : ℕ) (l : List ℕ) → i < length ks
    → sets (set l i (f (kind_no ks i))) (i + 1) (map f (drop (i + 1) ks)) ≡ sets l i (map f (drop i ks))
set-one f ks i l h = rw (add-one i, drop-cons ks i no_kind h)

module _ (m : Met) (i : ℕ) (low : i < kinds_held m) (f : Kind → ℕ) (l : List ℕ) (x : ℕ) where
  pub set_more : x ≡ f (entry_at m i) → sets (set l i x) (i + 1) (map f (drop (i + 1) (kinds_met m))) ≡ sets l i (map f (drop i (kinds_met m)))
  set_more e =
      ap (λ (y : ℕ). sets (set l i y) (i + 1) (map f (drop (i + 1) (kinds_met m)))) (e ∙ ap f (sym (kind-entry m i low)))
      ∙ set-one f (kinds_met m) i l (omega (arith, low, length-kinds m))
