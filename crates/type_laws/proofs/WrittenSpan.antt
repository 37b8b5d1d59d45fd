-- Each kind and all that is written inside it stand side by side in the list: the first kind inside it right behind it, the next one beside that
-- where the first one's own end, and the last one's end is its own.
use mathlib.Core.Path.{◌≡◌, sym, ◌∙◌, subst}
use lib.ListN.{length}
use mathlib.Core.List.{List, [], ◌∷◌}
use Prim.Native.Nat.{ℕ, ◌+◌, ◌<◌}
use native.Mathlib.Omega.{arith}
use Rattle.cdr.specs.declared.Place.{Place}
use Rattle.type_kinds.specs.declared.Inner.{Inner}
use Rattle.type_kinds.specs.declared.Inner.TheVariants.{Here, There}
use Rattle.type_parameters.specs.declared.Parameters.{Parameters}
use Rattle.type_parameters.specs.declared.Parameters.TheVariants.{Fault, Flat, Struct, Exception, Union, Sequence, Array, Alias}
use Rattle.type_kinds.specs.declared.Kind.{Kind}
use Rattle.type_kinds.specs.Members.{members_of, types_of}
use Rattle.type_parameters.specs.Parameters.{parameters_at}
use Rattle.type_list.specs.Met.{kind_no}
use Rattle.type_laws.specs.Written.{types_by}
use Rattle.type_laws.proofs.ListGrows.{Grows, kind-again}
use Rattle.type_laws.proofs.InnerKnown.{Switch, switch-grows}

-- the types inside a kind, in octet order, by the labels that the list says
abbrev pub RowOf : List ℕ → List Kind → Parameters → List Inner → Type 0
RowOf v m Fault xs = xs ≡ []
RowOf v m (Flat i) xs = xs ≡ []
RowOf v m (Struct g) xs = xs ≡ types_by v (Struct g)
RowOf v m (Exception g) xs = xs ≡ types_by v (Exception g)
RowOf v m (Union g d default) xs = (s : Switch v m d) × (xs ≡ d ∷ types_of (members_of s.labels v g))
RowOf v m (Sequence x bound) xs = xs ≡ x ∷ []
RowOf v m (Array x n) xs = xs ≡ x ∷ []
RowOf v m (Alias x) xs = xs ≡ x ∷ []

mutual
  -- the kind at a position and all that is written inside it, up to a position
  pub data Span (v : List ℕ) (m : List Kind) : ℕ → ℕ → Type 0 where
    span : {j e : ℕ} (xs : List Inner) → j < length m → RowOf v m (parameters_at v (kind_no m j)) xs → Spans v m xs (j + 1) e → Span v m j e

  -- the kinds written among types, one behind the other
  pub data Spans (v : List ℕ) (m : List Kind) : List Inner → ℕ → ℕ → Type 0 where
    end : {i e : ℕ} → i ≡ e → Spans v m [] i e
    past : {p : Place} {xs : List Inner} {i e : ℕ} → Spans v m xs i e → Spans v m (There p ∷ xs) i e
    over : {a : Kind} {xs : List Inner} {i k e : ℕ} → kind_no m i ≡ a → Span v m i k → Spans v m xs k e → Spans v m (Here a ∷ xs) i e

module _ (v : List ℕ) (m m' : List Kind) (g : Grows m m') where
  row-grows : (p : Parameters) (xs : List Inner) → RowOf v m p xs → RowOf v m' p xs
  unfolding switch-grows
  row-grows Fault xs h = h
  row-grows (Flat i) xs h = h
  row-grows (Struct f) xs h = h
  row-grows (Exception f) xs h = h
  row-grows (Union f d default) xs h = (switch-grows v m m' g d h.0, h.1)
  row-grows (Sequence x bound) xs h = h
  row-grows (Array x n) xs h = h
  row-grows (Alias x) xs h = h

  again : (j e : ℕ) → Span v m j e → kind_no m' j ≡ kind_no m j
  again j e (span xs l r s) = kind-again m m' j g l

  mutual
    pub span-grows : {j e : ℕ} → Span v m j e → Span v m' j e
    span-grows (span {j = j} xs l r s) =
        span {j = j} xs (omega (arith, g.count)) (subst (λ (a : Kind). RowOf v m' (parameters_at v a) xs) (sym (kind-again m m' j g l)) (row-grows (parameters_at v (kind_no m j)) xs r)) (spans-grow s)

    pub spans-grow : {xs : List Inner} {i e : ℕ} → Spans v m xs i e → Spans v m' xs i e
    spans-grow (end q) = end q
    spans-grow (past s) = past (spans-grow s)
    spans-grow (over {i = i} {k = k} q t s) = over (again i k t ∙ q) (span-grows t) (spans-grow s)

module _ (v : List ℕ) (m : List Kind) where
  -- one type, and more behind it
  pub spans_on : (x : Inner) (xs : List Inner) (i k e : ℕ) → Spans v m (x ∷ []) i k → Spans v m xs k e → Spans v m (x ∷ xs) i e
  spans_on x xs i k e (past (end q)) t = past (subst (λ (z : ℕ). Spans v m xs z e) (sym q) t)
  spans_on x xs i k e (over q s (end r)) t = over q s (subst (λ (z : ℕ). Spans v m xs z e) (sym r) t)

  pub spans-to : {xs : List Inner} {i k e : ℕ} → i ≡ k → Spans v m xs i e → Spans v m xs k e
  spans-to {xs = xs} {e = e} q s = subst (λ (z : ℕ). Spans v m xs z e) q s

  -- a type with which the list grew is written there
  pub written-span : (x : Inner) (i e : ℕ) → i < e → Spans v m (x ∷ []) i e → Span v m i e
  written-span x i e l (past (end q)) = absurd (omega arith)
  written-span x i e l (over q s (end r)) = subst (Span v m i) r s
