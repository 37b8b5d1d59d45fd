-- "Types in a flat list": the kinds written in order of place, and where each stands among the others, over the octets alone.
--   is_union      parameters of a union
--   Row          "the kinds directly inside it", all of them, in octet order
--   written_in    the kinds written among types; indirections get no entry
--   Nth          the kind at a position
--   Beside       kinds that stand in the list one beside the other: the first at the position p, each further one where the kinds inside the
--                one before it end, and the last one's end is e
--   Flat         a list of all kinds written in order of place, and for each position j the position `end j` after the last kind inside: the
--                kinds written directly inside the kind at j stand from j + 1 on, one beside the other, up to `end j`
--   inner_after   by these ends, the position of the first inner kind written of the kind at j; k, the number of kinds, where there is none
--   beside_after  the position of the next one written beside the kind at i, inside the kind at j; k where there is none
--   Found        kinds found by positions: the first one at p, the next one beside it, and the number of kinds at the end
--   Right        "each with the positions in the list of its first inner kind written and of the next one written beside it": the kinds written
--                directly inside each kind are found by them, all and in octet order
use mathlib.Core.Path.{◌≡◌}
use mathlib.Core.List.{List, [], ◌∷◌}
use mathlib.Core.Bool.{Bool, true, false, cond}
use Prim.Native.Nat.{ℕ, ◌+◌, ◌≤◌, ◌<◌}
use lib.Dec.{ltb}
use lib.ListN.{length, get_or}
use Rattle.cdr.specs.declared.Order.{Order}
use Rattle.type_kinds.specs.declared.Kind.{Kind}
use Rattle.type_kinds.specs.declared.Inner.{Inner}
use Rattle.type_kinds.specs.declared.Inner.TheVariants.{Here, There}
use Rattle.type_kinds.specs.declared.Fields.{Fields}
use Rattle.type_kinds.specs.declared.Labels.{Labels}
use Rattle.type_parameters.specs.declared.Parameters.{Parameters}
use Rattle.type_parameters.specs.declared.Parameters.TheVariants.{Fault, Flat as flat, Struct, Exception, Union, Sequence, Array, Alias}
use Rattle.type_kinds.specs.Members.{members_of, types_of}
use Rattle.type_parameters.specs.Parameters.{parameters_at}
use Rattle.type_laws.specs.Written.{types_by, Tells}
use Rattle.type_laws.specs.Loops.{Listed}

abbrev pub is_union : Parameters → Bool
is_union Fault = false
is_union (flat i) = false
is_union (Struct g) = false
is_union (Exception g) = false
is_union (Union g d default) = true
is_union (Sequence x bound) = false
is_union (Array x n) = false
is_union (Alias x) = false

pub data Row (v : List ℕ) (order : Order) : Kind → List Inner → Type 0 where
  plain : {a : Kind} → is_union (parameters_at v a) ≡ false → Row v order a (types_by v (parameters_at v a))
  switch : {a : Kind} {g : Fields} {d : Inner} {default : ℕ} {labels : Labels} → parameters_at v a ≡ Union g d default → Tells v order d labels
      → Row v order a (d ∷ types_of (members_of labels v g))

abbrev pub written_in : List Inner → List Kind
written_in [] = []
written_in (Here a ∷ xs) = a ∷ written_in xs
written_in (There p ∷ xs) = written_in xs

abbrev pub Nth : List Kind → ℕ → Kind → Type 0
Nth ks j a = (j < length ks) × (get_or ks j a ≡ a)

abbrev pub Beside : List Kind → (ℕ → ℕ) → List Kind → ℕ → ℕ → Type 0
Beside ks end [] p e = p ≡ e
Beside ks end (a ∷ ls) p e = Nth ks p a × Beside ks end ls (end p) e

pub record Flat (v : List ℕ) (order : Order) (ks : List Kind) (end : ℕ → ℕ) : Type 0 where
  pub listed : Listed v order ks
  pub whole : end 0 ≡ length ks
  pub after : (j : ℕ) → j < length ks → j < end j
  pub nested : (j i : ℕ) → j < length ks → j ≤ i → i < end j → end i ≤ end j
  pub row : (j : ℕ) (a : Kind) → Nth ks j a → (xs : List Inner) × Row v order a xs
  pub rows : (j : ℕ) (a : Kind) → Nth ks j a → (xs : List Inner) → Row v order a xs → Beside ks end (written_in xs) (j + 1) (end j)

abbrev pub inner_after : ℕ → (ℕ → ℕ) → ℕ → ℕ
inner_after k end j = cond (ltb (j + 1) (end j)) (j + 1) k

abbrev pub beside_after : ℕ → (ℕ → ℕ) → ℕ → ℕ → ℕ
beside_after k end j i = cond (ltb (end i) (end j)) (end i) k

abbrev pub Found : List Kind → (ℕ → ℕ) → List Kind → ℕ → Type 0
Found ks beside [] p = p ≡ length ks
Found ks beside (a ∷ ls) p = Nth ks p a × Found ks beside ls (beside p)

pub record Right (v : List ℕ) (order : Order) (ks : List Kind) (inner beside : ℕ → ℕ) : Type 0 where
  pub listed : Listed v order ks
  pub top : beside 0 ≡ length ks
  pub row : (j : ℕ) (a : Kind) → Nth ks j a → (xs : List Inner) × Row v order a xs
  pub rows : (j : ℕ) (a : Kind) → Nth ks j a → (xs : List Inner) → Row v order a xs → Found ks beside (written_in xs) (inner j)
