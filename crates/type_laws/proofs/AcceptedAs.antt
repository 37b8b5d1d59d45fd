-- What is promised of an accepted type, to whoever reads values of it.
--   Returning      the octets have no fault, and some kind returns to itself in one or more steps
--   AcceptedAs     an accepted type: its kinds, 1 to 64, are all good, and the first is the top; a type that is known is read as the kind of
--                  its place; a step leads to a kind of the list; and each kind has a rank, at most the number of kinds, that falls at each step
use Rattle.std.specs.Prelude.{Ok}
use mathlib.Core.Path.{◌≡◌}
use mathlib.Core.Bool.{true}
use Prim.Native.Nat.{ℕ, ◌≤◌, ◌<◌}
use mathlib.Core.List.{List}
use lib.ListN.{length}
use Rattle.cdr.specs.declared.Index.{Index}
use Rattle.cdr.specs.declared.Order.{Order}
use Rattle.type_kinds.specs.declared.Inner.{Inner}
use Rattle.type_kinds.specs.declared.Kind.{Kind}
use Rattle.type_loops.proofs.LoopDecided.{Returns}
use Rattle.type_loops.proofs.RankFalls.{rank}
use Rattle.type_walk.specs.Types.{walked_of}
use Rattle.type_steps.specs.Steps.{steps}
use Rattle.type_kinds.specs.Parts.{place_in}
use Rattle.type_list.specs.Met.{kind_no, find_kind, parameters_of, inside_of}
use Rattle.type_laws.specs.Written.{top_kind}
use Rattle.type_laws.proofs.Sound.{Known, Good}

pub record Returning (v : List ℕ) (order : Order) : Type 0 where
  pub end : Index
  pub sound : (walked_of v order).step ≡ Ok end
  pub loop : Returns (length (walked_of v order).walk.kinds) (steps v (walked_of v order).walk.kinds)

pub record AcceptedAs (v : List ℕ) (order : Order) (k : ℕ) (m : List Kind) : Type 0 where
  pub kinds : k ≡ length m
  pub some : 0 < k
  pub most : k ≤ 64
  pub first : kind_no m 0 ≡ top_kind order
  pub good : (j : ℕ) → j < k → Good v m j
  pub seen : (x : Inner) → Known m x → inside_of v m x ≡ parameters_of v m (find_kind m (place_in x))
  pub listed : (x : Inner) → Known m x → find_kind m (place_in x) < k
  pub low : (i j : ℕ) → i < k → steps v m i j ≡ true → j < k
  pub ranked : (i : ℕ) → i < k → (0 < rank k (steps v m) i) × (rank k (steps v m) i ≤ k)
  pub falls : (i j : ℕ) → i < k → steps v m i j ≡ true → rank k (steps v m) j < rank k (steps v m) i
