-- The plain reader: it keeps in a list what is open, the innermost visit first, and nothing in it leads back to itself. What a single visit
-- does is said by `begins` and `next`, as for the reader whose visits call one another.
--   Frame       a visit that is open: its type, and what is still to be entered; `frame` the same from its parts
--   Plain       where it is: the visits that are open, and the state of the reading; `plain` the same from its parts
--   stopped     a refusal leaves nothing open
--   entered     a visit is begun with these open above it; "55 a visit with 64 open above it, not counted"
--   step        one step: the innermost visit that is open enters what is next, or ends
--   run         so many steps
use Prim.Native.Nat.{ℕ, zero, suc}
use mathlib.Core.List.{List, [], ◌∷◌}
use lib.Dec.{eqb, leb}
use lib.ListN.{length}
use Rattle.choices.specs.Branch.{choose}
use Rattle.value_meaning.specs.Sinks.{Source, Sink, St, failed, begun}
use Rattle.value_meaning.specs.Visit.{Checked}
use Rattle.value_meaning.specs.Reading.{levels}
use Rattle.value_meaning.specs.Opens.{Node, Open, node_at, on_next, next, begins}

pub record Frame : Type 0 where
  pub type : Checked
  pub still : Open

abbrev pub frame : Checked → Open → Frame
frame t o = record { type = t; still = o }

pub record Plain (A : Type 0) : Type 0 where
  pub list : List Frame
  pub state : St A

module _ {A : Type 0} where
  abbrev pub plain : List Frame → St A → Plain A
  plain ws s = record { list = ws; state = s }

  abbrev pub stopped : List Frame → St A → Plain A
  stopped ws s = choose (eqb s.fault 0) (λ _. plain ws s) (λ _. plain [] s)

module _ {A : Type 0} (k : Sink A) (x : Source) where
  unfoldable pub entered : Node → List Frame → St A → Plain A
  entered q ws s =
      choose (leb levels (length ws))
      (λ _. plain [] (failed 55 s))
      (λ _. stopped (frame q.type (begins k x q.at (begun k s)).still ∷ ws) (begins k x q.at (begun k s)).state)

  unfoldable pub step : List Frame → St A → Plain A
  step [] s = plain [] s
  step (w ∷ ws) s =
      on_next (next w.still s.last) (plain ws s) (λ p o. entered (node_at w.type p) (frame w.type o ∷ ws) s)

  unfoldable pub run : ℕ → Plain A → Plain A
  run zero c = c
  run (suc n) c = run n (step c.list c.state)
