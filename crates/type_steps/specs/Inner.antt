-- What private functions promise each other; nothing that a caller is told rests on these names.
--   Noted      rows after the steps from kind i to where a test holds are put into them; only the columns below n count
--   RowsFilled     rows that have the steps from the kinds below i, and no other
use Rattle.std.specs.Prelude.{◌≡◌, ◌&&◌, ◌||◌, ◌<◌}
use Rattle.choices.specs.{Bool, List, ℕ, ltb, eqb, length}
use Rattle.type_loops.specs.Loops.{cell}
use Rattle.type_kinds.specs.{Kind}
use Rattle.type_steps.specs.Steps.{steps}

pub record Noted (n : ℕ) (before : List ℕ) (i : ℕ) (f : ℕ → Bool) (after : List ℕ) : Type 0 where
  pub long : length after ≡ length before
  pub cells : (x z : ℕ) → z < n → cell after x z ≡ (cell before x z || (eqb x i && f z))

pub record RowsFilled (v : List ℕ) (ks : List Kind) (i : ℕ) (rows : List ℕ) : Type 0 where
  pub cells : (x z : ℕ) → z < length ks → cell rows x z ≡ (ltb x i && steps v ks x z)
