-- What private functions promise each other; nothing that a caller is told rests on these names.
--   behind_at    the character behind an item, by the number of the next and how many there are
use Rattle.std.specs.Prelude.{ℕ, ltb}
use Rattle.choices.specs.Branch.{choose}
use Rattle.ask_text.specs.Items.{comma, lf}

unfoldable pub behind_at : ℕ → ℕ → ℕ
behind_at next count = choose (ltb next count) (λ _. comma) (λ _. lf)
