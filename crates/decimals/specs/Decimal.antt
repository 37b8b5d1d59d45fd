-- Decimal digits, as characters.
--   digit            the character of a digit
--   decimal_within    the decimal digits of a number, the last so many of them where it has more
--   decimal          the decimal digits of a number: a machine word has at most 20
use Rattle.std.specs.Prelude.{List, [], ◌∷◌, ◌++◌, ℕ, zero, suc, ◌+◌, ◌/◌, ◌%◌, ltb}
use Rattle.choices.specs.Branch.{choose}

abbrev pub digit : ℕ → ℕ
digit d = 48 + d

unfoldable pub decimal_within : ℕ → ℕ → List ℕ
decimal_within zero x = []
decimal_within (suc n) x = choose (ltb x 10) (λ _. digit x ∷ []) (λ _. decimal_within n (x / 10) ++ (digit (x % 10) ∷ []))

abbrev pub decimal : ℕ → List ℕ
decimal x = decimal_within 20 x
