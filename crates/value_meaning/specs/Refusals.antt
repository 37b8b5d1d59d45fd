-- "Value refusals, first fault in reading order: 50 octets end; 51 boolean above 1; 52 enum not below count; 53 string, as 32; 54 over its
-- bound ..; 55 a visit with 64 open above it, not counted; 56 no room for a finished item."
--   value_refusals     all of them
--   is_value_refusal    a number is one of them
--   room_refusal       the one that only a lack of room for items gives
use Rattle.std.specs.Prelude.{◌∷◌}
use Rattle.choices.specs.{ℕ, List, [], Bool, eqb, any_of}

abbrev pub value_refusals : List ℕ
value_refusals = 50 ∷ 51 ∷ 52 ∷ 53 ∷ 54 ∷ 55 ∷ 56 ∷ []

unfoldable pub is_value_refusal : ℕ → Bool
is_value_refusal n = any_of (eqb n) value_refusals

abbrev pub room_refusal : ℕ
room_refusal = 56
