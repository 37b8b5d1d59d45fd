-- "42 over 16,384 octets": of a TypeCode, a value, a profile body and a message whose header is read; and the room of an output.
--   octets_limit    the most octets
--   fits           n octets fit from `at` on in so many
use Rattle.std.specs.Prelude.{ℕ, ◌+◌, Bool, leb}

abbrev pub octets_limit : ℕ
octets_limit = 16384

unfoldable pub fits : ℕ → ℕ → ℕ → Bool
fits len at n = leb (at + n) len
