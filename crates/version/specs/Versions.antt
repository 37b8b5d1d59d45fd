-- Which versions are read, "1.0, 1.1 or 1.2" of messages (14) and of profile bodies (62), and what each minor version implies. The major
-- version is 1 in all of them.
--   major_exists         which major versions there are
--   minor_exists         which minor versions there are
--   flags_allowed        15: "1.0: flags octet above 1; later: any of the top six bits set" is refused
--   type_exists          16: "type above 6 (1.0) or above 7" is refused
--   body_starts_with_id    "In 1.2 the first four body octets of types 0, 1, 3, 4 and 7 are the request id"
--   reads_fragments      "Left out: .. 1.1 fragments"
--   has_components       "from minor 1 a list of components": which profile bodies have one
--   reserved_octets      of a request header: "1.1 adds three reserved octets after the boolean", and 1.2 has them after the flags
--   response_allowed     71: "response boolean"; in 1.2 "flags (0, 1 or 3)"
--   status_exists        74: "Status is 0 to 3, in 1.2 0 to 5"
--   body_in_eights        "A 1.2 body that isn't empty begins at a multiple of 8": what follows a request's or a reply's header
use Rattle.std.specs.Prelude.{ℕ, Bool, cond, not, ◌&&◌, ◌||◌, leb, eqb}

unfoldable pub major_exists : ℕ → Bool
major_exists major = eqb major 1

unfoldable pub minor_exists : ℕ → Bool
minor_exists minor = leb minor 2

unfoldable pub flags_allowed : ℕ → ℕ → Bool
flags_allowed minor flags = cond (eqb minor 0) (leb flags 1) (leb flags 3)

unfoldable pub type_exists : ℕ → ℕ → Bool
type_exists minor kind = cond (eqb minor 0) (leb kind 6) (leb kind 7)

unfoldable pub body_starts_with_id : ℕ → Bool
body_starts_with_id minor = leb 2 minor

unfoldable pub reads_fragments : ℕ → Bool
reads_fragments minor = not (eqb minor 1)

unfoldable pub has_components : ℕ → Bool
has_components minor = leb 1 minor

unfoldable pub reserved_octets : ℕ → ℕ
reserved_octets minor = cond (eqb minor 0) 0 3

unfoldable pub response_allowed : ℕ → ℕ → Bool
response_allowed minor response = leb response 1 || (body_starts_with_id minor && eqb response 3)

unfoldable pub status_exists : ℕ → ℕ → Bool
status_exists minor status = leb status (cond (body_starts_with_id minor) 5 3)

unfoldable pub body_in_eights : ℕ → Bool
body_in_eights minor = leb 2 minor
