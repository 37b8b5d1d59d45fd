-- The message types, and which of them have a request id.
--   version_exists       14: "not 1.0, 1.1 or 1.2" is refused
--   id_size              the octets of a request id
--   is_request_or_reply    types 0, 1, 3, 4: Request, Reply, LocateRequest, LocateReply
--   is_cancel            type 2: CancelRequest
--   is_fragment          type 7: Fragment
--   is_bare              types 5 and 6, which have no body: CloseConnection, MessageError
--   has_request_id        whether a message has a request id: "a CancelRequest's body is its id in all versions"
use Rattle.std.specs.Prelude.{ℕ, Bool, ◌&&◌, ◌||◌, leb, eqb}
use Rattle.version.specs.Versions.{major_exists, minor_exists, body_starts_with_id}

unfoldable pub version_exists : ℕ → ℕ → Bool
version_exists major minor = major_exists major && minor_exists minor

abbrev pub id_size : ℕ
id_size = 4

unfoldable pub is_request_or_reply : ℕ → Bool
is_request_or_reply kind = leb kind 1 || (leb 3 kind && leb kind 4)

abbrev pub is_cancel : ℕ → Bool
is_cancel kind = eqb kind 2

abbrev pub is_fragment : ℕ → Bool
is_fragment kind = eqb kind 7

unfoldable pub is_bare : ℕ → Bool
is_bare kind = leb 5 kind && leb kind 6

unfoldable pub has_request_id : ℕ → ℕ → Bool
has_request_id minor kind = is_cancel kind || (body_starts_with_id minor && (is_request_or_reply kind || is_fragment kind))
