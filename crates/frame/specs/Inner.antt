-- What private functions ask of each other; nothing that a caller is told rests on these names.
--   IdThere    the octets of the header, and those of the request id of a message that has one
use Rattle.std.specs.Prelude.{◌≡◌, true, List, ℕ, ◌+◌, ◌≤◌, length}
use Rattle.frame.specs.Messages.{id_size, has_request_id}
use Rattle.frame.specs.Header.{header_size, minor_at, message_type_at}

pub record IdThere (v : List ℕ) : Type 0 where
  pub header : header_size ≤ length v
  pub id : has_request_id (minor_at v) (message_type_at v) ≡ true → header_size + id_size ≤ length v
