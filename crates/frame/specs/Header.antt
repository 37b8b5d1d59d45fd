-- "Twelve octets: `GIOP` (47 49 4F 50), major, minor, flags, type, size as unsigned long."
--   magic_offset   where a header has its magic,
--   major_offset   major version,
--   minor_offset   minor version,
--   flags_offset   flags,
--   type_offset    type,
--   size_offset    and size
--   header_size    the octets of a header
--   giop          the magic, as a number of four octets
--   order_flag     "Flag bit 0 is 1 for little-endian"
--   more_flag      "bit 1 says more fragments follow"
--   magic_at       the fields of a frame's octets, in their order: magic,
--   major_at       major version,
--   minor_at       minor version,
--   flags_at       flags,
--   message_type_at    type,
--   order_at       the byte order that the flags name,
--   more_at        whether more fragments follow,
--   size_at        and size
--   id_at          the request id, where the message has one
--   header_of      what the header says
use Rattle.std.specs.Prelude.{ℕ, ◌/◌, ◌%◌, List, Bool, cond, eqb, get_or, Option, Some, None}
use Rattle.cdr.specs.declared.Order.{Order}
use Rattle.cdr.specs.declared.Order.TheVariants.{Big, Little}
use Rattle.cdr.specs.Number.{number_at}
use Rattle.frame.specs.declared.Header.{Header}
use Rattle.frame.specs.Messages.{id_size, has_request_id}

abbrev pub magic_offset : ℕ
magic_offset = 0

abbrev pub major_offset : ℕ
major_offset = 4

abbrev pub minor_offset : ℕ
minor_offset = 5

abbrev pub flags_offset : ℕ
flags_offset = 6

abbrev pub type_offset : ℕ
type_offset = 7

abbrev pub size_offset : ℕ
size_offset = 8

abbrev pub header_size : ℕ
header_size = 12

abbrev pub giop : ℕ
giop = 0x47494F50

abbrev pub order_flag : ℕ → Order
order_flag flags = cond (eqb (flags % 2) 1) Little Big

abbrev pub more_flag : ℕ → Bool
more_flag flags = eqb (flags / 2 % 2) 1

abbrev pub magic_at : List ℕ → ℕ
magic_at v = number_at v magic_offset 4 Big

abbrev pub major_at : List ℕ → ℕ
major_at v = get_or v major_offset 0

abbrev pub minor_at : List ℕ → ℕ
minor_at v = get_or v minor_offset 0

abbrev pub flags_at : List ℕ → ℕ
flags_at v = get_or v flags_offset 0

abbrev pub message_type_at : List ℕ → ℕ
message_type_at v = get_or v type_offset 0

abbrev pub order_at : List ℕ → Order
order_at v = order_flag (flags_at v)

abbrev pub more_at : List ℕ → Bool
more_at v = more_flag (flags_at v)

abbrev pub size_at : List ℕ → ℕ
size_at v = number_at v size_offset 4 (order_at v)

abbrev pub id_at : List ℕ → Option ℕ
id_at v = cond (has_request_id (minor_at v) (message_type_at v)) (Some (number_at v header_size id_size (order_at v))) None

abbrev pub header_of : List ℕ → Header
header_of v = record { minor = minor_at v; order = order_at v; more = more_at v; kind = message_type_at v; size = size_at v; id = id_at v }
