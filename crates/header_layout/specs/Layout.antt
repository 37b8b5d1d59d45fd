-- The parts of each header in wire order.
--   early_request    "1.0 Request: contexts (id, octets), request id, response boolean, key, operation, principal octets; 1.1 adds three reserved
--                   octets after the boolean": in 1.0 there are none of these
--   late_request     "1.2: id, flags (0, 1 or 3), three reserved octets, target .., operation, contexts"
--   early_reply      "Reply: contexts, id, status in 1.0 and 1.1"
--   late_reply       "id, status, contexts in 1.2"
--   is_request       type 0
--   layout_of        the parts of a message's header; those of 1.2 where bodies start with the request id
--   part_number      the part of a number among others, the first one 0
use Rattle.std.specs.Prelude.{ℕ, zero, suc, List, [], ◌∷◌, Bool, cond, eqb, Option, Some, None}
use Rattle.version.specs.Versions.{body_starts_with_id}
use Rattle.header_layout.specs.declared.HeaderPart.{HeaderPart}
use Rattle.header_layout.specs.declared.HeaderPart.TheVariants.{Contexts, Id, Response, Reserved, Key, Target, Operation, Principal, Status}

abbrev pub early_request : List HeaderPart
early_request = Contexts ∷ Id ∷ Response ∷ Reserved ∷ Key ∷ Operation ∷ Principal ∷ []

abbrev pub late_request : List HeaderPart
late_request = Id ∷ Response ∷ Reserved ∷ Target ∷ Operation ∷ Contexts ∷ []

abbrev pub early_reply : List HeaderPart
early_reply = Contexts ∷ Id ∷ Status ∷ []

abbrev pub late_reply : List HeaderPart
late_reply = Id ∷ Status ∷ Contexts ∷ []

abbrev pub is_request : ℕ → Bool
is_request kind = eqb kind 0

unfoldable pub layout_of : ℕ → ℕ → List HeaderPart
layout_of kind minor =
    cond (is_request kind) (cond (body_starts_with_id minor) late_request early_request)
    (cond (body_starts_with_id minor) late_reply early_reply)

unfoldable pub part_number : List HeaderPart → ℕ → Option HeaderPart
part_number [] n = None
part_number (x ∷ xs) zero = Some x
part_number (x ∷ xs) (suc n) = part_number xs n
