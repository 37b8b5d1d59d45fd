-- The IIOP profile body: "42 over 16,384 octets, then in octet order" the refusals of the parts; v are the body's octets.
--   profile_number      01's number of an answer, 0 for a body that was read
--   profile_row         what a body says, as numbers: order octet, major, minor, the index of the host's first octet and its length, port, the
--                      index of the key's first octet and its length, components, extra
--   profile_values      the row of an answer; "a refusal's other numbers are 0"
--   profile_numbers     the number of an answer, then its row
--   component_number    01's number of an answer about a component
--   component_row       a component as numbers: tag, the index of its octets' first one, their length
--   component_values    the row of an answer about a component
--   component_numbers   the number of an answer about a component, then its row
--   on_order_part, on_version, on_span, on_number, on_list
--                      what follows a part, or its refusal
--   profile_of          the reading of a body, part by part
--   found_from          what a component that was read is told as
--   component_then      the component of a number in a body that was read: 69 "for a number not below their count"
--   component_in        the component of an answer about a body
--   component_of        "a component by number from 0, with its tag; 69, last"
use Rattle.std.specs.Prelude.{ℕ, List, [], ◌∷◌, ltb, leb, length, replicate, Result, Ok, Err}
use Rattle.choices.specs.Branch.{choose}
use Rattle.cdr.specs.declared.Index.{Index}
use Rattle.cdr.specs.declared.Order.{Order}
use Rattle.cdr.specs.Limit.{octets_limit}
use Rattle.cdr.specs.Orders.{order_octet}
use Rattle.cdr_fields.specs.declared.Extent.{Extent}
use Rattle.cdr_fields.specs.Encapsulation.{start}
use Rattle.profile_parts.specs.declared.Refusal.TheVariants.{TooLong, NoSuchComponent}
use Rattle.profile.specs.declared.Profile.{Profile}
use Rattle.profile_parts.specs.Parts.{profile_refusal_number, order_part_at, version_at, host_at, port_at, key_at}
use Rattle.profile.specs.List.{list_at, component_from}
use Rattle.profile_parts.specs.declared.Refusal.{Refusal}

abbrev pub profile_number : Result Profile Refusal → ℕ
profile_number (Ok p) = 0
profile_number (Err r) = profile_refusal_number r

abbrev pub profile_row : Profile → List ℕ
profile_row p =
    order_octet p.head.order ∷ p.head.major ∷ p.head.minor ∷ p.host.from.0 ∷ p.host.length ∷ p.port
    ∷ p.key.from.0 ∷ p.key.length ∷ p.components ∷ p.extra ∷ []

abbrev pub profile_values : Result Profile Refusal → List ℕ
profile_values (Ok p) = profile_row p
profile_values (Err r) = replicate 10 0

abbrev pub profile_numbers : Result Profile Refusal → List ℕ
profile_numbers a = profile_number a ∷ profile_values a

abbrev pub component_number : Result (ℕ × Extent) Refusal → ℕ
component_number (Ok (tag, octets)) = 0
component_number (Err r) = profile_refusal_number r

abbrev pub component_row : ℕ → Extent → List ℕ
component_row tag octets = tag ∷ octets.from.0 ∷ octets.length ∷ []

abbrev pub component_values : Result (ℕ × Extent) Refusal → List ℕ
component_values (Ok (tag, octets)) = component_row tag octets
component_values (Err r) = replicate 3 0

abbrev pub component_numbers : Result (ℕ × Extent) Refusal → List ℕ
component_numbers a = component_number a ∷ component_values a

abbrev pub on_order_part : Result (Order × Index) Refusal → (Order → Index → Result Profile Refusal) → Result Profile Refusal
on_order_part (Ok (order, next)) f = f order next
on_order_part (Err r) f = Err r

abbrev pub on_version : Result (ℕ × ℕ × Index) Refusal → (ℕ → ℕ → Index → Result Profile Refusal) → Result Profile Refusal
on_version (Ok (major, minor, next)) f = f major minor next
on_version (Err r) f = Err r

abbrev pub on_span : Result (Extent × Index) Refusal → (Extent → Index → Result Profile Refusal) → Result Profile Refusal
on_span (Ok (octets, next)) f = f octets next
on_span (Err r) f = Err r

abbrev pub on_number : Result (ℕ × Index) Refusal → (ℕ → Index → Result Profile Refusal) → Result Profile Refusal
on_number (Ok (x, next)) f = f x next
on_number (Err r) f = Err r

abbrev pub on_list : Result (ℕ × Index × ℕ) Refusal → (ℕ → Index → ℕ → Result Profile Refusal) → Result Profile Refusal
on_list (Ok (count, first, extra)) f = f count first extra
on_list (Err r) f = Err r

unfoldable pub profile_of : List ℕ → Result Profile Refusal
profile_of v =
    choose (ltb octets_limit (length v)) (λ _. (Err TooLong)) (λ _.
    on_order_part (order_part_at v start) (λ order next.
    on_version (version_at v next) (λ major minor next.
    on_span (host_at v next order) (λ host next.
    on_number (port_at v next order) (λ port next.
    on_span (key_at v next order) (λ key next.
    on_list (list_at v next minor order) (λ count first extra.
    (Ok (record {
      head = record { order = order; major = major; minor = minor };
      host = host;
      port = port;
      key = key;
      components = count;
      first = first;
      extra = extra;
    })))))))))

abbrev pub found_from : Result (ℕ × Extent × Index) Refusal → Result (ℕ × Extent) Refusal
found_from (Ok (tag, octets, next)) = Ok (tag, octets)
found_from (Err r) = Err r

unfoldable pub component_then : List ℕ → Profile → ℕ → Result (ℕ × Extent) Refusal
component_then v p number =
    choose (leb p.components number) (λ _. (Err NoSuchComponent)) (λ _. found_from (component_from v p.first number p.head.order))

abbrev pub component_in : List ℕ → ℕ → Result Profile Refusal → Result (ℕ × Extent) Refusal
component_in v number (Ok p) = component_then v p number
component_in v number (Err r) = Err r

unfoldable pub component_of : List ℕ → ℕ → Result (ℕ × Extent) Refusal
component_of v number = component_in v number (profile_of v)
