-- `profile_of` from one part on, whatever was read before it: the stages by which what is proved of it goes.
--   list_then       the components and the extra octets
--   key_then        the key, and all behind it
--   port_then       the port, and all behind it
--   host_then       the host, and all behind it
--   version_then    the version, and all behind it
use Rattle.std.specs.Prelude.{ℕ, List, Result, Ok}
use Rattle.cdr.specs.declared.Index.{Index}
use Rattle.cdr.specs.declared.Order.{Order}
use Rattle.profile_parts.specs.Parts.{version_at, host_at, port_at, key_at}
use Rattle.cdr_fields.specs.declared.Extent.{Extent}
use Rattle.profile.specs.declared.Head.{Head}
use Rattle.profile.specs.List.{list_at}
use Rattle.profile.specs.Profile.{on_version, on_span, on_number, on_list}
use Rattle.profile.specs.declared.Profile.{Profile}
use Rattle.profile_parts.specs.declared.Refusal.{Refusal}

unfoldable pub list_then : List ℕ → Head → Extent → ℕ → Extent → Index → Result Profile Refusal
list_then v head host port key i =
    on_list (list_at v i head.minor head.order) (λ count first extra.
    (Ok (record { head = head; host = host; port = port; key = key; components = count; first = first; extra = extra })))

unfoldable pub key_then : List ℕ → Head → Extent → ℕ → Index → Result Profile Refusal
key_then v head host port i = on_span (key_at v i head.order) (λ key next. list_then v head host port key next)

unfoldable pub port_then : List ℕ → Head → Extent → Index → Result Profile Refusal
port_then v head host i = on_number (port_at v i head.order) (λ port next. key_then v head host port next)

unfoldable pub host_then : List ℕ → Head → Index → Result Profile Refusal
host_then v head i = on_span (host_at v i head.order) (λ host next. port_then v head host next)

unfoldable pub version_then : List ℕ → Order → Index → Result Profile Refusal
version_then v order i =
    on_version (version_at v i) (λ major minor next. host_then v (record { order = order; major = major; minor = minor }) next)
