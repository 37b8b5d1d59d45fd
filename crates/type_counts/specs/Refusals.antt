-- "Type refusals, first fault in octet order: 42 over 16,384 octets (before all else)" and so on: 01's number of each. 39 is none of
-- these: it comes "last of all", when no octet is at fault.
--   type_refusal_number    the number of a refusal
use Rattle.choices.specs.{ℕ}
use Rattle.type_counts.specs.Names.{Refusal, Ends, NoSuchKind, BadText, BadEncapsulation, NoCount, BadUnion, BadTarget, TooManyKinds}
use Rattle.type_counts.specs.Names.{TooDeep, BelowTop, TooLong}

abbrev pub type_refusal_number : Refusal → ℕ
type_refusal_number Ends = 30
type_refusal_number NoSuchKind = 31
type_refusal_number BadText = 32
type_refusal_number BadEncapsulation = 33
type_refusal_number NoCount = 34
type_refusal_number BadUnion = 35
type_refusal_number BadTarget = 36
type_refusal_number TooManyKinds = 37
type_refusal_number TooDeep = 38
type_refusal_number BelowTop = 40
type_refusal_number TooLong = 42
