-- The fields of an encapsulation, one after the other: v are its octets alone, its own index 0 first.
--   start           the index of an encapsulation's first octet
--   field_from       what reading a number of n octets gives as a field
--   field_of         a number at its aligned index, and the index after it
--   string_fault     why there is no string, by the text's fault: octets missing, or a rule broken
--   string_from      what the text rule gives as a string
--   string_after     the text behind its length
--   string_of        a length and a text without a bound: its first character's index, and its length without the final zero
--   counted_from     what a run of octets gives as counted octets
--   counted_after    the octets behind their count
--   counted_of       a count and so many octets: the first one's index, and their number
use Rattle.std.specs.Prelude.{ℕ, ◌+◌, List, Option, Some, None, Result, Ok, Err}
use Rattle.cdr.specs.declared.Index.{Index}
use Rattle.cdr.specs.declared.Order.{Order}
use Rattle.cdr.specs.declared.Size.{Size}
use Rattle.cdr.specs.declared.Size.TheVariants.{Four}
use Rattle.cdr.specs.Align.{octets, index_of}
use Rattle.cdr.specs.Number.{read_of}
use Rattle.cdr_text.specs.Text.{text_of, run_of}
use Rattle.cdr_fields.specs.declared.StringFault.TheVariants.{BadText, NoText}
use Rattle.cdr_fields.specs.declared.StringFault.{StringFault}
use Rattle.cdr_text.specs.declared.TextFault.TheVariants.{Empty, Over, Short, Zeros}
use Rattle.cdr_text.specs.declared.TextFault.{TextFault}

abbrev pub start : Index
start = index_of 0

abbrev pub field_from : Option (ℕ × ℕ) → ℕ → Option (ℕ × Index)
field_from (Some (at, x)) n = Some (x, index_of (at + n))
field_from None n = None

unfoldable pub field_of : List ℕ → Index → Size → Order → Option (ℕ × Index)
field_of v i size order = field_from (read_of v start i.0 size order) (octets size)

abbrev pub string_fault : TextFault → StringFault
string_fault Empty = BadText
string_fault Over = BadText
string_fault Short = NoText
string_fault Zeros = BadText

abbrev pub string_from : Result ℕ TextFault → Index → Result (Index × ℕ) StringFault
string_from (Ok length) from = Ok (from, length)
string_from (Err fault) from = Err (string_fault fault)

abbrev pub string_after : List ℕ → Option (ℕ × Index) → Result (Index × ℕ) StringFault
string_after v (Some (n, next)) = string_from (text_of v next.0 n 0) next
string_after v None = Err NoText

unfoldable pub string_of : List ℕ → Index → Order → Result (Index × ℕ) StringFault
string_of v i order = string_after v (field_of v i Four order)

abbrev pub counted_from : Option ℕ → Index → ℕ → Option (Index × ℕ)
counted_from (Some e) from n = Some (from, n)
counted_from None from n = None

abbrev pub counted_after : List ℕ → Option (ℕ × Index) → Option (Index × ℕ)
counted_after v (Some (n, next)) = counted_from (run_of v next.0 n) next n
counted_after v None = None

unfoldable pub counted_of : List ℕ → Index → Order → Option (Index × ℕ)
counted_of v i order = counted_after v (field_of v i Four order)
