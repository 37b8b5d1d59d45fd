-- Alignment, byte orders, numbers, texts and octets that are stored: inputs that a wrong program would answer otherwise.
--   NumberQuestion     what is asked
--   aligned_numbers     1 and an index, or 0 where no machine word holds it
--   field_numbers       1, a number and the index after it, or 0 where octets are missing
--   text_numbers        1, the index of a text's first character and their number; 2 where it breaks the rule, 0 where octets are missing
--   counted_numbers     1, the index of the first of counted octets and their number; 0 where octets are missing
--   stored_numbers      1 and the end of the octets that are stored, or 0 where they have no room
--   number_answered     what the definitions answer
--   number_samples      the table
--   numbers-hold       the statement
use Rattle.std.specs.Prelude.{T, ◌∷◌, ◌++◌, Option, Some, None, Result, Ok, Err}
use Rattle.choices.specs.{ℕ, List, [], length, replicate}
use Rattle.choices.specs.Branch.{choose}
use Rattle.cdr.specs.{Order, Big, Little, Size, Two, Four, index_of, octets, gap}
use Rattle.cdr.specs.Align.{aligned_of}
use Rattle.cdr.specs.Limit.{fits}
use Rattle.cdr.specs.Orders.{order_octet}
use Rattle.cdr.specs.Number.{little_number, little_octets, number_of, octets_of, number_at, read_of, sign_extended}
use Rattle.cdr_text.specs.Text.{over_bound, ends_text, text_of, run_of}
use Rattle.cdr_fields.specs.Encapsulation.{field_of, string_of, counted_of}
use Rattle.cdr_write.specs.Write.{written_of, holding}
use Rattle.samples.specs.Tables.{paper, Sample, sample, all_answered}
use Rattle.cdr.specs.declared.Index.{Index}
use Rattle.cdr_fields.specs.declared.StringFault.TheVariants.{BadText, NoText}
use Rattle.cdr_fields.specs.declared.StringFault.{StringFault}

-- `order_octet_of`: an order; its octet
-- `gap_before`: an index and a size; the octets of the gap
-- `aligned_from`: an index and a size; the aligned index
-- `extended`: a size and the number that so many octets give; its 64 bits, sign-extended
-- `field`: the octets of an encapsulation, an index, a size and an order; the number there and the index after it
-- `text_field`, `counted_field`: the octets of an encapsulation, an index and an order; the text or the counted octets there
-- `stored`: a lent output, a place and octets; where they end, and all that the output then holds
pub data NumberQuestion : Type 0 where
  order_octet_of : Order → NumberQuestion
  gap_before : ℕ → Size → NumberQuestion
  aligned_from : ℕ → Size → NumberQuestion
  extended : Size → ℕ → NumberQuestion
  field : List ℕ → ℕ → Size → Order → NumberQuestion
  text_field : List ℕ → ℕ → Order → NumberQuestion
  counted_field : List ℕ → ℕ → Order → NumberQuestion
  stored : List ℕ → ℕ → List ℕ → NumberQuestion

abbrev pub aligned_numbers : Option Index → List ℕ
aligned_numbers (Some i) = 1 ∷ i.0 ∷ []
aligned_numbers None = 0 ∷ []

abbrev pub field_numbers : Option (ℕ × Index) → List ℕ
field_numbers (Some (x, next)) = 1 ∷ x ∷ next.0 ∷ []
field_numbers None = 0 ∷ []

abbrev pub text_numbers : Result (Index × ℕ) StringFault → List ℕ
text_numbers (Ok (from, n)) = 1 ∷ from.0 ∷ n ∷ []
text_numbers (Err BadText) = 2 ∷ []
text_numbers (Err NoText) = 0 ∷ []

abbrev pub counted_numbers : Option (Index × ℕ) → List ℕ
counted_numbers (Some (from, n)) = 1 ∷ from.0 ∷ n ∷ []
counted_numbers None = 0 ∷ []

abbrev pub stored_numbers : Option ℕ → List ℕ
stored_numbers (Some end) = 1 ∷ end ∷ []
stored_numbers None = 0 ∷ []

unfoldable pub number_answered : NumberQuestion → List ℕ
unfolding choose little_number little_octets number_of octets_of number_at read_of sign_extended over_bound ends_text text_of run_of
    field_of string_of counted_of fits
number_answered (order_octet_of order) = order_octet order ∷ []
number_answered (gap_before i size) = gap i (octets size) ∷ []
number_answered (aligned_from i size) = aligned_numbers (aligned_of (index_of i) size)
number_answered (extended size x) = sign_extended (octets size) x ∷ []
number_answered (field v i size order) = field_numbers (field_of v (index_of i) size order)
number_answered (text_field v i order) = text_numbers (string_of v (index_of i) order)
number_answered (counted_field v i order) = counted_numbers (counted_of v (index_of i) order)
number_answered (stored out at these) =
    stored_numbers (written_of out at (length these)) ++ holding (written_of out at (length these)) out at these

unfoldable pub number_samples : List (Sample NumberQuestion)
number_samples =
    -- "0 big": 1 where the octets are exchanged
    sample (order_octet_of Big) (0 ∷ [])
    -- a gap reaches to the next multiple: 1 where it is counted from the last one
    ∷ sample (gap_before 5 Four) (3 ∷ [])
    -- an index is aligned onward: 4 where it is aligned back
    ∷ sample (aligned_from 5 Four) (1 ∷ 8 ∷ [])
    -- a negative short is extended to all eight octets: FFFFFFFE where it is extended to four
    ∷ sample (extended Two 0xFFFE) (0xFFFFFFFFFFFFFFFE ∷ [])
    -- a number stands at the next multiple of its size: 0 where it is read at the index itself
    ∷ sample (field (paper 8 7) 1 Four Big) (1 ∷ 7 ∷ 8 ∷ [])
    -- "length 0": 2, and an empty text where the zero is not asked for
    ∷ sample (text_field (paper 4 0) 0 Big) (2 ∷ [])
    -- a text's length is given without its final zero: 2 where that counts
    ∷ sample (text_field (paper 6 0x000000024100) 0 Big) (1 ∷ 4 ∷ 1 ∷ [])
    -- an earlier zero breaks the rule: a text that ends there otherwise
    ∷ sample (text_field (paper 7 0x00000003410000) 0 Big) (2 ∷ [])
    -- missing octets come before a missing zero: 2 where the last octet that is there is looked at
    ∷ sample (text_field (paper 6 0x000000034141) 0 Big) (0 ∷ [])
    -- counted octets may be none, at the very end: 0 where some octet must follow the count
    ∷ sample (counted_field (paper 4 0) 0 Big) (1 ∷ 4 ∷ 0 ∷ [])
    -- a little-endian number has its least significant octet first: 0 1 where it is turned
    ∷ sample (stored (replicate 3 9) 0 (octets_of Little (octets Two) 1)) (1 ∷ 2 ∷ 1 ∷ 0 ∷ 9 ∷ [])
    -- zeros that have no room are not written: 0 where as many are written as fit
    ∷ sample (stored (9 ∷ []) 0 (replicate 2 0)) (0 ∷ 9 ∷ [])
    -- nothing is written behind the output's end, not even no octets: 1 3 where only the count is looked at
    ∷ sample (stored (replicate 2 9) 3 []) (0 ∷ 9 ∷ 9 ∷ [])
    ∷ []

pub numbers-hold : T (all_answered number_answered number_samples)
unfolding number_answered number_samples
numbers-hold = tt
