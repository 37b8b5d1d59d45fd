-- The texts, numbers, counts and encapsulations of a type's parameters, checked in an encapsulation's own octets s, index 0 first: 30, 32, 33
-- and 34.
--   then_step         what follows, unless it is refused
--   type_text_refusal      what a string's fault is refused as: "in types 32, 30, 32 likewise"
--   step_from         what a string gives
--   text_step         a text
--   names_step        id and name
--   number_step       an unsigned long, as a bound is
--   count_step        a count, 34 for 0
--   any_count         a count that may be 0: "an exception may have no members"
--   then_count        a count after something else, unless that is refused
--   head_step         id, name and count
--   exception_step    the same of an exception
--   after_count       what follows a count, unless that is refused
--   length_step       an array's length, 34 for 0
--   texts_step        n names one after the other
--   enum_step         id, name, count, names
--   part_from         an encapsulation by its order octet: 33 "above 1"
--   part_of           "a length, then an order octet": where an encapsulation starts and ends, and its order; 33 for "length 0 or beyond
--                    its surroundings"
use Rattle.std.specs.Prelude.{◌+◌, ◌-◌, Option, Some, None, Result, Ok, Err}
use Rattle.choices.specs.{ℕ, zero, suc, List, cond, ltb, eqb, length, get_or}
use Rattle.cdr.specs.{Index, Order, Four, index_of, order_of}
use Rattle.cdr_fields.specs.{field_of, string_of}
use Rattle.type_kinds.specs.{on_field}
use Rattle.type_counts.specs.Names.{Ends, BadText, BadEncapsulation, NoCount}
use Rattle.cdr_fields.specs.declared.StringFault.TheVariants.{BadText as bad_text, NoText}
use Rattle.cdr_fields.specs.declared.StringFault.{StringFault}
use Rattle.type_counts.specs.declared.Refusal.{Refusal}

abbrev pub then_step : Result Index Refusal → (Index → Result Index Refusal) → Result Index Refusal
then_step (Err r) f = Err r
then_step (Ok i) f = f i

abbrev pub type_text_refusal : StringFault → Refusal
type_text_refusal bad_text = BadText
type_text_refusal NoText = Ends

abbrev pub step_from : Result (Index × ℕ) StringFault → Result Index Refusal
step_from (Ok (from, n)) = Ok (index_of (from.0 + n + 1))
step_from (Err fault) = Err (type_text_refusal fault)

unfoldable pub text_step : List ℕ → Index → Order → Result Index Refusal
text_step s i order = step_from (string_of s i order)

unfoldable pub names_step : List ℕ → Order → Result Index Refusal
names_step s order = then_step (text_step s (index_of 1) order) (λ i. text_step s i order)

unfoldable pub number_step : List ℕ → Index → Order → Result Index Refusal
number_step s i order = on_field (field_of s i Four order) (Err Ends) (λ n next. Ok next)

unfoldable pub count_step : List ℕ → Index → Order → Result (ℕ × Index) Refusal
count_step s i order = on_field (field_of s i Four order) (Err Ends) (λ n next. cond (eqb n 0) (Err NoCount) (Ok (n, next)))

unfoldable pub any_count : List ℕ → Index → Order → Result (ℕ × Index) Refusal
any_count s i order = on_field (field_of s i Four order) (Err Ends) (λ n next. Ok (n, next))

abbrev pub then_count : Result Index Refusal → (Index → Result (ℕ × Index) Refusal) → Result (ℕ × Index) Refusal
then_count (Err r) f = Err r
then_count (Ok i) f = f i

unfoldable pub head_step : List ℕ → Order → Result (ℕ × Index) Refusal
head_step s order = then_count (names_step s order) (λ i. count_step s i order)

unfoldable pub exception_step : List ℕ → Order → Result (ℕ × Index) Refusal
exception_step s order = then_count (names_step s order) (λ i. any_count s i order)

abbrev pub after_count : Result (ℕ × Index) Refusal → (ℕ → Index → Result Index Refusal) → Result Index Refusal
after_count (Err r) f = Err r
after_count (Ok (n, next)) f = f n next

unfoldable pub length_step : List ℕ → Index → Order → Result Index Refusal
length_step s i order = after_count (count_step s i order) (λ n next. Ok next)

unfoldable pub texts_step : List ℕ → Order → ℕ → Index → Result Index Refusal
texts_step s order zero i = Ok i
texts_step s order (suc n) i = then_step (text_step s i order) (λ j. texts_step s order n j)

unfoldable pub enum_step : List ℕ → Order → Result Index Refusal
enum_step s order = after_count (head_step s order) (λ n next. texts_step s order n next)

abbrev pub part_from : Option Order → ℕ → ℕ → Result (ℕ × ℕ × Order) Refusal
part_from (Some order) b e = Ok (b, e, order)
part_from None b e = Err BadEncapsulation

unfoldable pub part_of : List ℕ → Index → Order → Result (ℕ × ℕ × Order) Refusal
part_of s i order =
    on_field (field_of s i Four order) (Err Ends) (λ n next.
    cond (eqb n 0) (Err BadEncapsulation)
    (cond (ltb (length s - next.0) n) (Err BadEncapsulation)
    (part_from (order_of (get_or s next.0 0)) next.0 (next.0 + n))))
