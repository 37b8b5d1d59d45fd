-- The room that the answer of any line needs.
--   most_items      "above 16,384 it means 16,384"
--   table_room      the numbers of a table for as many items as an answer may have, three each
--   answer_most     the characters of the longest answer: three numbers of at most 20 digits, `ok` and four spaces, which are 66; and items of
--                  three such numbers, two colons and a comma or an LF, which are 63 each. These are more than the digits of 16,391 octets, or
--                  of a profile's host and key, each within 16,384 octets, and three numbers beside them
--   answer_room     whether a table and an output of so many numbers and characters have room for any line's answer from `at` on
use Rattle.std.specs.Prelude.{Bool, ◌&&◌, ℕ, ◌+◌, ◌*◌, leb}
use Rattle.cdr.specs.Limit.{octets_limit}

abbrev pub most_items : ℕ
most_items = octets_limit

abbrev pub table_room : ℕ
table_room = most_items * 3

abbrev pub answer_most : ℕ
answer_most = 66 + most_items * 63

abbrev pub answer_room : ℕ → ℕ → ℕ → Bool
answer_room table out at = leb table_room table && leb (at + answer_most) out
