-- Digits, decimal numbers, words of a line and the listing of a recording: inputs that a wrong program would answer otherwise.
--   LineQuestion      what is asked
--   word_numbers       each word's length, then its characters
--   named_numbers      1 and the octet of an order, or 0 where none is named
--   line_answered      what the definitions answer
--   line_samples       the table; its listing is the same whatever memory is lent
--   lines-hold        the statement
use Rattle.std.specs.Prelude.{T, ◌∷◌, ◌++◌, Option, Some, None}
use Rattle.choices.specs.{ℕ, List, [], length, replicate}
use Rattle.cdr.specs.Orders.{order_octet}
use Rattle.hexline.specs.Digit.{is_digit, digit_value, upper_digit}
use Rattle.hexline.specs.Decoding.{all_digits, octet_of, line_octets, digits_decoded, decoded_of, decoded_into, decoded_number}
use Rattle.hexline.specs.Encoding.{octet_digits, encoded_of, encoded_into, encoded_number}
use Rattle.lines.specs.Lines.{lines_from}
use Rattle.decimals.specs.Decimal.{decimal_within, decimal}
use Rattle.join_places.specs.Places.{fresh_record, opened}
use Rattle.join_steps.specs.Steps.{step_of}
use Rattle.recording_state.specs.declared.State.{State}
use Rattle.recording_text.specs.Text.{line_text, end_text}
use Rattle.recording_text.specs.Listing.{entry_of, listing_from}
use Rattle.recording_text.specs.Blocks.{listing_after, end_of}
use Rattle.recording_state.specs.States.{fresh_state}
use Rattle.ask_words.specs.Words.{words_from, words, same_word, order_word}
use Rattle.samples.specs.Tables.{paper, bit, Sample, sample, all_answered}
use Rattle.samples.specs.Frames.{frame_answered}
use Rattle.cdr.specs.declared.Order.{Order}

-- `decodes`: a line and a lent output; the number, and all that the output then holds
-- `encodes`: octets and a lent output; the number, and all that the output then holds
-- `decimal_of`: a number; its characters
-- `words_of`: a line; its words
-- `same_words`: two words; 1 where they are the same
-- `order_of_word`: a word; the order that it names
-- `listing`: a state of a recording, its lent line and places, and the input that is left; the characters that are still to be written
-- `ending`: the same where the input ends
pub data LineQuestion : Type 0 where
  decodes : List ℕ → List ℕ → LineQuestion
  encodes : List ℕ → List ℕ → LineQuestion
  decimal_of : ℕ → LineQuestion
  words_of : List ℕ → LineQuestion
  same_words : List ℕ → List ℕ → LineQuestion
  order_of_word : List ℕ → LineQuestion
  listing : State → List ℕ → List ℕ → List ℕ → LineQuestion
  ending : State → List ℕ → List ℕ → LineQuestion

abbrev pub word_numbers : List (List ℕ) → List ℕ
word_numbers [] = []
word_numbers (word ∷ rest) = length word ∷ (word ++ word_numbers rest)

abbrev pub named_numbers : Option Order → List ℕ
named_numbers (Some order) = 1 ∷ order_octet order ∷ []
named_numbers None = 0 ∷ []

unfoldable pub line_answered : LineQuestion → List ℕ
unfolding frame_answered is_digit digit_value upper_digit all_digits octet_of line_octets digits_decoded decoded_of octet_digits encoded_of
    lines_from decimal_within step_of line_text end_text entry_of listing_from words_from same_word order_word
line_answered (decodes line out) = decoded_number (decoded_of line (length out)) ∷ decoded_into (decoded_of line (length out)) line out
line_answered (encodes v out) = encoded_number (encoded_of v (length out)) ∷ encoded_into (encoded_of v (length out)) v out
line_answered (decimal_of x) = decimal x
line_answered (words_of line) = word_numbers (words line)
line_answered (same_words word other) = bit (same_word word other) ∷ []
line_answered (order_of_word word) = named_numbers (order_word word)
line_answered (listing state line places input) = listing_after state line places input
line_answered (ending state line places) = end_of line places state

unfoldable pub line_samples : (line places : List ℕ) → List (Sample LineQuestion)
line_samples line places =
    -- octets that have no room are 27, and the output is as it was: 0 and 47 where as many are written as fit
    sample (decodes (paper 4 0x34373439) (9 ∷ [])) (27 ∷ 9 ∷ [])
    -- digits that are written are 0, in upper case, the more significant one first: `4a` or `A4` otherwise
    ∷ sample (encodes (0x4A ∷ []) (replicate 3 9)) (0 ∷ 0x34 ∷ 0x41 ∷ 9 ∷ [])
    -- 0 has one digit: none where digits are taken as long as the number is above 0
    ∷ sample (decimal_of 0) (0x30 ∷ [])
    -- a space is between two words, and of neither: `a ` where it stays with the first
    ∷ sample (words_of (paper 3 0x612062)) (1 ∷ 0x61 ∷ 1 ∷ 0x62 ∷ [])
    -- a word that another begins with is another: 1 where only as many characters are compared as the first has
    ∷ sample (same_words (paper 1 0x61) (paper 2 0x6162)) (0 ∷ [])
    -- `Big` is no order: 1 and 0 where cases are not told apart
    ∷ sample (order_of_word (paper 3 0x426967)) (0 ∷ [])
    -- `47` and LF: `1 12 -`, then `end 1 0`, since a recording begins with no line read and no character of one: `0 12 -` where lines are
    -- counted from 0, and `1 11 -` where a character of the lent line counts
    ∷ sample (listing fresh_state line places (paper 3 0x34370A)) (paper 15 0x31203132202D0A656E64203120300A)
    -- after five lines with one message open: `end 5 1`, and `end 1 5` where the two are exchanged
    ∷ sample (ending (record { messages = opened fresh_record 0 7 16; lines = 5; kept = 0 }) [] []) (paper 8 0x656E64203520310A)
    ∷ []

pub lines-hold : (line places : List ℕ) → T (all_answered line_answered (line_samples line places))
unfolding line_answered line_samples
lines-hold line places = tt
