-- The listing of a recording: what the program writes for its lines.
--   octets_most      "at most 4,096 octets" of a line
--   message_most     the octets of the longest message
--   shown_of         "the message, in upper case, or `-`"
--   LineEntry       what a line is answered: the answer's number, what is shown, and the record and its places afterwards
--   refused_entry    a line that is no message changes nothing
--   joined_entry     a line's octets by the step that they take
--   entry_from       a line by what decoding it gives
--   entry_of         a line of characters
--   number_after     the next "line number", in a machine word: after 2^64 - 1 comes 0
--   entry_text       the text of a line's answer
--   longest         the characters of the longest answer: two numbers of at most 20 digits, the digits of 16,384 octets, two spaces and an LF
--   listing_from     the text of the lines behind those that were read, then the closing line
--   listing_of       the text of a whole recording, from a record with nothing open on
use Rattle.std.specs.Prelude.{ℕ, ◌+◌, ◌%◌, ◌^◌, List, [], ◌∷◌, ◌++◌, Option, Some, None, Result, Ok, Err}
use Rattle.hexline.specs.Decoding.{line_octets, decoded_of, decoded_number}
use Rattle.hexline.specs.Encoding.{octet_digits}
use Rattle.lines.specs.Lines.{lines_of}
use Rattle.frame.specs.Frames.{message_limit}
use Rattle.join_places.specs.declared.Record.{Record}
use Rattle.join_places.specs.Places.{place_size, fresh_record, open_count}
use Rattle.join_steps.specs.Steps.{LineStep}
use Rattle.join_answers.specs.declared.Refusal.{Refusal}
use Rattle.join_answers.specs.Answers.{output_in, answer_number}
use Rattle.joining.specs.Answers.{message_written, step_within, answer_to, record_after, places_after}
use Rattle.recording_text.specs.Text.{dash, line_text, end_text}
use Rattle.hexline.specs.declared.Undecoded.TheVariants.{NoRoom, NotDigits, TooLong}
use Rattle.hexline.specs.declared.Undecoded.{Undecoded}

abbrev pub octets_most : ℕ
octets_most = message_limit

abbrev pub message_most : ℕ
message_most = place_size

abbrev pub shown_of : Option ℕ → List ℕ → List ℕ
shown_of (Some n) message = octet_digits message
shown_of None message = dash

pub record LineEntry : Type 0 where
  pub number : ℕ
  pub shown : List ℕ
  pub after : Record
  pub stored : List ℕ

abbrev pub refused_entry : ℕ → Record → List ℕ → LineEntry
refused_entry number r places = record { number = number; shown = dash; after = r; stored = places }

abbrev pub joined_entry : Result LineStep Refusal → List ℕ → Record → List ℕ → LineEntry
joined_entry step v r places =
    record {
      number = answer_number (answer_to step r v places);
      shown = shown_of (output_in (answer_to step r v places)) (message_written step r v places);
      after = record_after step r v;
      stored = places_after step r v places;
    }

abbrev pub entry_from : Result ℕ Undecoded → List ℕ → Record → List ℕ → LineEntry
entry_from (Ok n) v r places = joined_entry (step_within v r places message_most) v r places
entry_from (Err TooLong) v r places = refused_entry (decoded_number (Err TooLong)) r places
entry_from (Err NotDigits) v r places = refused_entry (decoded_number (Err NotDigits)) r places
-- never given: at most 8,192 digits have at most 4,096 octets
entry_from (Err NoRoom) v r places = refused_entry (decoded_number (Err NoRoom)) r places

unfoldable pub entry_of : List ℕ → Record → List ℕ → LineEntry
entry_of line r places = entry_from (decoded_of line octets_most) (line_octets line) r places

abbrev pub number_after : ℕ → ℕ
number_after k = (k + 1) % 2 ^ 64

abbrev pub entry_text : ℕ → LineEntry → List ℕ
entry_text number e = line_text number e.number e.shown

abbrev pub longest : ℕ
longest = 32811

unfoldable pub listing_from : ℕ → Record → List ℕ → List (List ℕ) → List ℕ
listing_from k r places [] = end_text k (open_count r)
listing_from k r places (line ∷ rest) =
    entry_text (number_after k) (entry_of line r places)
    ++ listing_from (number_after k) (entry_of line r places).after (entry_of line r places).stored rest

unfoldable pub listing_of : List ℕ → List ℕ → List ℕ
listing_of places input = listing_from 0 fresh_record places (lines_of input)
