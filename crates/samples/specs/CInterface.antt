-- What the C interface leaves in the memory that it is lent: inputs that a wrong program would answer otherwise. Orders are flags, as C has them.
--   CQuestion         what is asked
--   c_answered         what the definitions answer
--   c_samples          the table
--   c-interface-hold  the statement
use Rattle.std.specs.Prelude.{T, ◌∷◌, Result, Ok}
use Rattle.choices.specs.{ℕ, List, [], Bool, true, false, length, replicate}
use Rattle.cdr.specs.{index_of}
use Rattle.hexline.specs.Decoding.{decoded_of}
use Rattle.hexline.specs.Encoding.{encoded_of}
use Rattle.frame.specs.Frames.{frame_of}
use Rattle.join_answers.specs.Answers.{output_in}
use Rattle.typecode.specs.TypeCode.{checked_type}
use Rattle.value_meaning.specs.Value.{room_in, visits_in, value_answer}
use Rattle.value.specs.Single.{given_in, item_answer}
use Rattle.rewrite_meaning.specs.Written.{Target, target, unnamed_order}
use Rattle.rewrite_meaning.specs.Rewriting.{written_count, rewrite_answer, output_after}
use Rattle.profile.specs.Profile.{profile_of, component_of}
use Rattle.c_messages.specs.Answers.{decoded_count, encoded_count, header_after}
use Rattle.c_joining.specs.Joining.{joined_count}
use Rattle.cdr.specs.Orders.{order_of_flag}
use Rattle.c_types.specs.Types.{used_after}
use Rattle.c_values.specs.Values.{value_at}
use Rattle.c_profiles.specs.Answers.{row_after, found_after}
use Rattle.samples.specs.Tables.{paper, Sample, sample, all_answered}
use Rattle.samples.specs.Lines.{line_answered}
use Rattle.samples.specs.Rewritings.{rewrite_answered}
use Rattle.samples.specs.Profiles.{profile_answered, plain}
use Rattle.join_answers.specs.declared.Answer.TheVariants.{Held}
use Rattle.join_answers.specs.declared.Answer.{Answer}
use Rattle.join_answers.specs.declared.Refusal.{Refusal}

-- each question ends with what is lent, and is answered by what that then holds:
--   `decode_call`: a line and the room for its octets; the count
--   `encode_call`: octets and the room for their digits; the count
--   `frame_call`: the octets of a message; the seven numbers of its header
--   `join_call`: an answer to a line; the count
--   `type_call`: a TypeCode and whether it is little-endian; octets used and kinds
--   `value_call`: a TypeCode, and a value, each with whether it is little-endian, and the table lent; the visits, whatever was lent for them
--   `item_call`: a TypeCode and a value as above, and an item's number; its case and bits
--   `rewrite_call`: a TypeCode and a value as above, the chosen order and index, the count and the output; both, the count first
--   `profile_call`: a profile body; the numbers of its parts
--   `component_call`: a profile body and a component's number; the component's numbers
pub data CQuestion : Type 0 where
  decode_call : List ℕ → (room count : ℕ) → CQuestion
  encode_call : List ℕ → (room count : ℕ) → CQuestion
  frame_call : (octets lent : List ℕ) → CQuestion
  join_call : Result Answer Refusal → (count : ℕ) → CQuestion
  type_call : List ℕ → Bool → (lent : List ℕ) → CQuestion
  value_call : List ℕ → Bool → List ℕ → Bool → (table : List ℕ) → CQuestion
  item_call : List ℕ → Bool → List ℕ → Bool → (number : ℕ) → (lent : List ℕ) → CQuestion
  rewrite_call : List ℕ → Bool → List ℕ → Bool → Target → (count : ℕ) → (out : List ℕ) → CQuestion
  profile_call : (body lent : List ℕ) → CQuestion
  component_call : (body : List ℕ) → (number : ℕ) → (lent : List ℕ) → CQuestion

unfoldable pub c_answered : CQuestion → List ℕ
unfolding line_answered rewrite_answered profile_answered
c_answered (decode_call line room count) = decoded_count (decoded_of line room) count ∷ []
c_answered (encode_call v room count) = encoded_count (encoded_of v room) count ∷ []
c_answered (frame_call v lent) = header_after (frame_of v) lent
c_answered (join_call answer count) = joined_count (output_in answer) count ∷ []
c_answered (type_call v little lent) = used_after (checked_type v (order_of_flag little)).answer lent
c_answered (value_call v little x x_little table) = visits_in (value_answer v (order_of_flag little) (value_at x x_little 0) (room_in table)) ∷ []
c_answered (item_call v little x x_little n lent) = given_in (item_answer v (order_of_flag little) (value_at x x_little 0) n) lent
c_answered (rewrite_call v little x x_little to count out) =
    written_count (rewrite_answer v (order_of_flag little) (value_at x x_little 0) to (length out)) count
    ∷ output_after v (order_of_flag little) (value_at x x_little 0) to out
c_answered (profile_call v lent) = row_after (profile_of v) lent
c_answered (component_call v n lent) = found_after (component_of v n) lent

unfoldable pub c_samples : List (Sample CQuestion)
c_samples =
    -- the count of a decoded line is of its octets: 2 where it is of digits
    sample (decode_call (paper 2 0x3437) 1 9) (1 ∷ [])
    -- digits that have no room leave the count as it was: 0 or 2 where it is always set
    ∷ sample (encode_call (0x47 ∷ []) 1 9) (9 ∷ [])
    -- a refusal leaves the header as it was: zeros where they are written first
    ∷ sample (frame_call [] (replicate 7 9)) (replicate 7 9)
    -- a fragment that is held leaves the count as it was: 0 where it is always set
    ∷ sample (join_call (Ok Held) 9) (9 ∷ [])
    -- a refused type leaves octets used and kinds as they were: zeros where "a refusal's other numbers are 0" is taken for lent memory
    ∷ sample (type_call [] false (8 ∷ 9 ∷ [])) (8 ∷ 9 ∷ [])
    -- a refused value's visits are given: 0 where they are for accepted values only
    ∷ sample (value_call (paper 4 4) false [] false []) (1 ∷ [])
    -- a refused item leaves case and bits as they were: zeros likewise
    ∷ sample (item_call (paper 4 4) false [] false 0 (8 ∷ 9 ∷ [])) (8 ∷ 9 ∷ [])
    -- a big-endian value is written little-endian where that is chosen: 0 1 where its own order is kept
    ∷ sample (rewrite_call (paper 4 4) false (0 ∷ 1 ∷ []) false (target (order_of_flag true) (index_of 0)) 7 (replicate 3 9)) (2 ∷ 1 ∷ 0 ∷ 9 ∷ [])
    -- a value that has no room leaves the count and the output as they were: 2 where the count says what is needed
    ∷ sample (rewrite_call (paper 4 4) false (0 ∷ 1 ∷ []) false (target unnamed_order (index_of 0)) 7 (9 ∷ [])) (7 ∷ 9 ∷ [])
    -- a refused body keeps the numbers that were lent: zeros likewise
    ∷ sample (profile_call [] (5 ∷ [])) (5 ∷ [])
    -- so does a component that is not there: a zero likewise
    ∷ sample (component_call plain 0 (6 ∷ [])) (6 ∷ [])
    ∷ []

pub c-interface-hold : T (all_answered c_answered c_samples)
unfolding c_answered c_samples
c-interface-hold = tt
