-- What a step answers, and what it leaves in the record, the places and the output. "Lent memory that an answer doesn't fill keeps its
-- contents": `sets l at xs` is a run of stores, the octets `xs` from `at` on, the rest as it was.
--   message_written  the message that is written, or none
--   roomed          27: "output shorter than the message to be written", else the step that writes it
--   step_within      what a line's octets do with an output of so many octets
--   answer_of_step    "0 whole message; 1 held ..; 2 joined; 3 a CancelRequest whose id was open", with how many octets are written
--   answer_to        the answer to a step, with the octets of the message that it writes
--   record_after     the record, "which only an accepted line may change"
--   places_after     the octets of the places: a first one's at the start, a fragment's body after the id behind what is held
--   written_into     "Answers 0, 2 and 3 write a message into the lent output, from its start"
--   refused_outcome  a refusal, with the record as it was
--   Does            what a step ensures: the answer, the record after, and every octet of the places and of the output
--   Takes           what a step ensures where the output may be too short for it
--   Joins           what a call ensures: what the step of its line does
use Rattle.std.specs.Prelude.{◌≡◌, List, [], ◌++◌, cond, ℕ, ◌+◌, ltb, length, Result, Ok, Err}
use Rattle.std.proofs.lemmas.List.Edits.{sets}
use Rattle.join_places.specs.declared.Record.{Record}
use Rattle.join_answers.specs.declared.Refusal.{Refusal}
use Rattle.join_answers.specs.declared.Refusal.TheVariants.{NoRoom}
use Rattle.joining.specs.declared.Outcome.{Outcome}
use Rattle.join_places.specs.Places.{place_start, length_of, held_in, closed, opened, lengthened}
use Rattle.join_message.specs.Message.{body_after_id, corrected}
use Rattle.join_steps.specs.Steps.{LineStep, Passes, Opens, Extends, Completes, Frees, length_after, step_of}
use Rattle.join_answers.specs.declared.Answer.TheVariants.{Cancelled, Held, Joined, Whole}
use Rattle.join_answers.specs.declared.Answer.{Answer}

abbrev pub message_written : Result LineStep Refusal → Record → List ℕ → List ℕ → List ℕ
message_written (Ok Passes) r v places = v
message_written (Ok (Opens i id)) r v places = []
message_written (Ok (Extends i)) r v places = []
message_written (Ok (Completes i)) r v places = corrected (held_in r places i ++ body_after_id v)
message_written (Ok (Frees i)) r v places = v
message_written (Err why) r v places = []

abbrev pub roomed : ℕ → Result LineStep Refusal → List ℕ → Result LineStep Refusal
roomed room step message = cond (ltb room (length message)) (Err NoRoom) step

abbrev pub step_within : List ℕ → Record → List ℕ → ℕ → Result LineStep Refusal
step_within v r places room = roomed room (step_of v r places) (message_written (step_of v r places) r v places)

abbrev pub answer_of_step : Result LineStep Refusal → ℕ → Result Answer Refusal
answer_of_step (Ok Passes) n = Ok (Whole n)
answer_of_step (Ok (Opens i id)) n = Ok Held
answer_of_step (Ok (Extends i)) n = Ok Held
answer_of_step (Ok (Completes i)) n = Ok (Joined n)
answer_of_step (Ok (Frees i)) n = Ok (Cancelled n)
answer_of_step (Err why) n = Err why

abbrev pub answer_to : Result LineStep Refusal → Record → List ℕ → List ℕ → Result Answer Refusal
answer_to step r v places = answer_of_step step (length (message_written step r v places))

abbrev pub record_after : Result LineStep Refusal → Record → List ℕ → Record
record_after (Ok Passes) r v = r
record_after (Ok (Opens i id)) r v = opened r i id (length v)
record_after (Ok (Extends i)) r v = lengthened r i (length_after r i (length v))
record_after (Ok (Completes i)) r v = closed r i
record_after (Ok (Frees i)) r v = closed r i
record_after (Err why) r v = r

abbrev pub places_after : Result LineStep Refusal → Record → List ℕ → List ℕ → List ℕ
places_after (Ok Passes) r v places = places
places_after (Ok (Opens i id)) r v places = sets places (place_start i) v
places_after (Ok (Extends i)) r v places = sets places (place_start i + length_of r i) (body_after_id v)
places_after (Ok (Completes i)) r v places = places
places_after (Ok (Frees i)) r v places = places
places_after (Err why) r v places = places

abbrev pub written_into : Result LineStep Refusal → Record → List ℕ → List ℕ → List ℕ → List ℕ
written_into step r v places out = sets out 0 (message_written step r v places)

abbrev pub refused_outcome : Record → Refusal → Outcome
refused_outcome before why = record { answer = Err why; after = before }

pub record Does (step : Result LineStep Refusal) (v : List ℕ) (before : Record) (places out : List ℕ) (r : Outcome)
    (places_last out_last : List ℕ) : Type 0 where
  pub answer : r.answer ≡ answer_to step before v places
  pub after : r.after ≡ record_after step before v
  pub stored : places_last ≡ places_after step before v places
  pub output : out_last ≡ written_into step before v places out

abbrev pub Takes : Result LineStep Refusal → List ℕ → Record → List ℕ → List ℕ → Outcome → List ℕ → List ℕ → Type 0
Takes step v before places out r places_last out_last =
    Does (roomed (length out) step (message_written step before v places)) v before places out r places_last out_last

abbrev pub Joins : List ℕ → Record → List ℕ → List ℕ → Outcome → List ℕ → List ℕ → Type 0
Joins v before places out r places_last out_last = Takes (step_of v before places) v before places out r places_last out_last
