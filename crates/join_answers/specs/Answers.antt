-- The answers to a line, by number and values.
--   join_refusal_number   the number of each refusal
--   answer_number    the number of each answer: "0 whole message; 1 held (a first or middle fragment); 2 joined; 3 a CancelRequest
--                   whose id was open"
--   output_in        how many octets an answer writes: "Answers 0, 2 and 3 write a message"
use Rattle.std.specs.Prelude.{ℕ, Option, Some, None, Result, Ok, Err}
use Rattle.frame.specs.Frames.{row_number}
use Rattle.join_answers.specs.declared.Refusal.{Refusal}
use Rattle.join_answers.specs.declared.Refusal.TheVariants.{Frame, BadRecord, IdOpen, NoPlaceFree, IdNotOpen, FirstDiffers, TooLong, NoRoom}
use Rattle.join_answers.specs.declared.Answer.TheVariants.{Cancelled, Held, Joined, Whole}
use Rattle.join_answers.specs.declared.Answer.{Answer}

abbrev pub join_refusal_number : Refusal → ℕ
join_refusal_number (Frame row) = row_number row
join_refusal_number IdOpen = 22
join_refusal_number NoPlaceFree = 23
join_refusal_number IdNotOpen = 24
join_refusal_number FirstDiffers = 25
join_refusal_number TooLong = 26
join_refusal_number NoRoom = 27
join_refusal_number BadRecord = 28

abbrev pub answer_number : Result Answer Refusal → ℕ
answer_number (Ok (Whole n)) = 0
answer_number (Ok Held) = 1
answer_number (Ok (Joined n)) = 2
answer_number (Ok (Cancelled n)) = 3
answer_number (Err why) = join_refusal_number why

abbrev pub output_in : Result Answer Refusal → Option ℕ
output_in (Ok (Whole n)) = Some n
output_in (Ok Held) = None
output_in (Ok (Joined n)) = Some n
output_in (Ok (Cancelled n)) = Some n
output_in (Err why) = None
