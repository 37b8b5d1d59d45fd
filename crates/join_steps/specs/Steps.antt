-- What a line does, refusal by refusal in 01's order.
--   LineStep        of a line that is not refused: the message passes as it is; a place is opened for a request id; lengthened by a
--                   fragment; joined and freed by its last one; or freed by a cancel
--   cancelled       "3 a CancelRequest whose id was open, which frees that place. A cancel with no such id is 0"
--   differs         25: "its minor version or byte order differs from the first"
--   length_after     the length with a fragment's body after the id added
--   continued       25, 26, then "1 held (a first or middle fragment)" or "2 joined"
--   fragment_of      24: "a fragment whose id is not open"
--   opens_at         a place that is free is opened
--   first_of         23: "a first fragment when four are open", which is as many as there are places; else "the lowest free one"
--   starting_of      22: "a 1.2 message of types 0, 1, 3, 4 whose id is open"
--   with_id          by the type of a message that has a request id
--   by_id            a message without a request id that counts is "0 whole message"
--   message_step     28 comes "after 21 and before these six, for any message"
--   frame_step       10, 12 to 21, then as a message
--   step_of          what a line's octets do, where the output has room for what they write
use Rattle.std.specs.Prelude.{ℕ, ◌+◌, ◌-◌, List, Bool, cond, not, ◌&&◌, ltb, leb, eqb, length, Option, Some, None, Result, Ok, Err}
use Rattle.cdr.specs.Orders.{order_octet}
use Rattle.frame.specs.declared.Header.{Header}
use Rattle.frame.specs.Messages.{is_cancel, is_fragment}
use Rattle.frame.specs.Header.{minor_at, order_at}
use Rattle.frame.specs.Frames.{frame_of}
use Rattle.join_places.specs.declared.Record.{Record}
use Rattle.join_answers.specs.declared.Refusal.TheVariants.{Frame as InFrame, BadRecord, IdOpen, NoPlaceFree, IdNotOpen, FirstDiffers, TooLong}
use Rattle.join_places.specs.Places.{places_count, place_size, length_of, held_in, place_of_id, lowest_free, open_count, bad_record}
use Rattle.join_message.specs.Message.{id_end}
use Rattle.frame.specs.declared.Refusal.{Refusal as Row}
use Rattle.join_answers.specs.declared.Refusal.{Refusal}
use Rattle.join_steps.specs.declared
pub use declared.LineStep.{LineStep}
pub use declared.LineStep.TheVariants.{Passes, Opens, Extends, Completes, Frees}

abbrev pub cancelled : Option ℕ → Result LineStep Refusal
cancelled (Some i) = Ok (Frees i)
cancelled None = Ok Passes

unfoldable pub differs : List ℕ → Header → Bool
differs first h = not (eqb (minor_at first) h.minor && eqb (order_octet (order_at first)) (order_octet h.order))

abbrev pub length_after : Record → ℕ → ℕ → ℕ
length_after r i n = length_of r i + (n - id_end)

unfoldable pub continued : Record → List ℕ → ℕ → Header → ℕ → Result LineStep Refusal
continued r places n h i =
    cond (differs (held_in r places i) h) (Err FirstDiffers)
    (cond (ltb place_size (length_after r i n)) (Err TooLong)
    (cond h.more (Ok (Extends i))
    (Ok (Completes i))))

abbrev pub fragment_of : Record → List ℕ → ℕ → Header → Option ℕ → Result LineStep Refusal
fragment_of r places n h (Some i) = continued r places n h i
fragment_of r places n h None = Err IdNotOpen

-- nowhere is not met: fewer open messages than places leave a place free
abbrev pub opens_at : ℕ → Option ℕ → Result LineStep Refusal
opens_at id (Some i) = Ok (Opens i id)
opens_at id None = Err NoPlaceFree

unfoldable pub first_of : Record → ℕ → Result LineStep Refusal
first_of r id = cond (leb places_count (open_count r)) (Err NoPlaceFree) (opens_at id (lowest_free r))

abbrev pub starting_of : Record → Header → ℕ → Option ℕ → Result LineStep Refusal
starting_of r h id (Some i) = Err IdOpen
starting_of r h id None = cond h.more (first_of r id) (Ok Passes)

unfoldable pub with_id : Record → List ℕ → ℕ → Header → ℕ → Result LineStep Refusal
with_id r places n h id =
    cond (is_cancel h.kind) (cancelled (place_of_id r id))
    (cond (is_fragment h.kind) (fragment_of r places n h (place_of_id r id))
    (starting_of r h id (place_of_id r id)))

abbrev pub by_id : Record → List ℕ → ℕ → Header → Option ℕ → Result LineStep Refusal
by_id r places n h None = Ok Passes
by_id r places n h (Some x) = with_id r places n h x

unfoldable pub message_step : Record → List ℕ → ℕ → Header → Result LineStep Refusal
message_step r places n h = cond (bad_record r (length places)) (Err BadRecord) (by_id r places n h h.id)

abbrev pub frame_step : Record → List ℕ → ℕ → Result Header Row → Result LineStep Refusal
frame_step r places n (Ok h) = message_step r places n h
frame_step r places n (Err row) = Err (InFrame row)

unfoldable pub step_of : List ℕ → Record → List ℕ → Result LineStep Refusal
step_of v r places = frame_step r places (length v) (frame_of v)
