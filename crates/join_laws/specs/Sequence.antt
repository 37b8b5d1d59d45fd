-- Lines one after another. What a place holds is told by the accepted lines alone: "the first one's octets and each fragment's body after
-- the id" of the message that is open.
--   Call            a line's octets, and the output lent with it
--   JoinState       the record of a recording, and its places
--   step_in          what a call does in a state,
--   message_in       the message that it writes,
--   state_after      and the state that it leaves
--   after_all        the state that calls leave, one after another
--   accepted_line    a line that is accepted, "0 whole message; 1 held ..; 2 joined; 3 a CancelRequest whose id was open", or none
--   accepted        the lines of calls that are accepted, in their order
--   is_id            whether a request id is this one
--   with_one         a middle fragment's octets behind the parts of an open message; of one that is not open there are none
--   parts_with       the parts of an open message after a line of its request id: none after "a CancelRequest whose id was open, which
--                   frees that place", one more after a middle fragment, none after the last, a first fragment by itself, and the same
--                   after a whole message
--   parts_after      the parts of the open message of a request id after any line
--   parts_from       and after lines, one after another
--   parts_of         the parts of the open message of a request id, where no message was open before the first line
--   held_of          "the first one's octets and each fragment's body after the id"
--   Fresh           a record with no open message, and places that have their octets
--   HoldsParts      a place holds the parts of its request id, and there are some
--   JoinsParts      the last fragment is joined to the parts of its request id
--   Lowest          "the lowest free one"
use Rattle.std.specs.Prelude.{◌≡◌, List, [], ◌∷◌, ◌++◌, Bool, true, false, cond, ℕ, ◌≤◌, ◌<◌, eqb, length, Option, Some, None, Result, Ok, Err}
use Rattle.frame.specs.Messages.{is_cancel, is_fragment}
use Rattle.frame.specs.Header.{message_type_at, more_at, id_at}
use Rattle.join_places.specs.declared.Record.{Record}
use Rattle.join_places.specs.Places.{places_count, places_size, is_open, id_of, held_in}
use Rattle.join_answers.specs.declared.Refusal.{Refusal}
use Rattle.join_message.specs.Message.{parts, joined_of}
use Rattle.join_steps.specs.Steps.{LineStep}
use Rattle.joining.specs.Answers.{message_written, step_within, record_after, places_after}

pub record Call : Type 0 where
  pub octets : List ℕ
  pub out : List ℕ

pub record JoinState : Type 0 where
  pub messages : Record
  pub places : List ℕ

abbrev pub step_in : JoinState → Call → Result LineStep Refusal
step_in s c = step_within c.octets s.messages s.places (length c.out)

abbrev pub message_in : JoinState → Call → List ℕ
message_in s c = message_written (step_in s c) s.messages c.octets s.places

abbrev pub state_after : JoinState → Call → JoinState
state_after s c =
    record {
      messages = record_after (step_in s c) s.messages c.octets;
      places = places_after (step_in s c) s.messages c.octets s.places;
    }

unfoldable pub after_all : JoinState → List Call → JoinState
after_all s [] = s
after_all s (c ∷ calls) = after_all (state_after s c) calls

abbrev pub accepted_line : Result LineStep Refusal → List ℕ → List (List ℕ)
accepted_line (Ok step) v = v ∷ []
accepted_line (Err why) v = []

unfoldable pub accepted : JoinState → List Call → List (List ℕ)
accepted s [] = []
accepted s (c ∷ calls) = accepted_line (step_in s c) c.octets ++ accepted (state_after s c) calls

abbrev pub is_id : ℕ → Option ℕ → Bool
is_id id (Some x) = eqb x id
is_id id None = false

abbrev pub with_one : List (List ℕ) → List ℕ → List (List ℕ)
with_one [] v = []
with_one (first ∷ fragments) v = first ∷ fragments ++ (v ∷ [])

unfoldable pub parts_with : List (List ℕ) → List ℕ → List (List ℕ)
parts_with held v =
    cond (is_cancel (message_type_at v)) []
    (cond (is_fragment (message_type_at v)) (cond (more_at v) (with_one held v) [])
    (cond (more_at v) (v ∷ []) held))

unfoldable pub parts_after : ℕ → List (List ℕ) → List ℕ → List (List ℕ)
parts_after id held v = cond (is_id id (id_at v)) (parts_with held v) held

unfoldable pub parts_from : ℕ → List (List ℕ) → List (List ℕ) → List (List ℕ)
parts_from id held [] = held
parts_from id held (v ∷ lines) = parts_from id (parts_after id held v) lines

abbrev pub parts_of : ℕ → List (List ℕ) → List (List ℕ)
parts_of id lines = parts_from id [] lines

abbrev pub held_of : List (List ℕ) → List ℕ
held_of [] = []
held_of (first ∷ fragments) = parts first fragments

pub record Fresh (s : JoinState) : Type 0 where
  pub ids : length s.messages.ids ≡ places_count
  pub lengths : length s.messages.lengths ≡ places_count
  pub opened : length s.messages.opened ≡ places_count
  pub none : (i : ℕ) → i < places_count → is_open s.messages i ≡ false
  pub lent : places_size ≤ length s.places

pub record HoldsParts (s : JoinState) (lines : List (List ℕ)) (i : ℕ) : Type 0 where
  pub held : held_in s.messages s.places i ≡ held_of (parts_of (id_of s.messages i) lines)
  pub some : parts_of (id_of s.messages i) lines ≡ [] → ⊥

pub record JoinsParts (s : JoinState) (lines : List (List ℕ)) (c : Call) (i : ℕ) : Type 0 where
  pub id : id_at c.octets ≡ Some (id_of s.messages i)
  pub first : List ℕ
  pub fragments : List (List ℕ)
  pub opened : parts_of (id_of s.messages i) lines ≡ first ∷ fragments
  pub message : message_in s c ≡ joined_of first (fragments ++ (c.octets ∷ []))

pub record Lowest (r : Record) (i : ℕ) : Type 0 where
  pub place : i < places_count
  pub free : is_open r i ≡ false
  pub below : (j : ℕ) → j < i → is_open r j ≡ true
