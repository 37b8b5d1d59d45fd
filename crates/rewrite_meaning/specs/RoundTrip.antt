-- "If the result has at most 16,384 octets, it reads back, wholly used, to the same items except places, and rewriting it to the first order
-- and index gives the used octets with gaps zeroed." v and order are the type, x the value, to the chosen order and index.
--   result          what was written, offered as a value
--   first_target     the first order and index
--   ReadBack        with room for so many items the value is accepted, and so is the result: with as many items and visits, and all octets
--                   used; the items are the same except places, and so is all that was taken: numbers, texts and runs
--   RewrittenBack   rewriting the result to the first order and index: it gives as many octets as were used, those with gaps zeroed, wherever
--                   there is room for them; and to any order and index it gives what the value gives
--   ReadsBack       the result of every accepted rewriting, if it is not too long, reads back where there is room for the value's items
--   RewritesBack    and is rewritten so
use Rattle.std.specs.Prelude.{◌≤◌, ◌≡◌}
use Rattle.choices.specs.{ℕ, List, map, length}
use Rattle.cdr.specs.{Order, octets_limit}
use Rattle.value_meaning.specs.{Source, source, any_room, room_for, declared.ValueAnswer.TheVariants.Accepted, Value.reading_of}
use Rattle.value_meaning.specs.{Value.value_answer}
use Rattle.rewrite_meaning.specs.{declared.RewriteAnswer.TheVariants.Accepted as accepted, Written.Target, Written.target}
use Rattle.rewrite_meaning.specs.{Written.used_zeroed, Written.unplaced, Written.bare, Rewriting.rewrite_answer, Rewriting.rewritten}

abbrev pub result : List ℕ → Order → Source → Target → Source
result v order x to = source (rewritten v order x to) to.order to.start

abbrev pub first_target : Source → Target
first_target x = target x.order x.start

pub record ReadBack (v : List ℕ) (order : Order) (x : Source) (to : Target) (room : ℕ) : Type 0 where
  pub first : value_answer v order x room
      ≡ Accepted (reading_of any_room v order x).at (length (reading_of any_room v order x).kept.items) (reading_of any_room v order x).kept.visits
  pub second : value_answer v order (result v order x to) room
      ≡ Accepted (length (rewritten v order x to)) (length (reading_of any_room v order x).kept.items) (reading_of any_room v order x).kept.visits
  pub items : map unplaced (reading_of (room_for room) v order (result v order x to)).kept.items
      ≡ map unplaced (reading_of (room_for room) v order x).kept.items
  pub pieces : map bare (reading_of (room_for room) v order (result v order x to)).kept.pieces
      ≡ map bare (reading_of (room_for room) v order x).kept.pieces

pub record RewrittenBack (v : List ℕ) (order : Order) (x : Source) (to : Target) : Type 0 where
  pub octets : rewritten v order (result v order x to) (first_target x) ≡ used_zeroed x (reading_of any_room v order x)
  pub count : length (used_zeroed x (reading_of any_room v order x)) ≡ (reading_of any_room v order x).at
  pub answer : (room : ℕ) → (reading_of any_room v order x).at ≤ room
      → rewrite_answer v order (result v order x to) (first_target x) room ≡ accepted (reading_of any_room v order x).at
  pub again : (other : Target) → rewritten v order (result v order x to) other ≡ rewritten v order x other

abbrev pub ReadsBack : List ℕ → Order → Source → Target → Type 0
ReadsBack v order x to =
    (output count : ℕ) → rewrite_answer v order x to output ≡ accepted count → count ≤ octets_limit
    → (room : ℕ) → length (reading_of any_room v order x).kept.items ≤ room → ReadBack v order x to room

abbrev pub RewritesBack : List ℕ → Order → Source → Target → Type 0
RewritesBack v order x to =
    (output count : ℕ) → rewrite_answer v order x to output ≡ accepted count → count ≤ octets_limit → RewrittenBack v order x to
