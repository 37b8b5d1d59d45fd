-- What answering a block of a recording gives, and its end.
--   line_room         the characters that are kept of a line: one more than "at most 8,192 digits" tells an over-long one
--   closing          the characters of the longest closing line: two numbers of at most 20 digits, `end`, two spaces and an LF
--   has_room          whether there is room for the longest answer from `at` on
--   Work             where a call stands in the block and the output, and the lent memory as it is then
--   goes_on           whether characters are left in the block, and the line's memory and the output have room for any line and its answer
--   answering        a line's answer is written behind those before it, and the next line is begun
--   line_ended        a line whose LF was met is answered,
--   line_begun        and any other goes on in the next block
--   by_taken          by whether the LF was met
--   turn_of           the characters up to the next LF are taken
--   block_from        turn by turn, as long as it goes on
--   work_of           where a call stands
--   block_start       and where it starts; a `from` beyond the block counts as its end
--   block_of          a whole call: each turn takes a character, so that as many turns as the block has are enough
--   listing_after     the text that is owed from a state on, by the input that is left
--   BlockAnswered    what a call ensures
--   stored_from       the octets of the places after lines
--   end_of            the text of the line that no LF ended, and the closing line
--   end_room          whether there is room for the longest of both
--   EndAnswered      what the last call ensures: the text is written from the start on, or everything is as it was
use Rattle.std.specs.Prelude.{◌≡◌, ℕ, zero, suc, ◌+◌, ◌<◌, ◌≤◌, min, Bool, cond, ◌&&◌, List, [], ◌∷◌, ◌++◌, length, take, drop, nat_le, nat_lt}
use Rattle.std.specs.Prelude.{Option, Some, None}
use Rattle.std.proofs.lemmas.List.Edits.{sets}
use Rattle.choices.specs.Branch.{choose}
use Rattle.hexline.specs.Decoding.{line_limit}
use Rattle.lines.specs.declared.Taken.{Taken}
use Rattle.lines.specs.Lines.{lines_from, taken_of, kept_into}
use Rattle.join_places.specs.declared.Record.{Record}
use Rattle.recording_state.specs.declared.State.{State}
use Rattle.recording_text.specs.declared.Progress.{Progress}
use Rattle.recording_text.specs.Listing.{LineEntry, entry_of, number_after, entry_text, longest, listing_from}

abbrev pub line_room : ℕ
line_room = line_limit + 1

abbrev pub closing : ℕ
closing = 46

abbrev pub has_room : List ℕ → ℕ → Bool
has_room out at = nat_le (at + longest) (length out)

pub record Work : Type 0 where
  pub at : Progress
  pub line : List ℕ
  pub places : List ℕ
  pub out : List ℕ

unfoldable pub goes_on : List ℕ → Work → Bool
goes_on block w = nat_lt w.at.next (length block) && (nat_le line_room (length w.line) && has_room w.out w.at.filled)

abbrev pub answering : ℕ → LineEntry → ℕ → List ℕ → Work → Work
answering number e next line w =
    record {
      at = record {
        state = record { messages = e.after; lines = number; kept = 0 };
        next = next;
        filled = w.at.filled + length (entry_text number e);
      };
      line = line;
      places = e.stored;
      out = sets w.out w.at.filled (entry_text number e);
    }

abbrev pub line_ended : Taken → List ℕ → Work → Work
line_ended t line w =
    answering (number_after w.at.state.lines) (entry_of (take t.kept line) w.at.state.messages w.places) t.next line w

abbrev pub line_begun : Taken → List ℕ → Work → Work
line_begun t line w =
    record {
      at = record {
        state = record { messages = w.at.state.messages; lines = w.at.state.lines; kept = t.kept };
        next = t.next;
        filled = w.at.filled;
      };
      line = line;
      places = w.places;
      out = w.out;
    }

abbrev pub by_taken : Taken → List ℕ → Work → Work
by_taken t line w = choose t.ended (λ _. line_ended t line w) (λ _. line_begun t line w)

unfoldable pub turn_of : List ℕ → Work → Work
turn_of block w =
    by_taken (taken_of block w.at.next (length w.line) w.at.state.kept) (kept_into block w.at.next w.line w.at.state.kept) w

unfoldable pub block_from : ℕ → List ℕ → Work → Work
block_from zero block w = w
block_from (suc n) block w = choose (goes_on block w) (λ _. block_from n block (turn_of block w)) (λ _. w)

abbrev pub work_of : Progress → List ℕ → List ℕ → List ℕ → Work
work_of at line places out = record { at = at; line = line; places = places; out = out }

abbrev pub block_start : List ℕ → ℕ → State → Progress
block_start block from state = record { state = state; next = min from (length block); filled = 0 }

unfoldable pub block_of : List ℕ → ℕ → List ℕ → List ℕ → List ℕ → State → Work
block_of block from line places out state = block_from (length block) block (work_of (block_start block from state) line places out)

abbrev pub listing_after : State → List ℕ → List ℕ → List ℕ → List ℕ
listing_after state line places input = listing_from state.lines state.messages places (lines_from (take state.kept line) input)

-- how far a call goes is the program's choice, which `decided` says; every choice has the others in common:
--   listed      the text, and what is owed after it, are what was owed, whatever follows the block
--   within      the text fits,
--   unfilled    and the output behind it is as it was
--   reached     where room is left for one more answer, the whole block was taken,
--   onward      and a call that has room for one takes some of it
pub record BlockAnswered (block : List ℕ) (from : ℕ) (line places out : List ℕ) (state : State) (r : Progress)
    (line_last places_last out_last : List ℕ) : Type 0 where
  pub listed : (rest : List ℕ) → listing_after state line places (drop from block ++ rest)
      ≡ take r.filled out_last ++ listing_after r.state line_last places_last (drop r.next block ++ rest)
  pub within : r.filled ≤ length out
  pub unfilled : drop r.filled out_last ≡ drop r.filled out
  pub reached : line_room ≤ length line → r.filled + longest ≤ length out → r.next ≡ length block
  pub onward : line_room ≤ length line → longest ≤ length out → from < length block → from < r.next
  pub decided : work_of r line_last places_last out_last ≡ block_of block from line places out state

unfoldable pub stored_from : Record → List ℕ → List (List ℕ) → List ℕ
stored_from r places [] = places
stored_from r places (line ∷ rest) = stored_from (entry_of line r places).after (entry_of line r places).stored rest

abbrev pub end_of : List ℕ → List ℕ → State → List ℕ
end_of line places state = listing_after state line places []

abbrev pub end_room : List ℕ → Bool
end_room out = nat_le (longest + closing) (length out)

pub record EndAnswered (line places out : List ℕ) (state : State) (r : Option ℕ) (places_last out_last : List ℕ) : Type 0 where
  pub written : r ≡ cond (end_room out) (Some (length (end_of line places state))) None
  pub stored : places_last ≡ cond (end_room out) (stored_from state.messages places (lines_from (take state.kept line) [])) places
  pub output : out_last ≡ cond (end_room out) (sets out 0 (end_of line places state)) out
