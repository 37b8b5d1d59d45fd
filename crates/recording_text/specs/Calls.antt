-- Calls one after another, from a state on to the end of an input.
--   Calls          by the line's memory, the places, the input that is left, and the text that the calls write:
--                  a call on a block that the input left begins with, and the calls after it (list_next);
--                  a line that the end of input ends, answered as an LF would end it (list_ended);
--                  the last call, which had room for its text (list_last)
--   ReadsSome      each of the calls but the last takes some of its block, and is lent an output of this length
--   ReadThrough    calls, with such outputs, that read an input to its end, and the text that they write
use Rattle.std.specs.Prelude.{◌≡◌, ℕ, ◌<◌, List, [], ◌∷◌, ◌++◌, length, take, drop, Some}
use Rattle.lines.specs.Lines.{lf}
use Rattle.recording_state.specs.declared.State.{State}
use Rattle.recording_text.specs.declared.Progress.{Progress}
use Rattle.recording_text.specs.Blocks.{BlockAnswered, EndAnswered}

pub data Calls : State → List ℕ → List ℕ → List ℕ → List ℕ → Type 0 where
  list_next : (state : State) (line places out input block : List ℕ) (from : ℕ) (rest : List ℕ) (r : Progress) (line_last places_last out_last text : List ℕ)
      → input ≡ drop from block ++ rest → BlockAnswered block from line places out state r line_last places_last out_last
      → Calls r.state line_last places_last (drop r.next block ++ rest) text
      → Calls state line places input (take r.filled out_last ++ text)
  list_ended : (state : State) (line places : List ℕ) (c : ℕ) (rest text : List ℕ) → take state.kept line ≡ c ∷ rest
      → Calls state line places (lf ∷ []) text → Calls state line places [] text
  list_last : (state : State) (line places out : List ℕ) (n : ℕ) (places_last out_last : List ℕ)
      → EndAnswered line places out state (Some n) places_last out_last → Calls state line places [] (take n out_last)

unfoldable pub ReadsSome : {state : State} {line places input text : List ℕ} → (outs : ℕ) → Calls state line places input text → Type 0
ReadsSome outs (list_next state line places out input block from rest r line_last places_last out_last text e a c) =
    (from < r.next) × (length out ≡ outs) × ReadsSome outs c
ReadsSome outs (list_ended state line places c rest text e d) = ReadsSome outs d
ReadsSome outs (list_last state line places out n places_last out_last a) = length out ≡ outs

pub record ReadThrough (outs : ℕ) (state : State) (line places input : List ℕ) : Type 0 where
  pub text : List ℕ
  pub calls : Calls state line places input text
  pub onward : ReadsSome outs calls
