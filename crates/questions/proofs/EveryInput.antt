-- Whatever way an input is cut into blocks and calls, the texts one after the other are the answers of its lines; and every input has such calls.
use mathlib.Core.Path.{◌≡◌, refl, sym, ap, subst, ◌∙◌}
use mathlib.Core.Bool.{true≢false}
use mathlib.Core.List.{List, [], ◌∷◌, ◌++◌, append-nil}
use Prim.Native.Nat.{ℕ, zero, suc, ◌+◌, ◌<◌, ◌≤◌}
use native.Mathlib.Omega.{arith}
use lib.ListN.{length, take, drop, length-drop}
use Rattle.choices.proofs.Choices.{by-test}
use Rattle.choices.specs.Branch.{choose}
use Rattle.lines.specs.Lines.{lf, has_lf, lines_from, lines_of, taken_of}
use Rattle.ask_room.specs.Room.{table_room, answer_most}
use Rattle.questions.specs.Blocks.{ask_room, AskWork, ask_goes_on, ask_turn, ask_turns, ask_work, ask_start, answers_of, answers_after, QuestionsAnswered}
use Rattle.questions.specs.Calls.{QuestionCalls, ask_next, ask_ended, ask_last, TakesSome, AnsweredThrough}
use Rattle.questions.proofs.TurnsOfBlock.{GoesWith, on-is, goes, block_on, Going, going_start, going-turn, going_done}
use Rattle.questions.proofs.TurnsAnswer.{turn-of, block-answered}
use Rattle.questions.proofs.TableUnseen.{table-size}

-- an LF ends the last line as the end of input does
lf-ends : (begun : List ℕ) (c : ℕ) (rest : List ℕ) → begun ≡ c ∷ rest → lines_from begun (lf ∷ []) ≡ lines_from begun []
unfolding lines_from choose
lf-ends begun c rest e = rw e

none_left : (begun : List ℕ) → begun ≡ [] → [] ≡ answers_of (lines_from begun [])
unfolding lines_from answers_of
none_left begun e = rw e

pub calls-text : (kept : ℕ) (line input text : List ℕ) → QuestionCalls kept line input text → text ≡ answers_after kept line input
calls-text kept line input _ (ask_next _ _ out table _ block from rest r line_last out_last table_last text e b c) =
    ap (λ (t : List ℕ). take r.filled out_last ++ t) (calls-text r.kept line_last _ text c)
    ∙ sym (b.answered rest) ∙ ap (answers_after kept line) (sym e)
calls-text kept line _ text (ask_ended _ _ c rest _ e d) =
    calls-text kept line (lf ∷ []) text d ∙ ap answers_of (lf-ends (take kept line) c rest e)
calls-text kept line _ _ (ask_last _ _ e) = none_left (take kept line) e

-- of a whole input
pub input-text : (line input text : List ℕ) → QuestionCalls 0 line input text → text ≡ answers_of (lines_of input)
input-text line input text c = calls-text 0 line input text c

-- the turns of a call, to the last
turn-tabled : (block : List ℕ) (w : AskWork) → length (ask_turn block w).table ≡ length w.table
unfolding ask_turn choose
turn-tabled block w =
    by-test (taken_of block w.at.next (length w.line) w.at.kept).ended
    (λ e. rw e (table-size _ w.table))
    (λ e. rw e)

record Gone (block : List ℕ) (start : AskWork) : Type 0 where
  done : AskWork
  going : Going block start done
  off : GoesWith block done → ⊥

gone : (n : ℕ) (block : List ℕ) (start w : AskWork) → length block ≤ w.at.next + n → Going block start w → Gone block start
gone zero block start w h g = record { done = w; going = g; off = λ o. omega (arith, o.more) }
gone (suc n) block start w h g =
    by-test (ask_goes_on block w)
    (λ e.
    let o = goes block w e in
    let t = turn-of block w o in
    let m = t.on in
    gone n block start (ask_turn block w) (omega arith) (going-turn g o t (turn-tabled block w)))
    (λ e. record { done = w; going = g; off = λ o. true≢false (sym (on-is block w o) ∙ e) })

-- the end of an input whose lines are answered
ended-input : (outs tables kept : ℕ) (line input : List ℕ) → length input ≤ 0 → take kept line ≡ [] → AnsweredThrough outs tables kept line input
unfolding TakesSome
ended-input outs tables kept line [] h e = record { text = []; calls = ask_last kept line e; onward = tt }
ended-input outs tables kept line (c ∷ rest) h e = absurd (omega arith)

-- with room for any line, its items and its answer
module _ (out : List ℕ) (enough : answer_most ≤ length out) where
  -- a call on all that is left of the input
  module _ (kept : ℕ) (line table input : List ℕ) (l : ask_room ≤ length line) (t : table_room ≤ length table) (some : 0 < length input) where
    abbrev start : AskWork
    start = ask_work (ask_start input 0 kept) line out table

    made : Gone input start
    made = gone (length input) input start start (omega arith) (going_start input start)

    abbrev done : AskWork
    done = made.done

    answered : QuestionsAnswered input 0 line out table kept done.at done.line done.out done.table
    answered =
        block-answered input 0 line out table kept (ask_start input 0 kept) done.at done.line done.out done.table refl made.going made.off

    onward : 0 < done.at.next
    onward = answered.onward l t enough some

    abbrev left : List ℕ
    left = drop done.at.next input ++ []

    less : length left < length input
    less = rw (append-nil (drop done.at.next input), length-drop done.at.next input) (omega (arith, onward))

    line_same : ask_room ≤ length done.line
    line_same = omega (arith, made.going.onto.lined)

    table_same : table_room ≤ length done.table
    table_same = omega (arith, made.going.tabled)

    called : AnsweredThrough (length out) (length table) done.at.kept done.line left → AnsweredThrough (length out) (length table) kept line input
    unfolding TakesSome
    called more =
        record {
          text = take done.at.filled done.out ++ more.text;
          calls = ask_next kept line out table input input 0 [] done.at done.line done.out done.table more.text
              (sym (append-nil input)) answered more.calls;
          onward = (onward, refl, refl, more.onward);
        }

  -- a last line that no LF ended
  module _ (kept : ℕ) (line table : List ℕ) (l : ask_room ≤ length line) (t : table_room ≤ length table) where
    abbrev lone : List ℕ
    lone = lf ∷ []

    one : 0 < length lone
    one = omega arith

    abbrev begins : AskWork
    begins = ask_work (ask_start lone 0 kept) line out table

    lone-turn : (ask_turn lone begins).at.kept ≡ 0
    unfolding ask_turn taken_of has_lf choose
    lone-turn = refl

    lone-kept : (done kept line table lone l t one).at.kept ≡ 0
    unfolding ask_turns
    lone-kept =
        let g : GoesWith lone begins = record { more = omega arith; whole = l; tabled = t; room = enough } in
        ap (λ (w : AskWork). w.at.kept)
        (going_done (made kept line table lone l t one).going (made kept line table lone l t one).off
        ∙ block_on lone begins (on-is lone begins g) 0)
        ∙ lone-turn

    closed : (begun : List ℕ) → take kept line ≡ begun → AnsweredThrough (length out) (length table) kept line []
    unfolding TakesSome
    closed [] e = record { text = []; calls = ask_last kept line e; onward = tt }
    closed (c ∷ rest) e =
        let n = less kept line table lone l t one in
        let w = done kept line table lone l t one in
        let m = called kept line table lone l t one (ended-input (length out) (length table) w.at.kept w.line (left kept line table lone l t one) (omega (arith, n)) (rw lone-kept)) in
        record { text = m.text; calls = ask_ended kept line c rest m.text e m.calls; onward = m.onward }

  -- every input of at most n characters
  abbrev Through : ℕ → Type 0
  Through n = (kept : ℕ) (line table input : List ℕ) → length input ≤ n → ask_room ≤ length line → table_room ≤ length table
      → AnsweredThrough (length out) (length table) kept line input

  none_more : Through 0
  none_more kept line table [] h l t = closed kept line table l t (take kept line) refl
  none_more kept line table (c ∷ rest) h l t = absurd (omega arith)

  one_more : (n : ℕ) → Through n → Through (suc n)
  one_more n again kept line table [] h l t = closed kept line table l t (take kept line) refl
  one_more n again kept line table (c ∷ rest) h l t =
      let input = c ∷ rest in
      let some : 0 < length input = omega arith in
      let w = done kept line table input l t some in
      let tabled : length w.table ≡ length table = (made kept line table input l t some).going.tabled in
      called kept line table input l t some
      (subst (λ (k : ℕ). AnsweredThrough (length out) k w.at.kept w.line (left kept line table input l t some)) tabled
      (again w.at.kept w.line w.table (left kept line table input l t some)
      (omega (arith, less kept line table input l t some))
      (line_same kept line table input l t some)
      (table_same kept line table input l t some)))

  through : (n : ℕ) → Through n
  through zero = none_more
  through (suc n) = one_more n (through n)

-- every input has calls, each of which takes some of it and is lent as much as is lent here, that answer it to its end
pub every-input : (line out table input : List ℕ) → ask_room ≤ length line → answer_most ≤ length out → table_room ≤ length table
    → AnsweredThrough (length out) (length table) 0 line input
every-input line out table input l enough t = through out enough (length input) 0 line table input (omega arith) l t

-- and so each of its questions is answered
pub every-answer : (line out table input : List ℕ) (l : ask_room ≤ length line) (enough : answer_most ≤ length out) (t : table_room ≤ length table)
    → (every-input line out table input l enough t).text ≡ answers_of (lines_of input)
every-answer line out table input l enough t =
    let a = every-input line out table input l enough t in
    input-text line input a.text a.calls
