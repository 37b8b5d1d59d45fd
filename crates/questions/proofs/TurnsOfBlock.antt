-- What the turns of a block amount to: the definition's turns, as many as it makes.
use mathlib.Core.Path.{◌≡◌, refl, sym, ap, ◌∙◌}
use mathlib.Core.Bool.{Bool, true, false, true≢false}
use mathlib.Core.List.{List}
use Prim.Native.Nat.{ℕ, zero, suc, ◌+◌, ◌<◌, ◌≤◌}
use native.Mathlib.Omega.{arith}
use lib.ListN.{length, take}
use lib.Seq.{sets}
use borrow.Author.Tests.{lt-ltb, le-leb, ltb-true, leb-true}
use Rattle.choices.proofs.Choices.{by-test, and-true}
use Rattle.choices.specs.Branch.{choose}
use Rattle.lines.specs.declared.Taken.{Taken}
use Rattle.lines.specs.Lines.{taken_of, kept_into, LineTaken}
use Rattle.ask_answers.specs.Questions.{question_of}
use Rattle.ask_answers.specs.Replies.{answer_line}
use Rattle.ask_room.specs.Room.{answer_room}
use Rattle.ask_answers.specs.Answers.{table_for}
use Rattle.ask_room.proofs.RoomTested.{roomy, table-enough, output-enough}
use Rattle.questions.specs.declared.Progress.{Progress}
use Rattle.questions.specs.Blocks.{ask_room, AskWork, ask_goes_on, ask_answered, ask_begun, ask_turn, ask_turns, ask_work}
use Rattle.questions.specs.Turns.{Goes, Onto, Turned}
use Rattle.questions.proofs.OntoOnward.{onto-self, onto-then}

-- the last of the tests
pub goes_by : (block line out table : ℕ) (at : Progress) (r : Bool) → r ≡ answer_room table out at.filled → at.next < block → ask_room ≤ line
    → (r ≡ true → Goes block line out table at) × (r ≡ false → Goes block line out table at → ⊥)
goes_by block line out table at r e h k = (
  λ t.
      record {
        more = h;
        whole = k;
        tabled = table-enough table out at.filled (sym e ∙ t);
        room = output-enough table out at.filled (sym e ∙ t);
      },
  λ f g. true≢false (roomy table out at.filled g.tabled g.room ∙ sym e ∙ f),
)

-- the test of the definition is the one of the program
abbrev pub GoesWith : List ℕ → AskWork → Type 0
GoesWith block w = Goes (length block) (length w.line) (length w.out) (length w.table) w.at

module _ (block : List ℕ) (w : AskWork) where
  pub on-is : GoesWith block w → ask_goes_on block w ≡ true
  unfolding ask_goes_on
  on-is g = rw (lt-ltb _ _ g.more, le-leb _ _ g.whole, ← roomy (length w.table) (length w.out) w.at.filled g.tabled g.room)

  pub goes : ask_goes_on block w ≡ true → GoesWith block w
  unfolding ask_goes_on
  goes h =
      let a = and-true _ _ h in
      let b = and-true _ _ a.1 in
      record {
        more = ltb-true _ _ a.0;
        whole = leb-true _ _ b.0;
        tabled = table-enough (length w.table) (length w.out) w.at.filled b.1;
        room = output-enough (length w.table) (length w.out) w.at.filled b.1;
      }

  off-is : (GoesWith block w → ⊥) → ask_goes_on block w ≡ false
  off-is off = by-test (ask_goes_on block w) (λ e. absurd (off (goes e))) (λ e. e)

  pub block_on : ask_goes_on block w ≡ true → (n : ℕ) → ask_turns (suc n) block w ≡ ask_turns n block (ask_turn block w)
  unfolding ask_turns choose
  block_on h n = rw h

  pub block-stops : ask_goes_on block w ≡ false → (n : ℕ) → ask_turns n block w ≡ w
  unfolding ask_turns choose
  block-stops h zero = refl
  block-stops h (suc n) = rw h

-- the steps of a turn amount to it
module _ (block : List ℕ) (w : AskWork) (t : Taken) (l : List ℕ) (k : LineTaken block w.at.next w.line w.at.kept t l) where
  abbrev taken : Taken
  taken = taken_of block w.at.next (length w.line) w.at.kept

  abbrev kept : List ℕ
  kept = kept_into block w.at.next w.line w.at.kept

  same_end : taken.ended ≡ t.ended
  same_end = sym (ap (λ (x : Taken). x.ended) k.answered)

  pub begun-is : t.ended ≡ false → ask_begun t l w ≡ ask_turn block w
  unfolding ask_turn choose
  begun-is e = rw (same_end ∙ e) (ap (λ (x : Taken). ask_begun x l w) k.answered ∙ ap (λ (x : List ℕ). ask_begun taken x w) k.filled)

  answering-is : t.ended ≡ true → ask_answered (take t.kept l) t.next l w ≡ ask_turn block w
  unfolding ask_turn choose
  answering-is e =
      rw (same_end ∙ e)
      (ap (λ (x : Taken). ask_answered (take x.kept l) x.next l w) k.answered
      ∙ ap (λ (x : List ℕ). ask_answered (take taken.kept x) taken.next x w) k.filled)

  pub answered-is : t.ended ≡ true → (end : ℕ) (out_last table_last : List ℕ) → end ≡ w.at.filled + length (answer_line (take t.kept l))
      → out_last ≡ sets w.out w.at.filled (answer_line (take t.kept l)) → table_last ≡ table_for (question_of (take t.kept l)) w.table
      → ask_work (record { kept = 0; next = t.next; filled = end }) l out_last table_last ≡ ask_turn block w
  answered-is e end out_last table_last f o b = rw (f, o, b) (answering-is e)

-- turns that are enough for what is left of the block, and that end as all of them do
pub record Rest (block : List ℕ) (w done : AskWork) : Type 0 where
  pub turns : ℕ
  pub enough : length block ≤ w.at.next + turns
  pub gives : ask_turns turns block w ≡ done

rest-turn : (block : List ℕ) (w v done : AskWork) → GoesWith block w → w.at.next < v.at.next → v ≡ ask_turn block w
    → (n : ℕ) → length block ≤ w.at.next + n → ask_turns n block w ≡ done → Rest block v done
rest-turn block w v done g h e zero k f = absurd (omega (arith, g.more))
rest-turn block w v done g h e (suc n) k f =
    record { turns = n; enough = omega arith; gives = ap (ask_turns n block) e ∙ sym (block_on block w (on-is block w g) n) ∙ f }

-- where a call stands that began elsewhere
pub record Going (block : List ℕ) (start w : AskWork) : Type 0 where
  pub onto : Onto block start.at start.line start.out w.at w.line w.out
  pub tabled : length w.table ≡ length start.table
  pub rest : Rest block w (ask_turns (length block) block start)

pub going_start : (block : List ℕ) (w : AskWork) → Going block w w
going_start block w =
    record { onto = onto-self block w.at w.line w.out; tabled = refl; rest = record { turns = length block; enough = omega arith; gives = refl } }

pub going-turn : {block : List ℕ} {start w v : AskWork} → Going block start w → GoesWith block w → Turned block w v
    → length v.table ≡ length w.table → Going block start v
going-turn {block} {start} {w} {v} g o t l =
    record {
      onto = onto-then g.onto t.onto;
      tabled = l ∙ g.tabled;
      rest = rest-turn block w v _ o t.on t.is g.rest.turns g.rest.enough g.rest.gives;
    }

pub going_done : {block : List ℕ} {start w : AskWork} → Going block start w → (GoesWith block w → ⊥) → w ≡ ask_turns (length block) block start
going_done {block} {start} {w} g off = sym (block-stops block w (off-is block w off) g.rest.turns) ∙ g.rest.gives
