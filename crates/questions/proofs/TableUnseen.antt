-- What the table holds at first decides nothing but what it holds afterwards: answers, line and output are the same whatever it held.
use mathlib.Core.Path.{◌≡◌, refl, sym, ap, ◌∙◌}
use mathlib.Core.List.{List}
use Prim.Native.Nat.{ℕ, zero, suc}
use lib.ListN.{length}
use lib.Seq.{length-sets}
use Rattle.choices.proofs.Choices.{by-test}
use Rattle.choices.specs.Branch.{choose}
use Rattle.lines.specs.Lines.{taken_of}
use Rattle.value_meaning.specs.Value.{item_rows}
use Rattle.questions.specs.declared.Progress.{Progress}
use Rattle.ask_answers.specs.Questions.{Question}
use Rattle.ask_answers.specs.Replies.{items_in}
use Rattle.ask_answers.specs.Answers.{table_for}
use Rattle.questions.specs.Blocks.{AskWork, ask_goes_on, ask_turn, ask_turns, ask_work, ask_start, ask_block, QuestionsAnswered}
use Rattle.questions.proofs.TurnsOfBlock.{block_on, block-stops}

pub table-size : (q : Question) (table : List ℕ) → length (table_for q table) ≡ length table
unfolding table_for
table-size q table = length-sets table 0 (item_rows (items_in q))

abbrev with_table : AskWork → List ℕ → AskWork
with_table w table = ask_work w.at w.line w.out table

-- the same but for the table, which has as many numbers
pub record SameBut (w v : AskWork) : Type 0 where
  pub table : List ℕ
  pub sized : length table ≡ length w.table
  pub is : v ≡ with_table w table

module _ (block : List ℕ) (w : AskWork) (table : List ℕ) (h : length table ≡ length w.table) where
  goes_same : ask_goes_on block (with_table w table) ≡ ask_goes_on block w
  unfolding ask_goes_on
  goes_same = rw h

  turn-same : SameBut (ask_turn block w) (ask_turn block (with_table w table))
  unfolding ask_turn choose
  turn-same =
      by-test (taken_of block w.at.next (length w.line) w.at.kept).ended
      (λ e. rw e (record { table = table_for _ table; sized = table-size _ table ∙ h ∙ sym (table-size _ w.table); is = refl }))
      (λ e. rw e (record { table = table; sized = h; is = refl }))

block_same : (n : ℕ) (block : List ℕ) (w : AskWork) (table : List ℕ) → length table ≡ length w.table
    → SameBut (ask_turns n block w) (ask_turns n block (with_table w table))
unfolding ask_turns
block_same zero block w table h = record { table = table; sized = h; is = refl }
block_same (suc n) block w table h =
    let s = turn-same block w table h in
    by-test (ask_goes_on block w)
    (λ e.
    rw (block_on block w e n, block_on block (with_table w table) (goes_same block w table h ∙ e) n, s.is)
    (block_same n block (ask_turn block w) s.table s.sized))
    (λ e.
    rw (block-stops block w e (suc n), block-stops block (with_table w table) (goes_same block w table h ∙ e) (suc n))
    (record { table = table; sized = h; is = refl }))

-- a whole call, by the definition
pub same-but-table : (block : List ℕ) (from : ℕ) (line out table other : List ℕ) (kept : ℕ) → length other ≡ length table
    → SameBut (ask_block block from line out table kept) (ask_block block from line out other kept)
unfolding ask_block
same-but-table block from line out table other kept h =
    block_same (length block) block (ask_work (ask_start block from kept) line out table) other h

-- and any two calls that differ in what their tables hold
pub record SameCall (r : Progress) (line out : List ℕ) (s : Progress) (line_too out_too : List ℕ) : Type 0 where
  pub progress : s ≡ r
  pub lines : line_too ≡ line
  pub texts : out_too ≡ out

pub same-call : (block : List ℕ) (from : ℕ) (line out table other : List ℕ) (kept : ℕ) → length other ≡ length table
    → (r s : Progress) (line_last out_last table_last line_too out_too table_too : List ℕ)
    → QuestionsAnswered block from line out table kept r line_last out_last table_last → QuestionsAnswered block from line out other kept s line_too out_too table_too
    → SameCall r line_last out_last s line_too out_too
same-call block from line out table other kept h r s line_last out_last table_last line_too out_too table_too a b =
    let m = same-but-table block from line out table other kept h in
    let e : ask_work s line_too out_too table_too ≡ with_table (ask_work r line_last out_last table_last) m.table =
    b.decided ∙ m.is ∙ ap (λ (w : AskWork). with_table w m.table) (sym a.decided)
    in
    record { progress = ap (λ (w : AskWork). w.at) e; lines = ap (λ (w : AskWork). w.line) e; texts = ap (λ (w : AskWork). w.out) e }
