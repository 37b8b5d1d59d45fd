-- The answer of a line does not see its characters beyond the 131,073rd.
use mathlib.Core.Path.{◌≡◌, sym, ap, ◌∙◌}
use mathlib.Core.List.{List}
use Prim.Native.Nat.{ℕ, ◌<◌}
use native.Mathlib.Omega.{arith}
use lib.Dec.{ltb}
use lib.ListN.{length, take}
use lib.Seq.{take_all, length-take-le}
use borrow.Author.Tests.{ltb-true, ltb-false, lt-ltb}
use Rattle.choices.proofs.Choices.{by-test}
use Rattle.choices.specs.Branch.{choose}
use Rattle.ask_octets.specs.Octets.{line_most}
use Rattle.ask_answers.specs.Questions.{question_of}
use Rattle.ask_answers.specs.Replies.{answer_line}

module _ (n : ℕ) (h : line_most < n) where
  question-cut : (line : List ℕ) → question_of (take n line) ≡ question_of line
  unfolding question_of choose
  question-cut line =
      by-test (ltb n (length line))
      (λ e.
      let l = ltb-true n (length line) e in
      let k = length-take-le n line (omega arith) in
      rw (lt-ltb line_most (length (take n line)) (omega arith), lt-ltb line_most (length line) (omega arith)))
      (λ e. rw (take_all n line (ltb-false n (length line) e)))

  -- a line is answered by its first 131,073 characters, and by any more
  pub answer-cut : (line : List ℕ) → answer_line (take n line) ≡ answer_line line
  unfolding answer_line
  answer-cut line = rw (question-cut line)

  pub answer-same : (a b : List ℕ) → take n a ≡ take n b → answer_line a ≡ answer_line b
  answer-same a b e = sym (answer-cut a) ∙ ap answer_line e ∙ answer-cut b
