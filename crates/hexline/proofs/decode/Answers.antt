-- A line within the limit is decoded as its digits are.
use mathlib.Core.Path.{refl, sym, ◌∙◌}
use native.Mathlib.Omega.{arith}
use Rattle.hexline.proofs.Answers.{too_long, within-limit}
use Rattle.hexline.proofs.decode.Goals as goal

pub returns-then-line-gt-LINE_LIMIT : goal.returns-then-line-gt-LINE_LIMIT
returns-then-line-gt-LINE_LIMIT c = record { answer = sym (too_long _ _ (omega arith)); output = refl }

pub returns : goal.returns
returns c =
    record { answer = c.decode_digits.ensures.answer ∙ sym (within-limit _ _ (omega arith)); output = c.decode_digits.ensures.output }
