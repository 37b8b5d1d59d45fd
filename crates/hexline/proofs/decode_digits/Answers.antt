-- Each answer of `decode_digits` is `digits_decoded`'s, and the octets are written only where nothing is refused.
use mathlib.Core.Path.{refl, sym, ◌∙◌}
use native.Mathlib.Omega.{arith}
use Rattle.hexline.proofs.Answers.{odd-count, no_digit, no_room, taken}
use Rattle.hexline.proofs.decode_digits.Goals as goal
use Rattle.hexline.proofs.decode_digits.Goals.{then-digits-eq1-via-then-digits-eq1, then-digits-eq1-via-else-digits-eq1+then-not-all_digits}

pub returns-then-digits-eq1 : goal.returns-then-digits-eq1
returns-then-digits-eq1 c =
    elim c.then-digits-eq1.branch [
      | then-digits-eq1-via-then-digits-eq1 w ↦ record { answer = sym (odd-count _ _ (omega (arith, w.if-digits-eq1.true))); output = refl }
      | then-digits-eq1-via-else-digits-eq1+then-not-all_digits w ↦ record {
        answer = sym (no_digit _ _ (λ o. omega (arith, w.if-digits-eq1.false)) (sym w.all_digits.ensures ∙ w.if-not-all_digits.true));
        output = refl;
      }
    ]

pub returns-then-out-n : goal.returns-then-out-n
returns-then-out-n c =
    record { answer = sym (no_room _ _ (λ o. omega arith) (sym c.all_digits.ensures ∙ c.if-not-all_digits.false) (omega arith)); output = refl }

pub returns : goal.returns
returns c =
    record {
      answer = sym (taken _ _ (λ o. omega arith) (sym c.all_digits.ensures ∙ c.if-not-all_digits.false) (omega arith));
      output = c.write_octets.ensures;
    }
