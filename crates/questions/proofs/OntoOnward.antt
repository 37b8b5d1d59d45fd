-- Places of a block one after another: what holds from one to the next holds over many.
use mathlib.Core.Path.{◌≡◌, refl, sym, ap, ◌∙◌}
use mathlib.Core.List.{List}
use Prim.Native.Nat.{ℕ, ◌+◌, ◌-◌, ◌≤◌}
use native.Mathlib.Omega.{arith}
use lib.Dec.{ltb}
use lib.ListN.{drop}
use lib.Seq.{drop-drop}
use borrow.Author.Tests.{ltb-true, ltb-false}
use Rattle.choices.proofs.Choices.{by-test}
use Rattle.questions.specs.declared.Progress.{Progress}
use Rattle.questions.specs.Turns.{Onto}

pub onto-self : (block : List ℕ) (a : Progress) (line out : List ℕ) → Onto block a line out a line out
onto-self block a line out =
    record {
      answered = λ rest. refl;
      sized = refl;
      lined = refl;
      within = λ h. h;
      unfilled = refl;
      more = omega arith;
      further = omega arith;
      moved = λ h. absurd (omega arith);
      inside = λ h. h;
    }

drop-same : (a b : List ℕ) (m n : ℕ) → m ≤ n → drop m a ≡ drop m b → drop n a ≡ drop n b
drop-same a b m n h e =
    let s : m + (n - m) ≡ n = omega arith in
    ap (λ (k : ℕ). drop k a) (sym s) ∙ sym (drop-drop (n - m) m a) ∙ ap (drop (n - m)) e ∙ drop-drop (n - m) m b ∙ ap (λ (k : ℕ). drop k b) s

pub onto-then : {block : List ℕ} {a : Progress} {line out : List ℕ} {b : Progress} {line_then out_then : List ℕ} {c : Progress} {line_last out_last : List ℕ}
    → Onto block a line out b line_then out_then → Onto block b line_then out_then c line_last out_last → Onto block a line out c line_last out_last
onto-then {block} {a} {line} {out} {b} {line_then} {out_then} {c} p q =
    let m = p.more in
    let n = q.more in
    let f = p.further in
    let g = q.further in
    record {
      answered = λ rest. p.answered rest ∙ q.answered rest;
      sized = q.sized ∙ p.sized;
      lined = q.lined ∙ p.lined;
      within = λ h. omega (arith, p.sized, q.within (omega (arith, p.sized, p.within h)));
      unfilled = q.unfilled ∙ drop-same out_then out b.filled c.filled q.more p.unfilled;
      more = omega arith;
      further = omega arith;
      moved = λ h.
          by-test (ltb a.filled b.filled)
          (λ e. omega (arith, p.moved (ltb-true _ _ e)))
          (λ e. let l = ltb-false a.filled b.filled e in omega (arith, q.moved (omega arith)));
      inside = λ h. q.inside (p.inside h);
    }
