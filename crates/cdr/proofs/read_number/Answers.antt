-- The aligned index is the definition's, since alignment counts modulo 8.
use mathlib.Core.Path.{sym, ◌∙◌}
use native.Mathlib.Omega.{arith}
use Rattle.cdr.proofs.GapsBounded.{place-at, read-ends, read_number}
use Rattle.cdr.proofs.read_number.Goals as goal

pub returns-then-s-at : goal.returns-then-s-at
returns-then-s-at c =
    sym (read-ends c.args.s.now c.args.start c.args.at c.args.size c.args.order (omega arith))

pub returns-then-s-p : goal.returns-then-s-p
returns-then-s-p c =
    let e = place-at c.args.size c.args.start c.args.at c.in_ok-index.index (sym c.aligned.ensures ∙ c.in_ok-index.was) in
    sym (read-ends c.args.s.now c.args.start c.args.at c.args.size c.args.order (omega arith))

pub returns : goal.returns
returns c =
    let e = place-at c.args.size c.args.start c.args.at c.in_ok-index.index (sym c.aligned.ensures ∙ c.in_ok-index.was) in
    rw (c.number.ensures.value, e) (sym (read_number c.args.s.now c.args.start c.args.at c.args.size c.args.order (omega arith)))
