-- The type and the version say which.
use mathlib.Core.Path.{sym}
use borrow.Author.Tests.{eq-eqb, ne_eqb}
use Rattle.header_layout.specs.Layout.{layout_of}
use Rattle.header_layout.proofs.parts_of.Goals as goal

pub returns-in-true-true : goal.returns-in-true-true
unfolding layout_of
returns-in-true-true c = rw (eq-eqb _ _ c.in-true-true.is-0, sym c.in-true-true.ensures)

pub returns-in-true-false : goal.returns-in-true-false
unfolding layout_of
returns-in-true-false c = rw (eq-eqb _ _ c.in-true-false.is-0, sym c.in-true-false.ensures)

pub returns-in-false-true : goal.returns-in-false-true
unfolding layout_of
returns-in-false-true c = rw (ne_eqb _ _ c.in-false-true.is-0, sym c.in-false-true.ensures)

pub returns-in-false-false : goal.returns-in-false-false
unfolding layout_of
returns-in-false-false c = rw (ne_eqb _ _ c.in-false-false.is-0, sym c.in-false-false.ensures)
