-- The type and the version say which parts.
use mathlib.Core.Path.{sym, ◌∙◌}
use borrow.Author.Tests.{eq-eqb, ne_eqb}
use Rattle.header_layout.specs.Layout.{layout_of}
use Rattle.header.proofs.by_type.Goals as goal

pub returns-in-true-true : goal.returns-in-true-true
unfolding layout_of
returns-in-true-true c = c.late_request.ensures ∙ sym (rw (eq-eqb _ _ c.in-true-true.is-0, sym c.in-true-true.ensures))

pub returns-in-true-false : goal.returns-in-true-false
unfolding layout_of
returns-in-true-false c = c.early_request.ensures ∙ sym (rw (eq-eqb _ _ c.in-true-false.is-0, sym c.in-true-false.ensures))

pub returns-in-false-true : goal.returns-in-false-true
unfolding layout_of
returns-in-false-true c = c.late_reply.ensures ∙ sym (rw (ne_eqb _ _ c.in-false-true.is-0, sym c.in-false-true.ensures))

pub returns-in-false-false : goal.returns-in-false-false
unfolding layout_of
returns-in-false-false c = c.early_reply.ensures ∙ sym (rw (ne_eqb _ _ c.in-false-false.is-0, sym c.in-false-false.ensures))
