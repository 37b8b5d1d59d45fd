-- The last octet is judged first, then those before it.
use mathlib.Core.Path.{sym, ap, ◌∙◌}
use mathlib.Core.Bool.{not}
use borrow.Author.Tests.{ne_eqb}
use Rattle.cdr_text.specs.Text.{ends_text}
use Rattle.cdr_text.proofs.TextEnds.{ends-zero, ends-other, ends-none}
use Rattle.cdr_text.proofs.ends_text.Goals as goal

pub returns-in_default : goal.returns-in_default
returns-in_default c = sym (ends-none c.args.s.now c.in_default.ensures.cases)

pub returns-then-last-eq0 : goal.returns-then-last-eq0
returns-then-last-eq0 c =
    ap not c.has_zero.ensures ∙ sym (ap ends_text c.in-Some.ensures.cases.0 ∙ ends-zero c.in-Some.before.now c.in-Some.last.now c.if-last-eq0.true)

pub returns-else-last-eq0 : goal.returns-else-last-eq0
returns-else-last-eq0 c =
    ne_eqb _ _ c.if-last-eq0.false ∙ sym (ap ends_text c.in-Some.ensures.cases.0 ∙ ends-other c.in-Some.before.now c.in-Some.last.now c.if-last-eq0.false)
