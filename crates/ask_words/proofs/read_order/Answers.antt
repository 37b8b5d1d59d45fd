-- One word after the other is compared.
use mathlib.Core.Path.{sym, ◌∙◌}
use Rattle.choices.specs.Branch.{choose}
use Rattle.ask_words.specs.Words.{order_word}
use Rattle.ask_words.proofs.read_order.Goals as goal

pub returns-then-same : goal.returns-then-same
unfolding order_word choose
returns-then-same c = rw (sym c.same.ensures ∙ c.if-same.true)

pub returns-then-same-2 : goal.returns-then-same-2
unfolding order_word choose
returns-then-same-2 c =
    rw (sym c.same.ensures ∙ c.if-same.false, sym c.same-2.ensures ∙ c.if-same-2.true)

pub returns : goal.returns
unfolding order_word choose
returns c =
    rw (sym c.same.ensures ∙ c.if-same.false, sym c.same-2.ensures ∙ c.if-same-2.false)
