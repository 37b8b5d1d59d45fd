-- One of the words.
use mathlib.Core.Path.{sym, ◌∙◌}
use Rattle.ask_headers.proofs.HeaderWords.{header-asks, context-asks, target-asks, head-asks}
use Rattle.ask_headers.proofs.is_header_word.Goals as goal

pub returns-then-same : goal.returns-then-same
returns-then-same c =
    header-asks c.args.word.now (sym c.if-same.true ∙ c.same.ensures)

pub returns-then-same-2 : goal.returns-then-same-2
returns-then-same-2 c =
    context-asks c.args.word.now (sym c.if-same.false ∙ c.same.ensures) (sym c.if-same-2.true ∙ c.same-2.ensures)

pub returns-then-same-3 : goal.returns-then-same-3
returns-then-same-3 c =
    target-asks c.args.word.now (sym c.if-same.false ∙ c.same.ensures) (sym c.if-same-2.false ∙ c.same-2.ensures) (sym c.if-same-3.true ∙ c.same-3.ensures)

pub returns : goal.returns
returns c =
    c.same-4.ensures ∙ head-asks c.args.word.now (sym c.if-same.false ∙ c.same.ensures) (sym c.if-same-2.false ∙ c.same-2.ensures) (sym c.if-same-3.false ∙ c.same-3.ensures)
