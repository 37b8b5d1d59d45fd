-- The first word says what is asked.
use mathlib.Core.Path.{sym, ◌∙◌}
use Rattle.ask_headers.proofs.HeaderWords.{word-header, word-context, word-target, word-head, word-other}
use Rattle.ask_headers.proofs.answer_words.Goals as goal

pub returns-then-same : goal.returns-then-same
returns-then-same c =
    rw (word-header c.args.word.now _ (sym c.if-same.true ∙ c.same.ensures)) c.answer_header.ensures

pub returns-then-same-2 : goal.returns-then-same-2
returns-then-same-2 c =
    rw (word-context c.args.word.now _ (sym c.if-same.false ∙ c.same.ensures) (sym c.if-same-2.true ∙ c.same-2.ensures)) c.answer_context.ensures

pub returns-then-same-3 : goal.returns-then-same-3
returns-then-same-3 c =
    rw (word-target c.args.word.now _ (sym c.if-same.false ∙ c.same.ensures) (sym c.if-same-2.false ∙ c.same-2.ensures) (sym c.if-same-3.true ∙ c.same-3.ensures)) c.answer_target.ensures

pub returns-then-same-4 : goal.returns-then-same-4
returns-then-same-4 c =
    rw (word-head c.args.word.now _ (sym c.if-same.false ∙ c.same.ensures) (sym c.if-same-2.false ∙ c.same-2.ensures) (sym c.if-same-3.false ∙ c.same-3.ensures) (sym c.if-same-4.true ∙ c.same-4.ensures)) c.answer_head.ensures

pub returns : goal.returns
returns c =
    rw (word-other c.args.word.now _ (sym c.if-same.false ∙ c.same.ensures) (sym c.if-same-2.false ∙ c.same-2.ensures) (sym c.if-same-3.false ∙ c.same-3.ensures) (sym c.if-same-4.false ∙ c.same-4.ensures)) c.no_question.ensures
