-- The first word says what is asked.
use mathlib.Core.Path.{refl, sym, ◌∙◌}
use Rattle.ask_answers.proofs.WordsAnswered.{word-type, word_value, word-item, word-rewrite, word-profile, word-component, word-other}
use Rattle.ask_answers.proofs.reply_words.Goals as goal

pub returns-then-same : goal.returns-then-same
returns-then-same c =
    word-type c.args.word.now _ _ _ _ (sym c.if-same.true ∙ c.same.ensures) c.reply_type.ensures

pub returns-then-same-2 : goal.returns-then-same-2
returns-then-same-2 c =
    word_value c.args.word.now _ _ _ _ (sym c.if-same.false ∙ c.same.ensures) (sym c.if-same-2.true ∙ c.same-2.ensures) _ c.reply_value.ensures

pub returns-then-same-3 : goal.returns-then-same-3
returns-then-same-3 c =
    word-item c.args.word.now _ _ _ _ (sym c.if-same.false ∙ c.same.ensures) (sym c.if-same-2.false ∙ c.same-2.ensures) (sym c.if-same-3.true ∙ c.same-3.ensures) c.reply_item.ensures

pub returns-then-same-4 : goal.returns-then-same-4
returns-then-same-4 c =
    word-rewrite c.args.word.now _ _ _ _ (sym c.if-same.false ∙ c.same.ensures) (sym c.if-same-2.false ∙ c.same-2.ensures) (sym c.if-same-3.false ∙ c.same-3.ensures) (sym c.if-same-4.true ∙ c.same-4.ensures) c.reply_rewrite.ensures

pub returns-then-same-5 : goal.returns-then-same-5
returns-then-same-5 c =
    word-profile c.args.word.now _ _ _ _ (sym c.if-same.false ∙ c.same.ensures) (sym c.if-same-2.false ∙ c.same-2.ensures) (sym c.if-same-3.false ∙ c.same-3.ensures) (sym c.if-same-4.false ∙ c.same-4.ensures) (sym c.if-same-5.true ∙ c.same-5.ensures) c.reply_profile.ensures

pub returns-then-same-6 : goal.returns-then-same-6
returns-then-same-6 c =
    word-component c.args.word.now _ _ _ _ (sym c.if-same.false ∙ c.same.ensures) (sym c.if-same-2.false ∙ c.same-2.ensures) (sym c.if-same-3.false ∙ c.same-3.ensures) (sym c.if-same-4.false ∙ c.same-4.ensures) (sym c.if-same-5.false ∙ c.same-5.ensures) (sym c.if-same-6.true ∙ c.same-6.ensures) c.reply_component.ensures

pub returns : goal.returns
returns c =
    word-other c.args.word.now _ _ _ _ (sym c.if-same.false ∙ c.same.ensures) (sym c.if-same-2.false ∙ c.same-2.ensures) (sym c.if-same-3.false ∙ c.same-3.ensures) (sym c.if-same-4.false ∙ c.same-4.ensures) (sym c.if-same-5.false ∙ c.same-5.ensures) (sym c.if-same-6.false ∙ c.same-6.ensures) refl
