-- The word is read, and what it stands for is checked.
use mathlib.Core.Path.{sym, ap, ◌∙◌}
use Rattle.ask_answers.specs.Questions.{type_asked}
use Rattle.ask_answers.specs.Replies.{reply_to}
use Rattle.ask_answers.proofs.WordsStand.{lone-held, octets-not, octets-asked}
use Rattle.ask_answers.proofs.types.reply_ordered.Goals as goal

pub returns-in_default : goal.returns-in_default
returns-in_default c =
    sym (ap reply_to (octets-not (lone-held c.args.rest.now c.requires c.read_lone.ensures) c.in_default.is (λ v. type_asked c.args.order v)))

pub returns : goal.returns
returns c =
    c.check.ensures
    ∙ sym (ap reply_to (octets-asked (lone-held c.args.rest.now c.requires c.read_lone.ensures) _ c.in-Some.is (λ v. type_asked c.args.order v)))
