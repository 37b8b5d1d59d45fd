-- The words are read, and the value.
use mathlib.Core.Path.{◌∙◌}
use Rattle.ask_answers.specs.Questions.{value_asked}
use Rattle.ask_answers.proofs.ItemsStand.{fields-none, fields-about, about-nothing}
use Rattle.ask_answers.proofs.NothingHeld.{none-replied}
use Rattle.ask_answers.proofs.values.reply_value.Goals as goal

pub returns-in_default : goal.returns-in_default
returns-in_default c =
    none-replied _ _ (fields-none c.args.rest.now _ c.read_fields.ensures value_asked c.in_default.is)

pub returns-in_default-read : goal.returns-in_default-read
returns-in_default-read c =
    none-replied _ _ (fields-about c.args.rest.now _ c.read_fields.ensures value_asked _ c.in-Some.is ∙ about-nothing c.read.ensures (λ order t x. value_asked order t x c.in-Some.asked.number) c.in_default-read.is)
