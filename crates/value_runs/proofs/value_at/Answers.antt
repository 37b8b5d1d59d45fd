-- The number at an aligned place.
use Rattle.std.proofs.Common.{ap, ◌∙◌}
use Rattle.cdr.specs.declared.Size.TheVariants.{One, Two, Four, Eight}
use Rattle.value_runs.specs.Inner.{value_of}
use Rattle.value_runs.proofs.RowsAtOnce.{value_there}
use Rattle.value_runs.proofs.value_at.Goals as goal

pub returns-in-One : goal.returns-in-One
returns-in-One c =
    c.value_of.ensures
    ∙ ap value_of c.read_number.ensures
    ∙ value_there c.args.value.now c.args.start c.args.at One c.args.size c.args.order c.in-One.is c.requires.0 c.requires.1

pub returns-in-Two : goal.returns-in-Two
returns-in-Two c =
    c.value_of-in-Two.ensures
    ∙ ap value_of c.read_number-in-Two.ensures
    ∙ value_there c.args.value.now c.args.start c.args.at Two c.args.size c.args.order c.in-Two.is c.requires.0 c.requires.1

pub returns-in-Four : goal.returns-in-Four
returns-in-Four c =
    c.value_of-in-Four.ensures
    ∙ ap value_of c.read_number-in-Four.ensures
    ∙ value_there c.args.value.now c.args.start c.args.at Four c.args.size c.args.order c.in-Four.is c.requires.0 c.requires.1

pub returns-in-Eight : goal.returns-in-Eight
returns-in-Eight c =
    c.value_of-in-Eight.ensures
    ∙ ap value_of c.read_number-in-Eight.ensures
    ∙ value_there c.args.value.now c.args.start c.args.at Eight c.args.size c.args.order c.in-Eight.is c.requires.0 c.requires.1
