-- The words are read, and the body, which stands in the memory then, or the number of its refusal is told.
use mathlib.Core.Path.{◌≡◌, ◌∙◌}
use lib.Seq.{length-take-le}
use Rattle.ask_words.specs.Fields.{numbered_fields_of}
use Rattle.ask_words.specs.Words.{words}
use Rattle.ask_answers.specs.Inner.{OctetsRead}
use Rattle.ask_answers.specs.Questions.{component_asked, component_question}
use Rattle.ask_answers.proofs.WordsStand.{word-held, octets-not, octets-asked, octets-within}
use Rattle.ask_answers.proofs.BodiesHeld.{component-held, component-refused}
use Rattle.ask_answers.proofs.NothingHeld.{none-held}
use Rattle.ask_answers.proofs.ItemsStand.{numbered-about, numbered-fits}
use Rattle.ask_answers.proofs.profiles.reply_component.Goals as goal

pub returns-in_default-read : goal.returns-in_default-read
returns-in_default-read c =
    let asked = numbered-about c.args.rest.now _ c.read_numbered.ensures _ _ c.in-Some.is in
    let read = word-held _ (numbered-fits c.args.rest.now _ c.read_numbered.ensures _ _ c.in-Some.is _ c.requires.0) c.read.ensures in
    none-held _ _ (asked ∙ octets-not read c.in_default-read.is (λ v. component_asked v c.in-Some.number))

pub returns-in-Ok : goal.returns-in-Ok
returns-in-Ok c =
    let asked = numbered-about c.args.rest.now _ c.read_numbered.ensures _ _ c.in-Some.is in
    let read = word-held _ (numbered-fits c.args.rest.now _ c.read_numbered.ensures _ _ c.in-Some.is _ c.requires.0) c.read.ensures in
    rw (asked ∙ octets-asked read _ c.in-Some-read.is (λ v. component_asked v c.in-Some.number))
    (component-held _ c.in-Some.number _ c.component.ensures _ _ c.in-Ok.is c.args.memory.now c.requires.1
    _ _ c.write_octets.ensures _ (length-take-le _ _ (octets-within read _ c.in-Some-read.is)))

pub returns-in-Err : goal.returns-in-Err
returns-in-Err c =
    let asked = numbered-about c.args.rest.now _ c.read_numbered.ensures _ _ c.in-Some.is in
    let read = word-held _ (numbered-fits c.args.rest.now _ c.read_numbered.ensures _ _ c.in-Some.is _ c.requires.0) c.read.ensures in
    rw (asked ∙ octets-asked read _ c.in-Some-read.is (λ v. component_asked v c.in-Some.number))
    (component-refused _ c.in-Some.number _ c.component.ensures _ c.in-Err.is _ c.number.ensures _)
