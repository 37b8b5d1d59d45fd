-- The words of a value, a number, and no word more.
use Rattle.ask_words.proofs.FieldsFound.{fields-none, no_number, fields-more, fields-are}
use Rattle.ask_words.proofs.read_fields.Goals as goal

pub returns-in_err-subject : goal.returns-in_err-subject
returns-in_err-subject c =
    rw c.from_residual.ensures
    (fields-none c.args.line.now _ c.subject_first.ensures c.in_err-subject.was)

pub returns-in_err-number : goal.returns-in_err-number
returns-in_err-number c =
    rw c.from_residual-in_err-number.ensures
    (no_number c.args.line.now _ c.subject_first.ensures _ _ c.in_ok-subject.was _ c.number_at.ensures c.in_err-number.was)

pub returns-then-last-line : goal.returns-then-last-line
returns-then-last-line c =
    fields-more c.args.line.now _ c.subject_first.ensures _ _ c.in_ok-subject.was _ c.number_at.ensures _ _ c.in_ok-number.was c.if-last-line.true

pub returns : goal.returns
returns c =
    fields-are c.args.line.now _ c.subject_first.ensures _ _ c.in_ok-subject.was _ c.number_at.ensures _ _ c.in_ok-number.was c.if-last-line.false
