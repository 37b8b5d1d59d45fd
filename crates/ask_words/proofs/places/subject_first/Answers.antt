-- One after the other.
use Rattle.ask_words.proofs.FieldsFound.{no-type, no_value, no_start, subject-is}
use Rattle.ask_words.proofs.places.subject_first.Goals as goal

pub returns-in_err-typed : goal.returns-in_err-typed
returns-in_err-typed c =
    rw c.from_residual.ensures
    (no-type c.args.line.now _ c.coded_at.ensures c.in_err-typed.was)

pub returns-in_err-value : goal.returns-in_err-value
returns-in_err-value c =
    rw c.from_residual-in_err-value.ensures
    (no_value c.args.line.now _ c.coded_at.ensures _ c.in_ok-typed.was _ c.coded_at-2.ensures c.in_err-value.was)

pub returns-in_err-start : goal.returns-in_err-start
returns-in_err-start c =
    rw c.from_residual-in_err-start.ensures
    (no_start c.args.line.now _ c.coded_at.ensures _ c.in_ok-typed.was _ c.coded_at-2.ensures _ c.in_ok-value.was _ c.number_at.ensures c.in_err-start.was)

pub returns : goal.returns
returns c =
    subject-is c.args.line.now _ c.coded_at.ensures _ c.in_ok-typed.was _ c.coded_at-2.ensures _ c.in_ok-value.was _ c.number_at.ensures _ _ c.in_ok-start.was
