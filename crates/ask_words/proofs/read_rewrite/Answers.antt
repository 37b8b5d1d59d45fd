-- The words of a value, an order, two numbers, and no word more.
use Rattle.ask_words.proofs.FieldsFound.{rewrite-none, no-order, no_index, no_room, rewrite-more, rewrite-asks}
use Rattle.ask_words.proofs.read_rewrite.Goals as goal

pub returns-in_err-subject : goal.returns-in_err-subject
returns-in_err-subject c =
    rw c.from_residual.ensures
    (rewrite-none c.args.line.now _ c.subject_first.ensures c.in_err-subject.was)

pub returns-in_err-order : goal.returns-in_err-order
returns-in_err-order c =
    rw c.from_residual-in_err-order.ensures
    (no-order c.args.line.now _ c.subject_first.ensures _ _ c.in_ok-subject.was _ c.order_at.ensures c.in_err-order.was)

pub returns-in_err-index : goal.returns-in_err-index
returns-in_err-index c =
    rw c.from_residual-in_err-index.ensures
    (no_index c.args.line.now _ c.subject_first.ensures _ _ c.in_ok-subject.was _ c.order_at.ensures _ _ c.in_ok-order.was _ c.number_at.ensures c.in_err-index.was)

pub returns-in_err-room : goal.returns-in_err-room
returns-in_err-room c =
    rw c.from_residual-in_err-room.ensures
    (no_room c.args.line.now _ c.subject_first.ensures _ _ c.in_ok-subject.was _ c.order_at.ensures _ _ c.in_ok-order.was _ c.number_at.ensures _ _ c.in_ok-index.was _ c.number_at-2.ensures c.in_err-room.was)

pub returns-then-end-line : goal.returns-then-end-line
returns-then-end-line c =
    rewrite-more c.args.line.now _ c.subject_first.ensures _ _ c.in_ok-subject.was _ c.order_at.ensures _ _ c.in_ok-order.was _ c.number_at.ensures _ _ c.in_ok-index.was _ c.number_at-2.ensures _ _ c.in_ok-room.was c.if-end-line.true

pub returns : goal.returns
returns c =
    rewrite-asks c.args.line.now _ c.subject_first.ensures _ _ c.in_ok-subject.was _ c.order_at.ensures _ _ c.in_ok-order.was _ c.number_at.ensures _ _ c.in_ok-index.was _ c.number_at-2.ensures _ _ c.in_ok-room.was c.if-end-line.false
