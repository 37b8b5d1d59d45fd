-- The words are read, and the octets that the first stands for.
use Rattle.ask_headers.proofs.HeaderWords.{subject-none, subject-not, subject-is}
use Rattle.ask_headers.proofs.read_octets.Goals as goal

pub returns-in_err-end : goal.returns-in_err-end
returns-in_err-end c =
    rw c.from_residual.ensures (subject-none c.args.rest.now _ c.read_numbered.ensures c.in_err-end.was c.args.message.now)

pub returns-in_err-count : goal.returns-in_err-count
returns-in_err-count c =
    rw c.from_residual-in_err-count.ensures (subject-not c.args.rest.now _ c.read_numbered.ensures _ _ c.in_ok-end.was
    c.args.message.now c.requires _ _ c.read.ensures c.in_err-count.was)

pub returns : goal.returns
returns c =
    subject-is c.args.rest.now _ c.read_numbered.ensures _ _ c.in_ok-end.was c.args.message.now c.requires _ _ c.read.ensures _ c.in_ok-count.was
