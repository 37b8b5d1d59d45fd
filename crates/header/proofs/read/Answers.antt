-- The length, the frame, then the header.
use mathlib.Core.Path.{sym, ◌∙◌}
use Rattle.choices.proofs.Exits.{exit-error}
use Rattle.header.proofs.HeadersRead.{too_long, header_is}
use Rattle.header.proofs.read.Goals as goal

pub returns-then-s-gt-LIMIT : goal.returns-then-s-gt-LIMIT
returns-then-s-gt-LIMIT c = sym (too_long c.args.s.now c.if-s-gt-LIMIT.true)

pub returns-in_err-h : goal.returns-in_err-h
returns-in_err-h c =
    exit-error c.from_residual.ensures.1 ∙ sym (header_is c.args.s.now c.if-s-gt-LIMIT.false _ (sym c.judge_message.ensures ∙ c.in_err-h.was))

pub returns : goal.returns
returns c = c.header_in.ensures ∙ sym (header_is c.args.s.now c.if-s-gt-LIMIT.false _ (sym c.judge_message.ensures ∙ c.in_ok-h.was))
