-- The context of the header that was read.
use mathlib.Core.Path.{sym, ap, ◌∙◌}
use Rattle.std.specs.Prelude.{Ok}
use Rattle.choices.proofs.Exits.{exit-error}
use Rattle.header.proofs.HeadersRead.{context-is}
use Rattle.header.proofs.context.Goals as goal

pub returns-in_err-q : goal.returns-in_err-q
returns-in_err-q c =
    exit-error c.from_residual.ensures.1 ∙ sym (context-is c.args.s.now c.args.number _ (sym c.read.ensures ∙ c.in_err-q.was))

pub returns-in-Called : goal.returns-in-Called
returns-in-Called c =
    c.numbered.ensures ∙ sym (context-is c.args.s.now c.args.number _ (sym c.read.ensures ∙ c.in_ok-q.was ∙ ap Ok c.in-Called.is))

pub returns-in-Answered : goal.returns-in-Answered
returns-in-Answered c =
    c.numbered-in-Answered.ensures ∙ sym (context-is c.args.s.now c.args.number _ (sym c.read.ensures ∙ c.in_ok-q.was ∙ ap Ok c.in-Answered.is))
