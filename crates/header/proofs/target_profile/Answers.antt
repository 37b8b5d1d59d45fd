-- The profile of the header that was read.
use mathlib.Core.Path.{sym, ap, ◌∙◌}
use Rattle.std.specs.Prelude.{Ok}
use Rattle.choices.proofs.Exits.{exit-error}
use Rattle.header.proofs.HeadersRead.{numbered-same, profile-is}
use Rattle.header.proofs.target_profile.Goals as goal

pub returns-in_err-q : goal.returns-in_err-q
returns-in_err-q c =
    exit-error c.from_residual.ensures.1 ∙ sym (profile-is c.args.s.now c.args.number _ (sym c.read.ensures ∙ c.in_err-q.was))

pub returns-in-Called : goal.returns-in-Called
returns-in-Called c =
    c.numbered.ensures
    ∙ numbered-same c.args.s.now _ _ _ c.args.number c.profiles_in.ensures
    ∙ sym (profile-is c.args.s.now c.args.number _ (sym c.read.ensures ∙ c.in_ok-q.was ∙ ap Ok c.in-Called.is))

pub returns-in-Answered : goal.returns-in-Answered
returns-in-Answered c =
    c.numbered-in-Answered.ensures ∙ sym (profile-is c.args.s.now c.args.number _ (sym c.read.ensures ∙ c.in_ok-q.was ∙ ap Ok c.in-Answered.is))
