-- There is no number where the encapsulation starts past the octets.
use mathlib.Core.Path.{sym, ◌∙◌}
use native.Mathlib.Omega.{arith}
use Rattle.type_kinds.specs.Parts.{field_in}
use Rattle.type_kinds.proofs.FieldInside.{field-beyond}
use Rattle.type_kinds.proofs.field_in.Goals as goal

pub returns-in_err-get : goal.returns-in_err-get
unfolding field_in
returns-in_err-get c =
    c.from_residual.ensures ∙ sym (field-beyond c.args.types.now c.args.start c.args.at c.args.size c.args.order (omega (arith, c.in_err-get.ensures.lookup)))
