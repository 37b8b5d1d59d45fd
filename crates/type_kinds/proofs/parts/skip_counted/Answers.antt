-- There are no octets where the encapsulation starts past the whole.
use mathlib.Core.Path.{sym, ◌∙◌, ap}
use native.Mathlib.Omega.{arith}
use Rattle.type_kinds.specs.Parts.{skip_counted, skip_octets}
use Rattle.type_kinds.proofs.FieldInside.{counted-beyond}
use Rattle.type_kinds.proofs.parts.skip_counted.Goals as goal

pub returns-in_err-get : goal.returns-in_err-get
unfolding skip_counted
returns-in_err-get c =
    c.from_residual.ensures ∙ sym (ap skip_octets (counted-beyond c.args.types.now c.args.start c.args.at c.args.order (omega (arith, c.in_err-get.ensures.lookup))))
