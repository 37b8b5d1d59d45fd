use mathlib.Core.Path.{◌∙◌, ap}
use mathlib.Core.Bool.{Bool, ◌||◌}
use Prim.Native.Nat.{◌+◌}
use native.Mathlib.Omega.{arith}
use lib.ListN.{drop}
use Rattle.cdr_text.specs.Text.{has_zero}
use Rattle.cdr_text.proofs.TextEnds.{zero-here, none_here, none_left}
use Rattle.cdr_text.proofs.has_zero.Goals as goal
use Rattle.cdr_text.proofs.has_zero.Goals.{then-octet-eq0, else-octet-eq0}

pub loop-octet-preserved : goal.loop-octet-preserved
loop-octet-preserved c =
    let on : Bool → Bool = λ b. b || has_zero (drop (c.loop-octet.octet-index + 1) c.args.s.now) in
    elim c.if-octet-eq0.branch [
      | then-octet-eq0 w ↦ ap on w.found-is ∙ zero-here c.args.s.now c.loop-octet.octet-index (omega arith) c.loop-octet.found w.if-octet-eq0.true ∙ c.loop-octet.invariant
      | else-octet-eq0 w ↦ ap on w.found-is ∙ none_here c.args.s.now c.loop-octet.octet-index (omega arith) c.loop-octet.found w.if-octet-eq0.false ∙ c.loop-octet.invariant
    ]

pub returns : goal.returns
returns c =
    none_left c.args.s.now c.loop-octet.octet-index c.loop-octet.found (omega arith) ∙ c.loop-octet.invariant
