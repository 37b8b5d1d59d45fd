-- 42, and then the type.
use mathlib.Core.Path.{◌≡◌, sym, ap, ◌∙◌}
use Rattle.typecode.specs.TypeCode.{CheckedType}
use Rattle.std.specs.Prelude.{ℕ, Result, Err}
use Rattle.value_typed.specs.Typed.{typed, judged_by}
use Rattle.value_typed.proofs.TypedCases as answers
use mathlib.Core.List.{[]}
use mathlib.Core.Path.{◌≡◌, refl}
use Rattle.type_list.specs.Arrays.{kinds_from, kinds_met, no_kinds}
use Rattle.value_typed.proofs.check.Goals as goal

no-kinds : kinds_met no_kinds ≡ []
unfolding kinds_met kinds_from
no-kinds = refl

pub returns-then-over_long : goal.returns-then-over_long
returns-then-over_long c =
    ap (typed (Err 42)) (ap kinds_met c.none.ensures ∙ no-kinds)
    ∙ answers.typed_long c.args.types.now c.args.torder c.args.octets (sym c.over_long.ensures ∙ c.if-over_long.true)

pub returns : goal.returns
returns c =
    ap (λ (j : Result (Unit {0}) ℕ). typed j (kinds_met c.check_type-c.result.met)) c.judge.ensures
    ∙ ap (λ (y : CheckedType). typed (judged_by y.answer) y.kinds) c.check_type-c.ensures
    ∙ answers.typed-short c.args.types.now c.args.torder c.args.octets (sym c.over_long.ensures ∙ c.if-over_long.false)
