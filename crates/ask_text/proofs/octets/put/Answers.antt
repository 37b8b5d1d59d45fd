-- No octets; or their digits, and the character behind them.
use mathlib.Core.Path.{sym, ◌∙◌}
use native.Mathlib.Omega.{arith}
use Rattle.decimals.proofs.CharactersPut.{put_then, put_one}
use Rattle.ask_text.proofs.OctetsPut.{octets-some, digits-fit, digits-put}
use Rattle.ask_text.proofs.octets.put.Goals as goal

pub overflow_add-end : goal.overflow_add-end
overflow_add-end c =
    omega (arith, digits-fit c.args.octets.now c.args.out.now c.args.at c.args.behind (sym c.is_empty.ensures ∙ c.if-is_empty.false) c.requires)

pub bounds-out-end : goal.bounds-out-end
bounds-out-end c =
    omega (arith, digits-fit c.args.octets.now c.args.out.now c.args.at c.args.behind (sym c.is_empty.ensures ∙ c.if-is_empty.false) c.requires, c.encode.auto)

pub overflow_add-result : goal.overflow_add-result
overflow_add-result c =
    omega (arith, digits-fit c.args.octets.now c.args.out.now c.args.at c.args.behind (sym c.is_empty.ensures ∙ c.if-is_empty.false) c.requires)

pub returns : goal.returns
returns c =
    rw (octets-some c.args.octets.now c.args.behind (sym c.is_empty.ensures ∙ c.if-is_empty.false)) (put_then (digits-put c.args.octets.now c.args.out.now c.args.at c.args.behind (sym c.is_empty.ensures ∙ c.if-is_empty.false) c.requires _ _ c.encode.ensures) (put_one _ _ c.args.behind))
