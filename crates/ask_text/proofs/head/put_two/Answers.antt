-- One number behind the other.
use mathlib.Core.List.{[], ◌∷◌, append_assoc}
use native.Mathlib.Omega.{arith}
use Rattle.decimals.specs.Decimal.{decimal}
use Rattle.decimals.proofs.CharactersPut.{put_then, number-most}
use Rattle.ask_text.specs.Replies.{space}
use Rattle.ask_text.proofs.head.put_two.Goals as goal

pub put_number-requires : goal.put_number-requires
put_number-requires c =
    omega (arith, c.requires, c.put_number-next.ensures.end, c.put_number-next.auto.out, number-most c.args.x (space ∷ []), number-most c.args.y (c.args.behind ∷ []))

pub returns : goal.returns
returns c =
    rw (← append_assoc (decimal c.args.x) (space ∷ [])) (put_then c.put_number-next.ensures c.put_number.ensures)
