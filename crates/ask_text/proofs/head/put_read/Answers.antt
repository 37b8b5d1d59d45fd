-- The word, then one number behind the other.
use mathlib.Core.List.{[], ◌∷◌, append_assoc}
use native.Mathlib.Omega.{arith}
use Rattle.decimals.specs.Decimal.{decimal}
use Rattle.decimals.proofs.CharactersPut.{put_then, put-stored, number-most}
use Rattle.ask_text.specs.Replies.{space}
use Rattle.ask_text.proofs.head.put_read.Goals as goal

pub put_two-requires : goal.put_two-requires
put_two-requires c =
    omega (arith, c.requires, c.put_number-next.ensures.end, c.put_number-next.auto.out, c.write_octets.auto.out, number-most c.args.used (space ∷ []))

pub returns : goal.returns
returns c =
    rw (← append_assoc (decimal c.args.used) (space ∷ [])) (put_then (put-stored c.args.out.now 0 (111 ∷ 107 ∷ space ∷ []) _ _ (omega (arith, c.requires)) c.write_octets.ensures) (put_then c.put_number-next.ensures c.put_two.ensures))
