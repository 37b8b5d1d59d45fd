-- The word, then the number.
use mathlib.Core.List.{[], ◌∷◌}
use native.Mathlib.Omega.{arith}
use Rattle.decimals.proofs.CharactersPut.{put_then, put-stored}
use Rattle.ask_text.specs.Replies.{space}
use Rattle.ask_text.proofs.head.put_refused.Goals as goal

pub returns : goal.returns
returns c =
    put_then (put-stored c.args.out.now 0 (110 ∷ 111 ∷ space ∷ []) _ _ (omega (arith, c.requires)) c.write_octets.ensures) c.put_number.ensures
