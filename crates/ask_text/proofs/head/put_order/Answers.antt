-- Each order by its word.
use mathlib.Core.List.{[], ◌∷◌}
use native.Mathlib.Omega.{arith}
use Rattle.decimals.proofs.CharactersPut.{put-stored}
use Rattle.ask_text.proofs.head.put_order.Goals as goal

pub returns-in-Big : goal.returns-in-Big
returns-in-Big c =
    rw c.in-Big.is (put-stored c.args.out.now 0 (111 ∷ 107 ∷ 32 ∷ 98 ∷ 105 ∷ 103 ∷ 32 ∷ []) _ _ (omega (arith, c.requires)) c.write_octets.ensures)

pub returns-in-Little : goal.returns-in-Little
returns-in-Little c =
    rw c.in-Little.is (put-stored c.args.out.now 0 (111 ∷ 107 ∷ 32 ∷ 108 ∷ 105 ∷ 116 ∷ 116 ∷ 108 ∷ 101 ∷ 32 ∷ []) _ _ (omega (arith, c.requires)) c.write_octets-in-Little.ensures)
