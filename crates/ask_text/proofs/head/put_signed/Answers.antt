-- Below 2^63 the number itself, from there on what it lacks of 2^64.
use mathlib.Core.Path.{◌≡◌}
use mathlib.Core.List.{[], ◌∷◌}
use Prim.Native.Nat.{◌+◌, ◌-◌, ◌^◌}
use native.Mathlib.Omega.{arith}
use borrow.Author.Tests.{lt-ltb, le-ltb}
use Rattle.choices.specs.Branch.{choose}
use Rattle.decimals.proofs.CharactersPut.{put_then, put-stored}
use Rattle.ask_text.specs.Replies.{space, signed_text}
use Rattle.ask_text.proofs.head.put_signed.Goals as goal

pub returns-then-x-lt9223372036854775808 : goal.returns-then-x-lt9223372036854775808
unfolding signed_text choose
returns-then-x-lt9223372036854775808 c =
    rw (lt-ltb c.args.x (2 ^ 63) c.if-x-lt9223372036854775808.true) (put_then (put-stored c.args.out.now 0 (111 ∷ 107 ∷ space ∷ 115 ∷ 105 ∷ 103 ∷ 110 ∷ 101 ∷ 100 ∷ space ∷ []) _ _ (omega (arith, c.requires)) c.write_octets.ensures) c.put_number.ensures)

pub returns : goal.returns
unfolding signed_text choose
returns c =
    let e : 2 ^ 64 - c.args.x ≡ 18446744073709551615 - c.args.x + 1 = omega arith in
    rw (le-ltb c.args.x (2 ^ 63) c.if-x-lt9223372036854775808.false, e) (put_then (put-stored c.args.out.now 0 (111 ∷ 107 ∷ space ∷ 115 ∷ 105 ∷ 103 ∷ 110 ∷ 101 ∷ 100 ∷ space ∷ 45 ∷ []) _ _ (omega (arith, c.requires)) c.write_octets-2.ensures) c.put_number-2.ensures)
