-- Whether octets fit is decided by their end.
use mathlib.Core.Path.{◌≡◌, sym, ◌∙◌}
use mathlib.Core.Bool.{true, false}
use Prim.Native.Nat.{ℕ, ◌+◌, ◌-◌, ◌≤◌, ◌<◌}
use native.Mathlib.Omega.{arith}
use borrow.Author.Tests.{le-leb, lt-leb, leb-true, leb-false}
use lib.Dec.{leb}
use Rattle.choices.proofs.Choices.{by-test}
use Rattle.cdr.specs.Limit.{fits}

module _ (len at n : ℕ) where
  pub room_fits : at + n ≤ len → fits len at n ≡ true
  unfolding fits
  room_fits h = le-leb (at + n) len h

  pub room-lacks : len < at + n → fits len at n ≡ false
  unfolding fits
  room-lacks h = lt-leb (at + n) len h

  pub fits-room : fits len at n ≡ true → at + n ≤ len
  unfolding fits
  fits-room e = leb-true (at + n) len e

  pub lacks-room : fits len at n ≡ false → len < at + n
  unfolding fits
  lacks-room e = leb-false (at + n) len e

  -- counted from `at` on
  pub fits-left : at ≤ len → leb n (len - at) ≡ fits len at n
  fits-left h =
      by-test (leb n (len - at))
      (λ t. let l = leb-true n (len - at) t in t ∙ sym (room_fits (omega (arith, l, h))))
      (λ t. let l = leb-false n (len - at) t in t ∙ sym (room-lacks (omega (arith, l, h))))
