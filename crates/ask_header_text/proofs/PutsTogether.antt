-- Characters put one behind the other, where there is room for them.
use Rattle.std.specs.Prelude.{Option, Some, None}
use Rattle.std.specs.Option.{unwrap_or}
use mathlib.Core.Path.{◌≡◌, refl, sym, ap, ◌∙◌}
use mathlib.Core.List.{List, ◌++◌}
use Prim.Native.Nat.{ℕ, ◌+◌}
use native.Mathlib.Omega.{arith}
use lib.ListN.{length, length-append}
use lib.Seq.{length-sets}
use Rattle.decimals.proofs.CharactersPut.{put_then, put-upto, put-always}
use Rattle.cdr_write.specs.Write.{Stored}
use Rattle.ask_header_text.specs.Inner.{Puts}

-- what was stored, or had no room
pub puts_or : (out : List ℕ) (at : ℕ) (xs : List ℕ) (w : Option ℕ) (last : List ℕ) → Stored out at xs w last → (e r : ℕ) → r ≡ unwrap_or w e
    → Puts out at xs r last
puts_or out at xs (Some n) last s e r t = record { put = λ h. put-upto out at xs (Some n) last h s r (ap Some (sym t)) }
puts_or out at xs None last s e r t = record { put = λ h. put-always out at xs None last h s refl }

-- one behind the other
pub puts_then : {out : List ℕ} {at : ℕ} {xs : List ℕ} {e : ℕ} {m ys : List ℕ} {f : ℕ} {last : List ℕ}
    → Puts out at xs e m → Puts m e ys f last → Puts out at (xs ++ ys) f last
puts_then {out} {at} {xs} {e} {m} {ys} p q =
    record {
      put = λ h.
          let a = p.put (omega (arith, length-append xs ys, h)) in
          let l : length m ≡ length out = ap length a.contents ∙ length-sets out at xs in
          put_then a (q.put (omega (arith, length-append xs ys, h, a.end)));
    }
