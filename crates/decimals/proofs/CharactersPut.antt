-- Characters put one behind the other.
use Rattle.std.specs.Prelude.{Option, Some, None}
use mathlib.Core.Path.{◌≡◌, refl, sym, ap, ◌∙◌}
use mathlib.Core.List.{List, [], ◌∷◌, ◌++◌}
use Prim.Native.Nat.{ℕ, ◌+◌, ◌-◌, ◌<◌, ◌≤◌}
use native.Mathlib.Nat.{zero-add}
use native.Mathlib.Omega.{arith}
use lib.ListN.{length, take, drop, set, length-append, length-drop}
use lib.Seq.{sets, take_all}
use Rattle.choices.proofs.Choices.{clash}
use Rattle.cdr_write.specs.Write.{Stored}
use Rattle.cdr_write.proofs.BufferHolds.{sets-append, take-stored, stored-upto, stored-fits}
use Rattle.decimals.specs.Decimal.{decimal}
use Rattle.decimals.specs.Puts.{Put}
use Rattle.decimals.proofs.DecimalIs.{decimal-most}

-- one behind the other
pub put_then : {out : List ℕ} {at : ℕ} {xs : List ℕ} {e : ℕ} {m ys : List ℕ} {f : ℕ} {last : List ℕ}
    → Put out at xs e m → Put m e ys f last → Put out at (xs ++ ys) f last
put_then {out} {at} {xs} {e} {m} {ys} p q =
    record {
      end = q.end ∙ omega (arith, p.end, length-append xs ys);
      contents = q.contents ∙ rw (p.contents, p.end) (sym (sets-append out at xs ys));
    }

-- one character, and two
pub put_one : (out : List ℕ) (at c : ℕ) → Put out at (c ∷ []) (at + 1) (set out at c)
put_one out at c = record { end = omega arith; contents = refl }

pub put_two : (out : List ℕ) (at c d : ℕ) → Put out at (c ∷ d ∷ []) (at + 2) (set (set out at c) (at + 1) d)
put_two out at c d =
    let e : at + 1 + 1 ≡ at + 2 = omega arith in
    rw (← e) (put_then (put_one out at c) (put_one (set out at c) (at + 1) d))

-- characters that are stored where they fit: they are put, and it is told where they end
module _ (out : List ℕ) (at : ℕ) (xs : List ℕ) (r : Option ℕ) (last : List ℕ) (h : at + length xs ≤ length out) (s : Stored out at xs r last) where
  pub put-stored : Put out at xs (at + length xs) last
  put-stored = record { end = refl; contents = stored-fits out at xs r last h s }

  pub put-upto : (e : ℕ) → r ≡ Some e → Put out at xs e last
  put-upto e t = let u = stored-upto out at xs r last h s in record { end = cc; contents = stored-fits out at xs r last h s }

  pub put-always : {G : Type 0} → r ≡ None → G
  put-always t = let u = stored-upto out at xs r last h s in clash cc

-- what was written from the start of a memory
pub take-written : (out xs : List ℕ) (n : ℕ) → n ≡ length xs → n ≤ length out → take n (sets out 0 xs) ≡ xs
take-written out xs n e h = ap (λ (k : ℕ). take k (sets out 0 xs)) (e ∙ sym (zero-add (length xs))) ∙ take-stored out xs 0 (omega arith)

pub put-taken : {out : List ℕ} {xs : List ℕ} {e : ℕ} {last : List ℕ} → Put out 0 xs e last → e ≤ length out → take e last ≡ xs
put-taken {out} {xs} {e} p h = rw p.contents (take-written out xs e (omega (arith, p.end)) h)

-- a number takes at most 20 characters
pub number-most : (x : ℕ) (behind : List ℕ) → length (decimal x ++ behind) ≤ 20 + length behind
number-most x behind = rw length-append (omega (arith, decimal-most 20 x))

-- a number whose digits stand at the end of 20 places, with the character behind them
pub number-end : (digits : List ℕ) (x behind start : ℕ) → length digits ≡ 21 → start < 20 → drop start digits ≡ decimal x ++ (behind ∷ [])
    → take (21 - start) (drop start digits) ≡ decimal x ++ (behind ∷ [])
number-end digits x behind start n h e =
    let l : length (drop start digits) ≡ length digits - start = length-drop start digits in
    take_all (21 - start) (drop start digits) (omega arith) ∙ e
