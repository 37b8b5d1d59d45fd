-- Runs of stores: one at a time, and two halves of a number one after the other.
use Rattle.std.specs.Prelude.{Option, Some, None}
use mathlib.Core.Path.{◌≡◌, refl, sym, ap, ◌∙◌}
use mathlib.Core.List.{List, [], ◌∷◌, ◌++◌, append_assoc}
use mathlib.Core.Bool.{true, false}
use Prim.Native.Nat.{ℕ, suc, ◌+◌, ◌^◌, ◌-◌, ◌≤◌, ◌%◌}
use native.Mathlib.Nat.{add-zero}
use native.Mathlib.Omega.{arith}
use lib.ListN.{length, take, drop, set, length-append, length-drop}
use borrow.Rule.Slice.PartMut.{put_mid}
use lib.Seq.{sets, sets-eq, drop-drop, take_at, drop_at, length-take-le}
use Rattle.cdr.specs.declared.Order.{Order}
use Rattle.cdr.specs.declared.Order.TheVariants.{Big, Little}
use Rattle.cdr.specs.Number.{octets_of, little_octets}
use Rattle.cdr.specs.Inner.{first_half, second_half}
use Rattle.cdr_write.specs.Write.{Stored, holding}
use Rattle.cdr.specs.Limit.{fits}
use Rattle.cdr.proofs.RoomFits.{room_fits}
use Rattle.cdr.proofs.NumbersGivenBack.{octets-halves, octets-length}

pub sets-append : (l : List ℕ) (i : ℕ) (xs ys : List ℕ) → sets l i (xs ++ ys) ≡ sets (sets l i xs) (i + length xs) ys
sets-append l i [] ys = ap (λ (k : ℕ). sets l k ys) (sym (add-zero i))
sets-append l i (x ∷ xs) ys =
    let e : suc i + length xs ≡ i + suc (length xs) = omega arith in
    sets-append (set l i x) (suc i) xs ys ∙ ap (λ (k : ℕ). sets (sets (set l i x) (suc i) xs) k ys) e

-- what stands before the end of a run, and behind it
module _ (l xs : List ℕ) (at : ℕ) (fits : at + length xs ≤ length l) where
  before-length : length (take at l ++ xs) ≡ at + length xs
  before-length = length-append (take at l) xs ∙ ap (λ (k : ℕ). k + length xs) (length-take-le at l (omega arith))

  pub take-stored : take (at + length xs) (sets l at xs) ≡ take at l ++ xs
  take-stored =
      rw (sets-eq xs l at fits) (take_at (take at l ++ xs) (drop (at + length xs) l) (at + length xs) before-length)

  pub drop-stored : drop (at + length xs) (sets l at xs) ≡ drop (at + length xs) l
  drop-stored =
      rw (sets-eq xs l at fits) (drop_at (take at l ++ xs) (drop (at + length xs) l) (at + length xs) before-length)

pub part-length : (l : List ℕ) (at n : ℕ) → at + n ≤ length l → length (take (at + n - at) (drop at l)) ≡ n
part-length l at n h =
    let k : at + n - at ≡ n = omega arith in rw k (length-take-le n (drop at l) (omega (arith, length-drop at l)))

-- a part of the buffer that holds octets holds a run of stores
pub put-sets : (l xs ys : List ℕ) (at n : ℕ) → at + n ≤ length l → length xs ≡ n → ys ≡ xs → put_mid at (at + n - at) l ys ≡ sets l at xs
put-sets l xs ys at n h e f =
    let k : at + n - at ≡ length xs = omega arith in
    rw (f, k, drop-drop (length xs) at l, sets-eq xs l at (omega arith)) (sym (append_assoc (take at l) xs (drop (at + length xs) l)))

-- a number of one octet, and of two halves
pub one-octet : (order : Order) (x : ℕ) → octets_of order 1 x ≡ x % 256 ∷ []
unfolding octets_of little_octets
one-octet Little x = refl
one-octet Big x = refl

pub stored-halves : (order : Order) (n at x p q : ℕ) (out l m : List ℕ) → p ≡ first_half order (256 ^ n) x → q ≡ second_half order (256 ^ n) x
    → l ≡ sets out at (octets_of order n p) → m ≡ sets l (at + n) (octets_of order n q) → m ≡ sets out at (octets_of order (n + n) x)
stored-halves order n at x p q out l m e f g h =
    h
    ∙ rw (g, e, f)
    (sym
    (ap (sets out at) (octets-halves order n x)
    ∙ sets-append out at (octets_of order n (first_half order (256 ^ n) x)) (octets_of order n (second_half order (256 ^ n) x))
    ∙ ap (λ (k : ℕ). sets (sets out at (octets_of order n (first_half order (256 ^ n) x))) (at + k) (octets_of order n (second_half order (256 ^ n) x)))
    (octets-length order n (first_half order (256 ^ n) x))))

-- the two answers of a writer, by whether the octets fit
module _ (out : List ℕ) (at n : ℕ) (xs : List ℕ) (e : length xs ≡ n) where
  pub not-stored : fits (length out) at n ≡ false → Stored out at xs None out
  not-stored h = record { answer = rw (e, h); contents = refl }

  pub stored_there : fits (length out) at n ≡ true → (last : List ℕ) → last ≡ sets out at xs → Stored out at xs (Some (at + n)) last
  stored_there h last f = record { answer = rw (e, h); contents = f }

-- where the octets fit, it is told where they end, and the buffer holds them
pub stored-upto : (out : List ℕ) (at : ℕ) (xs : List ℕ) (r : Option ℕ) (last : List ℕ) → at + length xs ≤ length out
    → Stored out at xs r last → r ≡ Some (at + length xs)
stored-upto out at xs r last h s = s.answer ∙ rw (room_fits (length out) at (length xs) h)

pub stored-fits : (out : List ℕ) (at : ℕ) (xs : List ℕ) (r : Option ℕ) (last : List ℕ) → at + length xs ≤ length out
    → Stored out at xs r last → last ≡ sets out at xs
stored-fits out at xs r last h s = s.contents ∙ ap (λ (w : Option ℕ). holding w out at xs) (stored-upto out at xs r last h s)
