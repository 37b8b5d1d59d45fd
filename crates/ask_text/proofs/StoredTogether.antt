-- Texts one behind the other, stored together or not at all.
use Rattle.std.specs.Prelude.{Option, Some, None}
use mathlib.Core.Path.{◌≡◌, refl, sym, ap, subst, ◌∙◌}
use mathlib.Core.Bool.{true, false}
use mathlib.Core.List.{List, ◌++◌}
use Prim.Native.Nat.{ℕ, ◌+◌, ◌-◌, ◌≤◌}
use native.Mathlib.Omega.{arith}
use lib.Dec.{leb}
use lib.ListN.{length, length-append}
use lib.Seq.{sets, length-sets}
use Rattle.decimals.specs.Puts.{Put}
use Rattle.cdr.specs.Limit.{fits}
use Rattle.cdr.proofs.RoomFits.{room_fits, room-lacks, fits-room, lacks-room, fits-left}
use Rattle.cdr_write.specs.Write.{Stored}
use Rattle.cdr_write.proofs.BufferHolds.{sets-append, not-stored, stored_there, stored-fits, stored-upto}

-- one text and another behind it: whether both fit,
module _ (len at : ℕ) (xs ys : List ℕ) where
  pub first-lacks : fits len at (length xs) ≡ false → fits len at (length (xs ++ ys)) ≡ false
  first-lacks e = room-lacks len at _ (omega (arith, length-append xs ys, lacks-room len at (length xs) e))

  pub fits-then : (next : ℕ) → next ≡ at + length xs → fits len next (length ys) ≡ fits len at (length (xs ++ ys))
  unfolding fits
  fits-then next e =
      let k : next + length ys ≡ at + length (xs ++ ys) = omega (arith, length-append xs ys) in
      ap (λ (j : ℕ). leb j len) k

  pub left-then : (next : ℕ) → next ≡ at + length xs → next ≤ len → leb (length ys) (len - next) ≡ fits len at (length (xs ++ ys))
  left-then next e h = fits-left len next (length ys) h ∙ fits-then next e

-- and both stored
module _ (out : List ℕ) (at : ℕ) (xs ys : List ℕ) where
  both-length : length (xs ++ ys) ≡ length xs + length ys
  both-length = length-append xs ys

  pub both-none : fits (length out) at (length (xs ++ ys)) ≡ false → Stored out at (xs ++ ys) None out
  both-none e = not-stored out at _ (xs ++ ys) refl e

  module _ (e : fits (length out) at (length (xs ++ ys)) ≡ true) (w : Option ℕ) (m : List ℕ) (s : Stored out at xs w m) where
    room : at + length (xs ++ ys) ≤ length out
    room = fits-room (length out) at _ e

    first-is : m ≡ sets out at xs
    first-is = stored-fits out at xs w m (omega (arith, both-length, room)) s

    pub second_fits : at + length xs + length ys ≤ length m
    second_fits = omega (arith, both-length, room, ap length first-is ∙ length-sets out at xs)

    pub both-put : (r : ℕ) (last : List ℕ) → Put m (at + length xs) ys r last → Stored out at (xs ++ ys) (Some r) last
    both-put r last p =
        let f : at + length (xs ++ ys) ≡ r = omega (arith, both-length, p.end) in
        subst (λ (k : ℕ). Stored out at (xs ++ ys) (Some k) last) f
        (stored_there out at _ (xs ++ ys) refl e last
        (p.contents ∙ ap (λ (v : List ℕ). sets v (at + length xs) ys) first-is ∙ sym (sets-append out at xs ys)))

    pub both_stored : (next : ℕ) → next ≡ at + length xs → (r : Option ℕ) (last : List ℕ) → Stored m next ys r last
        → Stored out at (xs ++ ys) r last
    both_stored next k r last t =
        let h : next + length ys ≤ length m = omega (arith, second_fits) in
        let u : (Some (next + length ys)) ≡ r = sym (stored-upto m next ys r last h t) in
        let p = stored-fits m next ys r last h t ∙ ap (λ (j : ℕ). sets m j ys) k in
        rw (← u) (both-put (next + length ys) last (record { end = omega arith; contents = p }))

-- three texts
module _ (out : List ℕ) (at : ℕ) (xs ys zs : List ℕ) where
  abbrev all : List ℕ
  all = xs ++ (ys ++ zs)

  pub lacks-first : fits (length out) at (length xs) ≡ false → Stored out at all None out
  lacks-first e = both-none out at xs (ys ++ zs) (first-lacks (length out) at xs (ys ++ zs) e)

  module _ (next : ℕ) (e : next ≡ at + length xs) where
    pub lacks-second : fits (length out) next (length ys) ≡ false → Stored out at all None out
    lacks-second f =
        both-none out at xs (ys ++ zs) (sym (fits-then (length out) at xs (ys ++ zs) next e) ∙ first-lacks (length out) next ys zs f)

    module _ (last : ℕ) (f : last ≡ next + length ys) where
      all-fits : (len : ℕ) → fits len at (length all) ≡ fits len last (length zs)
      all-fits len = sym (fits-then len next ys zs last f ∙ fits-then len at xs (ys ++ zs) next e)

      pub lacks-third : fits (length out) last (length zs) ≡ false → Stored out at all None out
      lacks-third g = both-none out at xs (ys ++ zs) (all-fits (length out) ∙ g)

      pub all-stored : fits (length out) last (length zs) ≡ true → (w : Option ℕ) (m : List ℕ) → Stored out at xs w m
          → (w' : Option ℕ) (n : List ℕ) → Stored m next ys w' n → (r : Option ℕ) (l : List ℕ) → Stored n last zs r l → Stored out at all r l
      all-stored g w m s w' n t r l u =
          let h = second_fits out at xs (ys ++ zs) (all-fits (length out) ∙ g) w m s in
          both_stored out at xs (ys ++ zs) (all-fits (length out) ∙ g) w m s next e r l
          (both_stored m next ys zs (room_fits (length m) next _ (omega (arith, h))) w' n t last f r l u)
