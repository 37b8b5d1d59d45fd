-- Numbers and their octets, over the size and the byte order: halves, bounds, and each gives the other back.
use mathlib.Core.Path.{◌≡◌, refl, sym, ap, subst, ◌∙◌}
use mathlib.Core.List.{List, [], ◌∷◌, ◌++◌, reverse, reverse-append, reverse-reverse, reverse-cons}
use Prim.Native.Nat.{ℕ, zero, suc, ◌+◌, ◌*◌, ◌^◌, ◌<◌, ◌≤◌, ◌-◌, ◌%◌, ◌/◌}
use native.Mathlib.Nat.{mod-eq_of_lt, pow-suc, pow-succ', min-le_left, zero-add, div-lt_iff_lt-mul, div-add-mod', add-mul, one-mul, mul-le-mul, mul-le-mul_right, mul_assoc, div-div-eq-div-mul}
use native.Mathlib.Omega.{arith}
use mathlib.Core.Bool.{Bool, true, false, cond}
use borrow.Author.Tests.{ltb-true, ltb-false}
use lib.Dec.{ltb, lit<}
use lib.Pow.{pow-add}
use lib.ListN.{get_or, length, take, drop, length-take, length-drop, length-reverse, get_or-eq_default, get_or-append}
use lib.Seq.{take-add, drop-cons, drop-drop, get_or-take, get_or-drop, get_or-append-add, length-take-le}
use Rattle.cdr.specs.declared.Order.{Order}
use Rattle.cdr.specs.declared.Order.TheVariants.{Big, Little}
use Rattle.cdr.specs.declared.Size.{Size}
use Rattle.cdr.specs.declared.Size.TheVariants.{One, Two, Four, Eight}
use Rattle.cdr.specs.Align.{octets}
use Rattle.cdr.specs.Number.{Octets, in_order, little_number, little_octets, number_of, octets_of, number_at, sign_extended}
use Rattle.cdr.specs.Inner.{first_half, second_half, Loaded}

-- every element of a part is an octet
part-octet-by : (v : List ℕ) (at n k : ℕ) (b : Bool) → ltb k n ≡ b → Octets v → get_or (take n (drop at v)) k 0 < 256
part-octet-by v at n k true e h = let l : k < n = ltb-true k n e in rw (get_or-take, get_or-drop) (h (at + k))
part-octet-by v at n k false e h =
    let l : length (take n (drop at v)) ≤ k = let g = ltb-false k n e in simp length-take (omega (arith, min-le_left n (length (drop at v)))) in
    rw (get_or-eq_default (take n (drop at v)) 0 l) (lit< tt)

pub part-octets : (v : List ℕ) (at n : ℕ) → Octets v → Octets (take n (drop at v))
part-octets v at n h k = part-octet-by v at n k _ refl h

octets-append-by : (a b : List ℕ) (k : ℕ) (t : Bool) → ltb k (length a) ≡ t → Octets a → Octets b → get_or (a ++ b) k 0 < 256
octets-append-by a b k true e g h = rw (get_or-append a b 0 k (ltb-true k (length a) e)) (g k)
octets-append-by a b k false e g h =
    let d : k ≡ length a + (k - length a) = let l = ltb-false k (length a) e in omega arith in
    subst (λ (j : ℕ). get_or (a ++ b) j 0 < 256) (sym d) (rw (get_or-append-add a b (k - length a) 0) (h (k - length a)))

octets-one : (x : ℕ) → x < 256 → Octets (x ∷ [])
octets-one x h zero = h
octets-one x h (suc k) = lit< tt

octets-reverse : (l : List ℕ) → Octets l → Octets (reverse l)
octets-reverse [] h = h
octets-reverse (x ∷ l) h =
    rw (reverse-cons x l) (λ k. octets-append-by (reverse l) (x ∷ []) k _ refl (octets-reverse l (λ j. h (suc j))) (octets-one x (h 0)))

-- octets one after the other: the later ones weigh more
little-append : (a b : List ℕ) → little_number (a ++ b) ≡ little_number b * 256 ^ length a + little_number a
unfolding little_number
little-append [] b = omega arith
little-append (x ∷ a) b =
    let e = little-append a b in
    let p : little_number b * (256 ^ length a * 256) ≡ little_number b * 256 ^ length a * 256 = sym (mul_assoc _ _ _) in
    rw (pow-suc 256 (length a), p) (omega arith)

-- a number from the numbers of its halves, in their order
pub halves : Order → ℕ → ℕ → ℕ → ℕ
halves Big base a b = a * base + b
halves Little base a b = b * base + a

-- the same of numbers that stand in an order
of-halves : (order : Order) (n : ℕ) (a b : List ℕ) → length a ≡ n → length b ≡ n
    → number_of order (a ++ b) ≡ halves order (256 ^ n) (number_of order a) (number_of order b)
unfolding number_of halves
of-halves Little n a b p q = little-append a b ∙ ap (λ (k : ℕ). little_number b * 256 ^ k + little_number a) p
of-halves Big n a b p q =
    ap little_number (reverse-append a b)
    ∙ little-append (reverse b) (reverse a)
    ∙ ap (λ (k : ℕ). little_number (reverse a) * 256 ^ k + little_number (reverse b)) (length-reverse b ∙ q)

-- 2n octets at a place are n there and n after them
pub number-halves : (v : List ℕ) (at n : ℕ) (order : Order) → at + (n + n) ≤ length v
    → number_at v at (n + n) order ≡ halves order (256 ^ n) (number_at v at n order) (number_at v (at + n) n order)
unfolding number_at
number-halves v at n order h =
    ap (number_of order) (take-add n n (drop at v) ∙ ap (λ (l : List ℕ). take n (drop at v) ++ take n l) (drop-drop n at v))
    ∙ of-halves order n (take n (drop at v)) (take n (drop (at + n) v))
    (length-take-le n (drop at v) (simp length-drop (omega arith)))
    (length-take-le n (drop (at + n) v) (simp length-drop (omega arith)))

-- one octet is its own number
pub number-one : (v : List ℕ) (at : ℕ) (order : Order) → at < length v → number_at v at 1 order ≡ get_or v at 0
unfolding number_at number_of little_number
number-one v at Little h = ap (λ (l : List ℕ). little_number (take 1 l)) (drop-cons v at 0 h) ∙ zero-add (get_or v at 0)
number-one v at Big h = ap (λ (l : List ℕ). little_number (reverse (take 1 l))) (drop-cons v at 0 h) ∙ zero-add (get_or v at 0)

-- the octets of a number, the first n and the others
little-octets-append : (n m x : ℕ) → little_octets (n + m) x ≡ little_octets n x ++ little_octets m (x / 256 ^ n)
unfolding little_octets
little-octets-append zero m x = let e : zero + m ≡ m = omega arith in let d : x / 1 ≡ x = omega arith in rw (e, d)
little-octets-append (suc n) m x =
    let e : suc n + m ≡ suc (n + m) = omega arith in
    rw (e, pow-succ' 256 n, ← div-div-eq-div-mul x 256 (256 ^ n), little-octets-append n m (x / 256))

-- the same of the two halves, in their order
pub octets-halves : (order : Order) (n x : ℕ)
    → octets_of order (n + n) x ≡ octets_of order n (first_half order (256 ^ n) x) ++ octets_of order n (second_half order (256 ^ n) x)
unfolding octets_of
octets-halves Little n x = little-octets-append n n x
octets-halves Big n x = ap reverse (little-octets-append n n x) ∙ reverse-append (little_octets n x) (little_octets n (x / 256 ^ n))

little-octets-length : (n x : ℕ) → length (little_octets n x) ≡ n
unfolding little_octets
little-octets-length zero x = refl
little-octets-length (suc n) x = ap suc (little-octets-length n (x / 256))

pub octets-length : (order : Order) (n x : ℕ) → length (octets_of order n x) ≡ n
unfolding octets_of
octets-length Little n x = little-octets-length n x
octets-length Big n x = length-reverse (little_octets n x) ∙ little-octets-length n x

-- a number of n octets is below 256 ^ n
little-small : (l : List ℕ) → Octets l → little_number l < 256 ^ length l
unfolding little_number
little-small [] h = lit< tt
little-small (x ∷ l) h =
    let a = little-small l (λ k. h (suc k)) in
    let b = h 0 in
    rw (pow-suc 256 (length l)) (omega arith)

of-small : (order : Order) (l : List ℕ) → Octets l → number_of order l < 256 ^ length l
unfolding number_of
of-small Little l h = little-small l h
of-small Big l h = subst (λ (k : ℕ). little_number (reverse l) < 256 ^ k) (length-reverse l) (little-small (reverse l) (octets-reverse l h))

-- so is the number at a place
pub number_small : (v : List ℕ) (at n : ℕ) (order : Order) → Octets v → at + n ≤ length v → number_at v at n order < 256 ^ n
unfolding number_at
number_small v at n order h f =
    subst (λ (k : ℕ). number_of order (take n (drop at v)) < 256 ^ k) (length-take-le n (drop at v) (simp length-drop (omega arith)))
    (of-small order (take n (drop at v)) (part-octets v at n h))

-- a number's octets are worth the number
little-back : (n x : ℕ) → x < 256 ^ n → little_number (little_octets n x) ≡ x
unfolding little_number little_octets
little-back zero x h = omega arith
little-back (suc n) x h =
    ap (λ (y : ℕ). y * 256 + x % 256) (little-back n (x / 256) ((div-lt_iff_lt-mul (lit< tt)).1 (rw (pow-suc 256 n) at h)))
    ∙ div-add-mod' x 256

pub number-of-octets : (order : Order) (n x : ℕ) → x < 256 ^ n → number_of order (octets_of order n x) ≡ x
unfolding number_of octets_of
number-of-octets Little n x h = little-back n x h
number-of-octets Big n x h = ap little_number (reverse-reverse (little_octets n x)) ∙ little-back n x h

-- octets are the octets of their number
whole : (y d : ℕ) → d < 256 → (y * 256 + d) / 256 ≡ y
whole y d h = omega arith

rest : (y d : ℕ) → d < 256 → (y * 256 + d) % 256 ≡ d
rest y d h = omega arith

little-octets-back : (l : List ℕ) → Octets l → little_octets (length l) (little_number l) ≡ l
unfolding little_number little_octets
little-octets-back [] h = refl
little-octets-back (x ∷ l) h =
    rw (whole (little_number l) x (h 0), rest (little_number l) x (h 0), little-octets-back l (λ k. h (suc k)))

pub octets-of-number : (order : Order) (l : List ℕ) → Octets l → octets_of order (length l) (number_of order l) ≡ l
unfolding number_of octets_of
octets-of-number Little l h = little-octets-back l h
octets-of-number Big l h =
    ap (λ (n : ℕ). reverse (little_octets n (little_number (reverse l)))) (sym (length-reverse l))
    ∙ ap reverse (little-octets-back (reverse l) (octets-reverse l h))
    ∙ reverse-reverse l

-- a number of two halves below a base is below the base's square, and that fits where the base is at most 2 ^ 32
pub wide-small : (high low base : ℕ) → high < base → low < base → high * base + low < base * base
wide-small high low base h l =
    let m : (high + 1) * base ≤ base * base = mul-le-mul_right base (omega arith) in
    let d : (high + 1) * base ≡ high * base + base = add-mul high 1 base ∙ ap (λ (k : ℕ). high * base + k) (one-mul base) in
    omega arith

pub wide-base : (base : ℕ) → base ≤ 2 ^ 32 → base * base ≤ 2 ^ 64
wide-base base h = mul-le-mul h h

-- the halves of a number, read apart and put together
module _ (v : List ℕ) (at n : ℕ) (order : Order) where
  joined : (x y r a b : ℕ) → at + (n + n) ≤ length v → Loaded v at n order a → Loaded v (at + n) n order b
      → (r ≡ x * 256 ^ n + y) × (r < 256 ^ n * 256 ^ n) → x * 256 ^ n + y ≡ halves order (256 ^ n) a b → Loaded v at (n + n) order r
  joined x y r a b h p q w e =
      record { value = w.0 ∙ e ∙ rw (p.value, q.value) (sym (number-halves v at n order h)); small = rw (pow-add 256 n n) w.1 }

  pub loaded-big : order ≡ Big → at + (n + n) ≤ length v → (a b r : ℕ) → Loaded v at n order a → Loaded v (at + n) n order b
      → (r ≡ a * 256 ^ n + b) × (r < 256 ^ n * 256 ^ n) → Loaded v at (n + n) order r
  unfolding halves
  loaded-big e h a b r p q w = joined a b r a b h p q w (rw e)

  pub loaded-little : order ≡ Little → at + (n + n) ≤ length v → (a b r : ℕ) → Loaded v at n order a → Loaded v (at + n) n order b
      → (r ≡ b * 256 ^ n + a) × (r < 256 ^ n * 256 ^ n) → Loaded v at (n + n) order r
  unfolding halves
  loaded-little e h a b r p q w = joined b a r a b h p q w (rw e)

-- eight octets are a whole word already
extended-by : (x : ℕ) (t : Bool) → x < 2 ^ 64 → ltb (x * 2) (2 ^ 64) ≡ t → x ≡ cond t x (x + (2 ^ 64 - 2 ^ 64))
extended-by x true h e = refl
extended-by x false h e = omega arith

pub extended-eight : (x : ℕ) → x < 2 ^ 64 → x ≡ sign_extended 8 x
unfolding sign_extended
extended-eight x h = rw (mod-eq_of_lt h) (extended-by x _ h refl)

-- what is a multiple of 256 ^ n changes none of n octets
little-octets-beyond : (n x k : ℕ) → little_octets n (x + k * 256 ^ n) ≡ little_octets n x
unfolding little_octets
little-octets-beyond zero x k = refl
little-octets-beyond (suc n) x k =
    let p : k * 256 ^ suc n ≡ k * 256 ^ n * 256 = ap (λ (m : ℕ). k * m) (pow-suc 256 n) ∙ sym (mul_assoc k (256 ^ n) 256) in
    let r : (x + k * 256 ^ n * 256) % 256 ≡ x % 256 = omega arith in
    let q : (x + k * 256 ^ n * 256) / 256 ≡ x / 256 + k * 256 ^ n = omega arith in
    rw (p, r, q, little-octets-beyond n (x / 256) k)

-- so the last octets of a sign-extended number are the number's own
sign-octets : (size : Size) → 2 ^ 64 - 256 ^ octets size ≡ (256 ^ (8 - octets size) - 1) * 256 ^ octets size
sign-octets One = refl
sign-octets Two = refl
sign-octets Four = refl
sign-octets Eight = refl

little-extended : (size : Size) (x : ℕ) (t : Bool)
    → little_octets (octets size) (cond t x (x + (2 ^ 64 - 256 ^ octets size))) ≡ little_octets (octets size) x
little-extended size x true = refl
little-extended size x false = rw (sign-octets size) (little-octets-beyond (octets size) x (256 ^ (8 - octets size) - 1))

pub octets-extended : (order : Order) (size : Size) (x : ℕ) → x < 256 ^ octets size
    → octets_of order (octets size) (sign_extended (octets size) x) ≡ octets_of order (octets size) x
unfolding octets_of sign_extended
octets-extended order size x h = rw (mod-eq_of_lt h) (ap (in_order order) (little-extended size x (ltb (x * 2) (256 ^ octets size))))
