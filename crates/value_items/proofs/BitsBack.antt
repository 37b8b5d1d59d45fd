-- Items: signed numbers, floats and their patterns, and every item has its content's bits.
use mathlib.Core.Path.{◌≡◌, refl, sym, ap, subst⁻¹, ◌∙◌}
use mathlib.Core.Bool.{Bool, true, false, not, cond, false≢true}
use Prim.Native.Nat.{ℕ, suc, ◌-◌, ◌*◌, ◌%◌, ◌^◌, ◌<◌, ◌≤◌}
use native.Mathlib.Nat.{mod-eq_of_lt}
use native.Mathlib.Omega.{arith}
use borrow.Author.Tests.{lt-ltb, le-ltb, eqb-true, ne_eqb}
use lib.Dec.{T, ltb, eqb}
use lib.IntN.{pos, negsuc}
use lib.Ieee.{Float, nan, inf, fin, Format, binary32, binary64, hid, ones, top, is_nan, of_bits, nan_bits, div}
use lib.Ieee.Bits.{nan_bits_is, nan_bits_above}
use mir.Syntax.{w64}
use mir.Val.{to_z, sel}
use Rattle.choices.proofs.Choices.{chosen}
use Rattle.type_numbers.specs.Kinds.{float_kind, double_kind}
use Rattle.value_items.specs.declared.ItemValue.{ItemValue}
use Rattle.value_items.specs.declared.ItemValue.TheVariants.{Signed, Unsigned}
use Rattle.value_items.specs.Items.{signed_kind, signed_of, complement_of, single_of, double_of, item_of, bits_of}

-- the machine's reading of 64 bits as a signed number
pub machine-signed : (content : ℕ) → to_z w64 content ≡ signed_of content
machine-signed content = go (ltb content (2 ^ 63))
  where
    less_one : 2 ^ 64 - suc content ≡ 2 ^ 64 - 1 - content
    less_one = omega arith

    go : (b : Bool) → sel b (pos content) (negsuc (2 ^ 64 - suc content)) ≡ cond b (pos content) (negsuc (2 ^ 64 - 1 - content))
    go true = refl
    go false = ap negsuc less_one

-- both ways to a NaN: by its test, and by zero divided by zero
is-nan : (x : Float) → is_nan x ≡ true → x ≡ nan
unfolding is_nan
is-nan nan e = refl
is-nan (inf s) e = absurd (false≢true e)
is-nan (fin s m k) e = absurd (false≢true e)

zero_by_zero : (f : Format) → div f (of_bits f 0) (of_bits f 0) ≡ nan
unfolding div of_bits
zero_by_zero binary32 = refl
zero_by_zero binary64 = refl

-- a pattern above the infinity's, its sign left out, is a NaN's
pub above-infinity : (f : Format) (bits : ℕ) → ones f * hid f < bits % top f → div f (of_bits f 0) (of_bits f 0) ≡ of_bits f bits
above-infinity f bits h =
    zero_by_zero f ∙ sym (is-nan (of_bits f bits) (sym (nan_bits_is f bits) ∙ nan_bits_above f bits ∙ lt-ltb (ones f * hid f) (bits % top f) h))

-- any other is not
pub to-infinity : (f : Format) (bits : ℕ) → bits % top f ≤ ones f * hid f → T (not (nan_bits f bits))
to-infinity f bits h = rw (nan_bits_above f bits, le-ltb (ones f * hid f) (bits % top f) h) tt

-- the item of each kind
pub item-signed : (kind content : ℕ) → signed_kind kind ≡ true → item_of kind content ≡ Signed (signed_of content)
unfolding item_of
item-signed kind content e = rw e

pub item-single : (kind content : ℕ) → kind ≡ float_kind → item_of kind content ≡ single_of content
unfolding item_of
item-single kind content e = subst⁻¹ (λ (k : ℕ). item_of k content ≡ single_of content) e refl

pub item-double : (kind content : ℕ) → kind ≡ double_kind → item_of kind content ≡ double_of content
unfolding item_of
item-double kind content e = subst⁻¹ (λ (k : ℕ). item_of k content ≡ double_of content) e refl

pub item-other : (kind content : ℕ) → signed_kind kind ≡ false → (kind ≡ float_kind → ⊥) → (kind ≡ double_kind → ⊥) → item_of kind content ≡ Unsigned content
unfolding item_of
item-other kind content e s d = rw (e, ne_eqb kind float_kind s, ne_eqb kind double_kind d)

-- the two's complement of the number that content stands for is the content
signed_back : (content : ℕ) → content < 2 ^ 64 → complement_of (signed_of content) ≡ content
signed_back content h = go (ltb content (2 ^ 63))
  where
    turned : 2 ^ 64 - suc (2 ^ 64 - 1 - content) ≡ content
    turned = omega arith

    go : (b : Bool) → complement_of (cond b (pos content) (negsuc (2 ^ 64 - 1 - content))) ≡ content
    go true = refl
    go false = turned

-- an item has the content that it was made of, a single float's of 32 bits
pub bits_back : (kind content : ℕ) → content < 2 ^ 64 → (kind ≡ float_kind → content < 2 ^ 32) → bits_of (item_of kind content) ≡ content
unfolding item_of
bits_back kind content h g =
    chosen (λ (i : ItemValue). bits_of i ≡ content) (signed_kind kind) _ _ (λ e. signed_back content h)
    (λ e. chosen (λ (i : ItemValue). bits_of i ≡ content) (eqb kind float_kind) _ _ (λ s. mod-eq_of_lt (g (eqb-true kind float_kind s)))
    (λ s. chosen (λ (i : ItemValue). bits_of i ≡ content) (eqb kind double_kind) _ _ (λ d. refl) (λ d. refl)))
