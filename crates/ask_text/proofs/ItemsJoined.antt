-- Items by their places, with the characters behind them.
use mathlib.Core.Path.{◌≡◌, refl, sym, ap}
use mathlib.Core.List.{List, [], ◌∷◌, ◌++◌, append_assoc}
use Prim.Native.Nat.{ℕ, suc, ◌+◌, ◌*◌, ◌/◌, ◌<◌, ◌≤◌}
use native.Mathlib.Numerals.{add-one}
use native.Mathlib.Omega.{arith}
use lib.Dec.{ltb}
use lib.ListN.{length, drop, length-append, length-drop}
use lib.Seq.{drop-cons, sets}
use borrow.Author.Tests.{ltb-true, ltb-false}
use Rattle.choices.proofs.Choices.{by-test}
use Rattle.choices.specs.Branch.{choose}
use Rattle.value_items.specs.Rows.{Item, item_rows}
use Rattle.decimals.specs.Decimal.{decimal}
use Rattle.decimals.specs.Puts.{Put}
use Rattle.decimals.proofs.DecimalIs.{decimal-most}
use Rattle.cdr_write.proofs.BufferHolds.{sets-append}
use Rattle.ask_text.specs.Items.{colon, hyphen, lf, item_from, items_of, item_text, item_separator, joined, items_text}
use Rattle.ask_text.specs.Inner.{behind_at}

items-length : (numbers : List ℕ) → length (items_of numbers) ≡ length numbers / 3
unfolding items_of
items-length [] = refl
items-length (kind ∷ []) = refl
items-length (kind ∷ place ∷ []) = refl
items-length (kind ∷ place ∷ content ∷ rest) = let e = items-length rest in omega arith

-- the items whose numbers stand one after the other are read back
pub items-flat : (is : List Item) → items_of (item_rows is) ≡ is
unfolding items_of item_rows
items-flat [] = refl
items-flat (i ∷ is) = ap (λ (js : List Item). i ∷ js) (items-flat is)

none : (is : List Item) → length is ≡ 0 → is ≡ []
none [] e = refl
none (i ∷ is) e = absurd (omega arith)

module _ (numbers : List ℕ) where
  items-next : (k : ℕ) → k < length numbers / 3
      → items_of (drop (k * 3) numbers) ≡ item_from numbers (k * 3) ∷ items_of (drop ((k + 1) * 3) numbers)
  unfolding items_of
  items-next k h =
      let e : suc (suc (suc (k * 3))) ≡ (k + 1) * 3 = omega arith in
      let f : suc (suc (k * 3)) ≡ k * 3 + 2 = omega arith in
      let l : k * 3 < length numbers = omega arith in
      let m : suc (k * 3) < length numbers = omega arith in
      let n : suc (suc (k * 3)) < length numbers = omega arith in
      rw (← e, ← f, add-one (k * 3), drop-cons numbers (k * 3) 0 l, drop-cons numbers (suc (k * 3)) 0 m, drop-cons numbers (suc (suc (k * 3))) 0 n)

  items-last : (k : ℕ) → length numbers / 3 ≤ k → items_of (drop (k * 3) numbers) ≡ []
  items-last k h =
      none (items_of (drop (k * 3) numbers)) (omega (arith, items-length (drop (k * 3) numbers), length-drop (k * 3) numbers))

  behind-next : (k : ℕ) → item_separator (items_of (drop (k * 3) numbers)) ≡ behind_at k (length numbers / 3)
  unfolding behind_at choose
  behind-next k =
      by-test (ltb k (length numbers / 3))
      (λ t. rw (t, items-next k (ltb-true _ _ t)))
      (λ t. rw (t, items-last k (ltb-false _ _ t)))

  -- what is left to write from an item on, by the next item, and at the end
  abbrev pub left_of : ℕ → List ℕ
  left_of k = joined (items_of (drop (k * 3) numbers))

  left-next : (k : ℕ) → k < length numbers / 3
      → left_of k ≡ (item_text (item_from numbers (k * 3)) ++ (behind_at (k + 1) (length numbers / 3) ∷ [])) ++ left_of (k + 1)
  unfolding joined
  left-next k h = rw (items-next k h, behind-next (k + 1), append_assoc)

  pub left-last : (k : ℕ) → length numbers / 3 ≤ k → left_of k ≡ []
  unfolding joined
  left-last k h = rw (items-last k h)

  pub left-length : (k : ℕ) → k < length numbers / 3 → length (left_of k) ≡ length (item_text (item_from numbers (k * 3))) + 1 + length (left_of (k + 1))
  left-length k h = rw (left-next k h, length-append, length-append)

  pub left-put : (k : ℕ) → k < length numbers / 3 → (out : List ℕ) (end b : ℕ) (next : ℕ) (m : List ℕ) → b ≡ behind_at (k + 1) (length numbers / 3)
      → Put out end (item_text (item_from numbers (k * 3)) ++ (b ∷ [])) next m
      → (next + length (left_of (k + 1)) ≡ end + length (left_of k)) × (sets m next (left_of (k + 1)) ≡ sets out end (left_of k))
  left-put k h out end b next m e p =
      let n : length (item_text (item_from numbers (k * 3)) ++ (b ∷ [])) ≡ length (item_text (item_from numbers (k * 3))) + 1 =
      length-append (item_text (item_from numbers (k * 3))) (b ∷ [])
      in (
        omega (arith, p.end, left-length k h),
        rw (p.contents, p.end, left-next k h, ← e)
            (sym (sets-append out end (item_text (item_from numbers (k * 3)) ++ (b ∷ [])) (left_of (k + 1)))),
      )

  -- the text of no items, and of some
  pub text-none : length numbers < 3 → items_text (items_of numbers) ≡ hyphen ∷ lf ∷ []
  text-none h = rw (none (items_of numbers) (omega (arith, items-length numbers)))

  pub text-some : 3 ≤ length numbers → items_text (items_of numbers) ≡ joined (items_of numbers)
  text-some h = some (items_of numbers) (omega (arith, items-length numbers))
    where
      some : (is : List Item) → 0 < length is → items_text is ≡ joined is
      some [] l = absurd (omega arith)
      some (i ∷ is) l = refl

-- an item's characters
pub item-length : (i : Item) → length (item_text i) ≡ length (decimal i.kind) + length (decimal i.place) + length (decimal i.content) + 2
unfolding item_text
item-length i = rw (length-append, length-append) (omega arith)

pub item-text : (i : Item) (b : ℕ)
    → (decimal i.kind ++ (colon ∷ [])) ++ ((decimal i.place ++ (colon ∷ [])) ++ (decimal i.content ++ (b ∷ []))) ≡ item_text i ++ (b ∷ [])
unfolding item_text
item-text i b = simp append_assoc

-- an item has at most 63 characters with the one behind it, and so have all that many times as much
item-most : (i : Item) → length (item_text i) ≤ 62
item-most i =
    omega (arith, item-length i, decimal-most 20 i.kind, decimal-most 20 i.place, decimal-most 20 i.content)

joined-most : (is : List Item) → length (joined is) ≤ length is * 63
unfolding joined
joined-most [] = omega arith
joined-most (i ∷ is) = rw length-append (omega (arith, item-most i, joined-most is))

pub items-most : (is : List Item) (n : ℕ) → length is ≤ n → 0 < n → length (items_text is) ≤ n * 63
items-most [] n h k = omega arith
items-most (i ∷ is) n h k = omega (arith, joined-most (i ∷ is))

-- a number and the character behind it
pub number-length : (x b : ℕ) → length (decimal x ++ (b ∷ [])) ≡ length (decimal x) + 1
number-length x b = length-append (decimal x) (b ∷ [])
