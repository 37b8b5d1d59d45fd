-- The digits of a number's octets, and how long the texts are.
use Rattle.std.specs.Prelude.{Option}
use mathlib.Core.Path.{◌≡◌, refl, sym, ap, subst, ◌∙◌}
use mathlib.Core.List.{List, [], ◌∷◌, ◌++◌, append_assoc}
use Prim.Native.Nat.{ℕ, ◌+◌, ◌-◌, ◌*◌, ◌^◌, ◌≤◌}
use native.Mathlib.Nat.{zero-add}
use native.Mathlib.Omega.{arith}
use types.Run.{OneOf, miss}
use denote.Enum.Declared.{tag_of}
use lib.Dec.{ltb}
use lib.ListN.{length, take, drop, replicate, length-append, length-take, length-drop, length-replicate, get_or-replicate}
use lib.Seq.{sets, sets-eq, drop-cons, take-append-add}
use Rattle.choices.proofs.Choices.{by-test}
use Rattle.choices.specs.Branch.{choose}
use Rattle.cdr.specs.declared.Order.{Order}
use Rattle.cdr.specs.declared.Order.TheVariants.{Big, Little}
use Rattle.cdr.specs.declared.Size.{Size}
use Rattle.cdr.specs.declared.Size.TheVariants.{One, Two, Four, Eight}
use Rattle.cdr.specs.Align.{octets}
use Rattle.cdr.specs.Number.{octets_of}
use Rattle.cdr.proofs.NumbersGivenBack.{octets-length}
use Rattle.decimals.specs.Decimal.{decimal}
use Rattle.decimals.specs.Puts.{Put}
use Rattle.decimals.proofs.CharactersPut.{take-written, put-taken, number-most}
use Rattle.decimals.proofs.DecimalIs.{decimal-most}
use Rattle.hexline.specs.Encoding.{octet_digits, encoded_into, Encodes}
use Rattle.hexline.proofs.Answers.{digits-fit}
use Rattle.hexline.proofs.OctetsOfDigits.{digits-length}
use Rattle.cdr_fields.specs.declared.Extent.{Extent}
use Rattle.profile.specs.declared.Profile.{Profile}
use Rattle.cdr_fields.specs.Extents.{extent_octets}
use Rattle.value_items.specs.Rows.{Item}
use Rattle.cdr_write.specs.Write.{Stored}
use Rattle.cdr_write.proofs.BufferHolds.{stored-fits}
use Rattle.ask_text.specs.declared.Reply.{Reply}
use Rattle.ask_text.specs.declared.Reply.TheVariants.{Typed, Read, Refused, Unread, Signed, Unsigned, Single, Double, Rewritten, Profiled, Component, NoQuestion}
use Rattle.ask_text.specs.Items.{lf, items_text}
use Rattle.ask_text.specs.Replies.{space, ok_text, signed_text, bits_text, octets_text, order_text, said_text, head_text, tail_text, reply_text}
use Rattle.ask_text.specs.contracts.Reply.{the_type as reply-type}
use Rattle.ask_text.proofs.ItemsJoined.{items-most}
use Rattle.ask_text.proofs.OctetsPut.{octets-most as octets-text-most}

pub octets-most : (size : Size) → octets size ≤ 8
octets-most One = omega arith
octets-most Two = omega arith
octets-most Four = omega arith
octets-most Eight = omega arith

bits-length : (n x : ℕ) → length (bits_text n x) ≡ n * 2
bits-length n x = digits-length (octets_of Big n x) ∙ ap (λ (k : ℕ). k * 2) (octets-length Big n x)

-- digits in memory that was filled with LFs have one behind them
ended : (xs : List ℕ) → length xs ≤ 16 → take (length xs + 1) (sets (replicate 17 lf) 0 xs) ≡ xs ++ (lf ∷ [])
ended xs h =
    let n : length (replicate 17 lf) ≡ 17 = length-replicate 17 lf in
    rw (sets-eq xs (replicate 17 lf) 0 (omega arith), zero-add (length xs))
    (take-append-add xs (drop (length xs) (replicate 17 lf)) 1
    ∙ rw (drop-cons (replicate 17 lf) (length xs) 0 (omega arith), get_or-replicate 17 (length xs) lf 0 (omega arith)))

module _ (size : Size) (x n : ℕ) (e : n ≡ octets size) (w : Option ℕ) (m : List ℕ) (s : Stored (replicate 8 0) 0 (octets_of Big (octets size) x) w m) where
  bits-octets : take n m ≡ octets_of Big (octets size) x
  bits-octets =
      let l = octets-length Big (octets size) x in
      let k = octets-most size in
      rw (stored-fits (replicate 8 0) 0 (octets_of Big (octets size) x) w m (omega arith) s)
      (take-written (replicate 8 0) (octets_of Big (octets size) x) n (e ∙ sym l) (omega arith))

  pub bits-digits : (r : Option ℕ) (d : List ℕ) → Encodes (take n m) (replicate 17 lf) r d → take (n * 2 + 1) d ≡ bits_text (octets size) x ++ (lf ∷ [])
  bits-digits r d t =
      let l = octets-length Big (octets size) x in
      let b = bits-length (octets size) x in
      let k = octets-most size in
      let c : n * 2 + 1 ≡ length (bits_text (octets size) x) + 1 = omega arith in
      let q : length (take n m) * 2 ≤ 17 = rw bits-octets (omega arith) in
      let p : r ≡ _ = t.answer ∙ digits-fit (take n m) 17 q in
      ap (take (n * 2 + 1)) (t.output ∙ ap (λ (a : Option ℕ). encoded_into a (take n m) (replicate 17 lf)) p ∙ ap (λ (v : List ℕ). sets (replicate 17 lf) 0 (octet_digits v)) bits-octets)
      ∙ ap (λ (j : ℕ). take j (sets (replicate 17 lf) 0 (bits_text (octets size) x))) c
      ∙ ended (bits_text (octets size) x) (omega arith)

pub bits-end : (size : Size) (x n : ℕ) → n ≡ octets size → length (bits_text (octets size) x ++ (lf ∷ [])) ≡ n * 2 + 1
bits-end size x n e = rw length-append (omega (arith, bits-length (octets size) x))

-- characters of a known number, stored where they fit
pub put-counted : (out : List ℕ) (at : ℕ) (xs ys : List ℕ) (k : ℕ) (w : Option ℕ) (last : List ℕ) → xs ≡ ys → length ys ≡ k → at + k ≤ length out
    → Stored out at xs w last → Put out at ys (at + k) last
put-counted out at xs ys k w last e n h s =
    let t : Stored out at ys w last = subst (λ (zs : List ℕ). Stored out at zs w last) e s in
    record { end = omega arith; contents = stored-fits out at ys w last (omega arith) t }

-- the text before the items fits 66 characters
signed-most : (x : ℕ) → length (signed_text x) ≤ 21
unfolding signed_text choose
signed-most x = by-test (ltb x (2 ^ 63)) (λ e. rw e (omega (arith, decimal-most 20 x))) (λ e. rw e (omega (arith, decimal-most 20 (2 ^ 64 - x))))

order-most : (order : Order) → length (order_text order) ≤ 6
order-most Big = omega arith
order-most Little = omega arith

pub order-end : (out : List ℕ) (order : Order) (end : ℕ) (last : List ℕ) → Put out 0 (ok_text (order_text order ++ (space ∷ []))) end last → end ≤ 10
order-end out order end last p = omega (arith, p.end, length-append (order_text order) (space ∷ []), order-most order)

pub head-most : (reply : Reply) → length (head_text reply) ≤ 66
head-most (Typed used kinds) = omega (arith, number-most used (space ∷ (decimal kinds ++ (lf ∷ []))), number-most kinds (lf ∷ []))
head-most (Read used visits count) =
    omega (
      arith,
      number-most used (space ∷ (decimal visits ++ (space ∷ (decimal count ++ (space ∷ []))))),
      number-most visits (space ∷ (decimal count ++ (space ∷ []))),
      number-most count (space ∷ []),
    )
head-most (Refused number) = omega (arith, number-most number (lf ∷ []))
head-most (Unread number visits) = omega (arith, number-most number (space ∷ (decimal visits ++ (lf ∷ []))), number-most visits (lf ∷ []))
head-most (Signed x) = omega (arith, length-append (signed_text x) (lf ∷ []), signed-most x)
head-most (Unsigned x) = omega (arith, number-most x (lf ∷ []))
head-most (Single x) = omega (arith, length-append (bits_text 4 x) (lf ∷ []), bits-length 4 x)
head-most (Double x) = omega (arith, length-append (bits_text 8 x) (lf ∷ []), bits-length 8 x)
head-most (Rewritten count) = omega (arith, number-most count (space ∷ []))
head-most (Profiled said body) =
    omega (
      arith,
      length-append (order_text said.head.order) (space ∷ (decimal said.head.major ++ (space ∷ (decimal said.head.minor ++ (space ∷ []))))),
      order-most said.head.order,
      number-most said.head.major (space ∷ (decimal said.head.minor ++ (space ∷ []))),
      number-most said.head.minor (space ∷ []),
    )
head-most (Component tag part body) = omega (arith, number-most tag (space ∷ []))
head-most NoQuestion = omega arith

-- where the text was put
module _ (reply : Reply) (out : List ℕ) (n : length out ≡ 66) (end : ℕ) (last : List ℕ) (p : Put out 0 (head_text reply) end last) where
  pub head-end : end ≤ 66
  head-end = omega (arith, p.end, head-most reply)

  pub head-is : take end last ≡ head_text reply
  head-is = put-taken p (omega (arith, head-end))

-- the whole text, of a value and of the others
nothing-behind : (xs : List ℕ) → xs ++ [] ≡ xs
nothing-behind [] = refl
nothing-behind (x ∷ xs) = ap (λ (ys : List ℕ). x ∷ ys) (nothing-behind xs)

pub read-text : (reply : Reply) (is : List Item) (xs : List ℕ) → OneOf (1 ∷ []) (tag_of reply-type reply)
    → head_text reply ++ items_text is ≡ reply_text reply is xs
unfolding reply_text
read-text (Typed used kinds) is xs k = absurd (miss (1 ∷ []) 0 tt k)
read-text (Read used visits count) is xs k = refl
read-text (Refused number) is xs k = absurd (miss (1 ∷ []) 2 tt k)
read-text (Unread number visits) is xs k = absurd (miss (1 ∷ []) 3 tt k)
read-text (Signed x) is xs k = absurd (miss (1 ∷ []) 4 tt k)
read-text (Unsigned x) is xs k = absurd (miss (1 ∷ []) 5 tt k)
read-text (Single x) is xs k = absurd (miss (1 ∷ []) 6 tt k)
read-text (Double x) is xs k = absurd (miss (1 ∷ []) 7 tt k)
read-text (Rewritten count) is xs k = absurd (miss (1 ∷ []) 8 tt k)
read-text (Profiled said body) is xs k = absurd (miss (1 ∷ []) 9 tt k)
read-text (Component tag part body) is xs k = absurd (miss (1 ∷ []) 10 tt k)
read-text NoQuestion is xs k = absurd (miss (1 ∷ []) 11 tt k)

pub rewritten-text : (reply : Reply) (is : List Item) (xs : List ℕ) → OneOf (8 ∷ []) (tag_of reply-type reply)
    → head_text reply ++ octets_text xs lf ≡ reply_text reply is xs
unfolding reply_text
rewritten-text (Typed used kinds) is xs k = absurd (miss (8 ∷ []) 0 tt k)
rewritten-text (Read used visits count) is xs k = absurd (miss (8 ∷ []) 1 tt k)
rewritten-text (Refused number) is xs k = absurd (miss (8 ∷ []) 2 tt k)
rewritten-text (Unread number visits) is xs k = absurd (miss (8 ∷ []) 3 tt k)
rewritten-text (Signed x) is xs k = absurd (miss (8 ∷ []) 4 tt k)
rewritten-text (Unsigned x) is xs k = absurd (miss (8 ∷ []) 5 tt k)
rewritten-text (Single x) is xs k = absurd (miss (8 ∷ []) 6 tt k)
rewritten-text (Double x) is xs k = absurd (miss (8 ∷ []) 7 tt k)
rewritten-text (Rewritten count) is xs k = refl
rewritten-text (Profiled said body) is xs k = absurd (miss (8 ∷ []) 9 tt k)
rewritten-text (Component tag part body) is xs k = absurd (miss (8 ∷ []) 10 tt k)
rewritten-text NoQuestion is xs k = absurd (miss (8 ∷ []) 11 tt k)

module _ (reply : Reply) (is : List Item) (xs : List ℕ) where
  pub profiled-text : (said : Profile) (body : ℕ) → reply ≡ Profiled said body → head_text reply ++ said_text said xs ≡ reply_text reply is xs
  unfolding reply_text
  profiled-text said body e = rw e

  pub component-text : (tag : ℕ) (part : Extent) (body : ℕ) → reply ≡ Component tag part body
      → head_text reply ++ octets_text (extent_octets xs part) lf ≡ reply_text reply is xs
  unfolding reply_text
  component-text tag part body e = rw e

pub other_text : (reply : Reply) (is : List Item) (xs : List ℕ) → OneOf (0 ∷ 2 ∷ 3 ∷ 4 ∷ 5 ∷ 6 ∷ 7 ∷ 11 ∷ []) (tag_of reply-type reply)
    → head_text reply ≡ reply_text reply is xs
unfolding reply_text
other_text (Read used visits count) is xs k = absurd (miss (0 ∷ 2 ∷ 3 ∷ 4 ∷ 5 ∷ 6 ∷ 7 ∷ 11 ∷ []) 1 tt k)
other_text (Rewritten count) is xs k = absurd (miss (0 ∷ 2 ∷ 3 ∷ 4 ∷ 5 ∷ 6 ∷ 7 ∷ 11 ∷ []) 8 tt k)
other_text (Profiled said body) is xs k = absurd (miss (0 ∷ 2 ∷ 3 ∷ 4 ∷ 5 ∷ 6 ∷ 7 ∷ 11 ∷ []) 9 tt k)
other_text (Component tag part body) is xs k = absurd (miss (0 ∷ 2 ∷ 3 ∷ 4 ∷ 5 ∷ 6 ∷ 7 ∷ 11 ∷ []) 10 tt k)
other_text (Typed used kinds) is xs k = sym (nothing-behind (head_text (Typed used kinds)))
other_text (Refused number) is xs k = sym (nothing-behind (head_text (Refused number)))
other_text (Unread number visits) is xs k = sym (nothing-behind (head_text (Unread number visits)))
other_text (Signed x) is xs k = sym (nothing-behind (head_text (Signed x)))
other_text (Unsigned x) is xs k = sym (nothing-behind (head_text (Unsigned x)))
other_text (Single x) is xs k = sym (nothing-behind (head_text (Single x)))
other_text (Double x) is xs k = sym (nothing-behind (head_text (Double x)))
other_text NoQuestion is xs k = refl

-- a part of a body has no more octets than the body
pub part-most : (xs : List ℕ) (part : Extent) → length (extent_octets xs part) ≤ length xs
unfolding extent_octets
part-most xs part = rw length-take (omega (arith, length-drop part.from.0 xs))

said-most : (said : Profile) (xs : List ℕ) → length (said_text said xs) ≤ length xs * 4 + 67
unfolding said_text
said-most said xs =
    let counts : List ℕ = decimal said.components ++ (space ∷ (decimal said.extra ++ (lf ∷ []))) in
    let key : List ℕ = octets_text (extent_octets xs said.key) space in
    rw length-append
    (omega (
      arith,
      octets-text-most (extent_octets xs said.host) space,
      part-most xs said.host,
      number-most said.port (space ∷ (key ++ counts)),
      length-append key counts,
      octets-text-most (extent_octets xs said.key) space,
      part-most xs said.key,
      number-most said.components (space ∷ (decimal said.extra ++ (lf ∷ []))),
      number-most said.extra (lf ∷ []),
    ))

-- the parts of a body's text, one behind the other
pub said-parts : (head : List ℕ) (said : Profile) (v : List ℕ) {host key port counts : List ℕ} → host ≡ extent_octets v said.host → key ≡ extent_octets v said.key
    → port ≡ decimal said.port ++ (space ∷ []) → counts ≡ decimal said.components ++ (space ∷ (decimal said.extra ++ (lf ∷ [])))
    → (head ++ octets_text host space) ++ ((port ++ octets_text key space) ++ counts) ≡ head ++ said_text said v
unfolding said_text
said-parts head said v e f g h = rw (e, f, g, h) (simp append_assoc)

-- no text is longer than 66 characters and 63 for each item, or four for each octet, of which a host and a key may each have all, and 67
tail-most : (reply : Reply) (is : List Item) (xs : List ℕ) (n : ℕ) → length is ≤ n → length xs * 4 + 67 ≤ n * 63
    → length (tail_text reply is xs) ≤ n * 63
tail-most (Read used visits count) is xs n h l = items-most is n h (omega arith)
tail-most (Rewritten count) is xs n h l = omega (arith, octets-text-most xs lf)
tail-most (Profiled said body) is xs n h l = omega (arith, said-most said xs)
tail-most (Component tag part body) is xs n h l = omega (arith, octets-text-most (extent_octets xs part) lf, part-most xs part)
tail-most (Typed used kinds) is xs n h l = omega arith
tail-most (Refused number) is xs n h l = omega arith
tail-most (Unread number visits) is xs n h l = omega arith
tail-most (Signed x) is xs n h l = omega arith
tail-most (Unsigned x) is xs n h l = omega arith
tail-most (Single x) is xs n h l = omega arith
tail-most (Double x) is xs n h l = omega arith
tail-most NoQuestion is xs n h l = omega arith

pub text-most : (reply : Reply) (is : List Item) (xs : List ℕ) (n : ℕ) → length is ≤ n → length xs * 4 + 67 ≤ n * 63
    → length (reply_text reply is xs) ≤ 66 + n * 63
unfolding reply_text
text-most reply is xs n h l = rw length-append (omega (arith, head-most reply, tail-most reply is xs n h l))
