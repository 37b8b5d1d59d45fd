-- Items that are written one after the other: where each ends, and what stands in the output.
use Rattle.std.specs.Prelude.{Option}
use mathlib.Core.Path.{◌≡◌, refl, sym, ap, subst, ◌∙◌}
use mathlib.Core.List.{List, [], ◌++◌}
use Prim.Native.Nat.{ℕ, zero, suc, ◌+◌, ◌-◌, ◌*◌, ◌%◌, ◌<◌, ◌≤◌}
use native.Mathlib.Omega.{arith}
use native.Mathlib.Numerals.{add-one}
use native.Mathlib.Nat.{zero-add}
use lib.Dec.{eqb, leb}
use borrow.Author.Tests.{eq-eqb, eqb-true, eqb-false, leb-true, leb-false}
use Rattle.choices.proofs.Choices.{by-test}
use lib.ListN.{length, take, drop, set, replicate, length-append, length-replicate}
use lib.Seq.{sets, length-sets}
use Rattle.cdr.specs.declared.Index.{Index}
use Rattle.cdr.specs.declared.Size.{Size}
use Rattle.cdr.specs.declared.Size.TheVariants.{One}
use Rattle.value_meaning.specs.Visit.{size_of}
use Rattle.cdr.specs.Align.{octets, gap, behind_gap}
use Rattle.cdr.specs.Number.{octets_of}
use Rattle.cdr.proofs.GapsBounded.{octets-small, gap-small}
use Rattle.cdr.proofs.NumbersGivenBack.{octets-length}
use Rattle.cdr.specs.Limit.{octets_limit}
use Rattle.value_meaning.specs.Sinks.{Item, item}
use Rattle.cdr_write.specs.Write.{Stored}
use Rattle.cdr_write.proofs.BufferHolds.{sets-append, one-octet, stored-fits}
use Rattle.rewrite_meaning.specs.Written.{Target}
use Rattle.rewrite_meaning.proofs.SameOctets.{part_length}
use Rattle.rewrite.specs.Inner.{width_of, Octet, head_of, tail_of, item_end, item_octets, up_to, reach, row_of, Sized, Rows}

-- the next item, and how far it reaches
pub reach-next : (start : Index) (items : ℕ → Item) (k : ℕ) → reach start items (k + 1) ≡ item_end start (reach start items k) (items k).kind (items k).content
unfolding reach
reach-next start items k = ap (reach start items) (add-one k)

pub up_next : (to : Target) (v : List ℕ) (items : ℕ → Item) (k : ℕ)
    → up_to to v items (k + 1) ≡ up_to to v items k ++ item_octets to v (length (up_to to v items k)) (items k)
unfolding up_to
up_next to v items k = ap (up_to to v items) (add-one k)

pub reach-none : (start : Index) (items : ℕ → Item) → 0 ≡ reach start items 0
unfolding reach
reach-none start items = refl

pub up_none : (to : Target) (v : List ℕ) (items : ℕ → Item) (out : List ℕ) → out ≡ sets out 0 (up_to to v items 0)
unfolding up_to
up_none to v items out = refl

end-near : (start : Index) (at kind content : ℕ) → tail_of kind content ≤ octets_limit → item_end start at kind content ≤ at + 16400
end-near start at kind content h =
    let g = gap-small (width_of kind) (start.0 + at) in
    let o = octets-small (width_of kind) in
    omega arith

-- no item ends too far for a machine word
pub reach-small : (start : Index) (rows : List ℕ) (n : ℕ) → Sized rows n → (k : ℕ) → k ≤ n → reach start (row_of rows) k ≤ k * 16400
unfolding reach
reach-small start rows n s zero h = omega arith
reach-small start rows n s (suc k) h =
    let a = reach-small start rows n s k (omega arith) in
    let b = end-near start (reach start (row_of rows) k) (row_of rows k).kind (row_of rows k).content (s.tails k (omega arith)) in
    omega arith

-- a later item reaches further
pub reach-grows : (start : Index) (items : ℕ → Item) (k n : ℕ) → k ≤ n → reach start items k ≤ reach start items n
unfolding reach
reach-grows start items k zero h = let e : k ≡ 0 = omega arith in rw e (omega arith)
reach-grows start items k (suc n) h =
    by-test (leb k n)
    (λ t. let a = reach-grows start items k n (leb-true k n t) in omega arith)
    (λ f. let e : k ≡ suc n = let g = leb-false k n f in omega arith in subst (λ (j : ℕ). reach start items k ≤ reach start items j) e (omega arith))

-- an item has as many octets as it reaches over
item-length : (to : Target) (v : List ℕ) (at : ℕ) (i : Item) → i.place + tail_of i.kind i.content ≤ length v
    → at + length (item_octets to v at i) ≡ item_end to.start at i.kind i.content
item-length to v at i h =
    let g : ℕ = gap (to.start.0 + at) (octets (width_of i.kind)) in
    let zeros : List ℕ = replicate g 0 in
    let head : List ℕ = octets_of to.order (octets (width_of i.kind)) (head_of i.kind i.content) in
    let tail : List ℕ = take (tail_of i.kind i.content) (drop i.place v) in
    let a = length-append zeros (head ++ tail) in
    let b = length-append head tail in
    let c : length zeros ≡ g = length-replicate g 0 in
    let d = octets-length to.order (octets (width_of i.kind)) (head_of i.kind i.content) in
    let e : length tail ≡ tail_of i.kind i.content = part_length v i.place (tail_of i.kind i.content) h in
    omega arith

pub up-length : (to : Target) (v rows : List ℕ) (n : ℕ) → Rows v rows n → (k : ℕ) → k ≤ n
    → length (up_to to v (row_of rows) k) ≡ reach to.start (row_of rows) k
unfolding up_to reach
up-length to v rows n r zero h = refl
up-length to v rows n r (suc k) h =
    let before : List ℕ = up_to to v (row_of rows) k in
    length-append before (item_octets to v (length before) (row_of rows k))
    ∙ item-length to v (length before) (row_of rows k) (r.inside k (omega arith))
    ∙ ap (λ (j : ℕ). item_end to.start j (row_of rows k).kind (row_of rows k).content) (up-length to v rows n r k (omega arith))

-- an item in the output behind those before it
pub up-stored : (to : Target) (v rows : List ℕ) (n : ℕ) → Rows v rows n → (k : ℕ) → k < n → (out now later : List ℕ) (at : ℕ)
    → at ≡ reach to.start (row_of rows) k → now ≡ sets out 0 (up_to to v (row_of rows) k)
    → later ≡ sets now at (item_octets to v at (row_of rows k)) → later ≡ sets out 0 (up_to to v (row_of rows) (k + 1))
up-stored to v rows n r k h out now later at a e f =
    let before : List ℕ = up_to to v (row_of rows) k in
    let l : at ≡ length before = a ∙ sym (up-length to v rows n r k (omega arith)) in
    f
    ∙ ap (λ (j : ℕ). sets now j (item_octets to v j (row_of rows k))) l
    ∙ ap (λ (o : List ℕ). sets o (length before) (item_octets to v (length before) (row_of rows k))) e
    ∙ ap (λ (j : ℕ). sets (sets out 0 before) j (item_octets to v (length before) (row_of rows k))) (sym (zero-add (length before)))
    ∙ sym (sets-append out 0 before (item_octets to v (length before) (row_of rows k)))
    ∙ ap (sets out 0) (sym (up_next to v (row_of rows) k))

-- a gap, a number and octets as they are, one behind the other
item-stored : (zeros head tail out a b c : List ℕ) (at p end : ℕ) → p ≡ at + length zeros → end ≡ p + length head
    → a ≡ sets out at zeros → b ≡ sets a p head → c ≡ sets b end tail → c ≡ sets out at (zeros ++ (head ++ tail))
item-stored zeros head tail out a b c at p end e f g h i =
    i
    ∙ ap (λ (l : List ℕ). sets l end tail) h
    ∙ ap (λ (j : ℕ). sets (sets a p head) j tail) f
    ∙ sym (sets-append a p head tail)
    ∙ ap (λ (l : List ℕ). sets l p (head ++ tail)) g
    ∙ ap (λ (j : ℕ). sets (sets out at zeros) j (head ++ tail)) e
    ∙ sym (sets-append out at zeros (head ++ tail))

-- an item that was written, by what its writers say
module _ (to : Target) (v out : List ℕ) (at kind place content : ℕ) (z : Size) (p head : ℕ) (wide : z ≡ width_of kind)
    (starts : p ≡ behind_gap to.start at (octets z)) (heads : head ≡ head_of kind content) where
  pub item-fits : (room : ℕ) → item_end to.start at kind content ≤ room → p + octets z + tail_of kind content ≤ room
  item-fits room h = subst (λ (q : ℕ). q + octets z + tail_of kind content ≤ room) (sym starts)
      (subst (λ (y : Size). behind_gap to.start at (octets y) + octets y + tail_of kind content ≤ room) (sym wide) h)

  pub item-ends : (n tail : ℕ) → n ≡ octets z → tail ≡ tail_of kind content → p + n + tail ≡ item_end to.start at kind content
  item-ends n tail e f =
      ap (λ (q : ℕ). q + n + tail) starts
      ∙ ap (λ (m : ℕ). behind_gap to.start at (octets z) + m + tail) e
      ∙ ap (λ (m : ℕ). behind_gap to.start at (octets z) + octets z + m) f
      ∙ ap (λ (y : Size). behind_gap to.start at (octets y) + octets y + tail_of kind content) wide

  pub item-written : (room : item_end to.start at kind content ≤ length out) (tail end : ℕ) → tail ≡ tail_of kind content → end ≡ octets z
      → (r s : Option ℕ) (a b c : List ℕ) → Stored out at (replicate (p - at) 0) r a → Stored a p (octets_of to.order (octets z) head) s b
      → c ≡ sets b (p + end) (take tail (drop place v)) → c ≡ sets out at (item_octets to v at (item kind place content))
  item-written room tail end t e r s a b c f g h =
      let fits = item-fits (length out) room in
      let zeros = length-replicate {A = ℕ} (p - at) 0 in
      let long : length (octets_of to.order (octets z) head) ≡ octets z = octets-length to.order (octets z) head in
      let first : a ≡ sets out at (replicate (p - at) 0) = stored-fits out at (replicate (p - at) 0) r a (omega arith) f in
      let same : length a ≡ length out = ap length first ∙ length-sets out at (replicate (p - at) 0) in
      let second : b ≡ sets a p (octets_of to.order (octets z) head) = stored-fits a p (octets_of to.order (octets z) head) s b (omega arith) g in
      item-stored (replicate (p - at) 0) (octets_of to.order (octets z) head) (take tail (drop place v)) out a b c at p (p + end)
      (omega arith) (omega arith) first second h
      ∙ ap (λ (n : ℕ). sets out at (replicate n 0 ++ (octets_of to.order (octets z) head ++ take tail (drop place v)))) gap_is
      ∙ ap (λ (n : ℕ). sets out at (replicate (gap (to.start.0 + at) (octets z)) 0 ++ (octets_of to.order (octets z) n ++ take tail (drop place v)))) heads
      ∙ ap
      (λ (n : ℕ). sets out at
      (replicate (gap (to.start.0 + at) (octets z)) 0 ++
      (octets_of to.order (octets z) (head_of kind content) ++ take n (drop place v))))
      t
      ∙ ap
      (λ (y : Size). sets out at
      (replicate (gap (to.start.0 + at) (octets y)) 0 ++
      (octets_of to.order (octets y) (head_of kind content) ++ take (tail_of kind content) (drop place v))))
      wide
    where
      gap_is : p - at ≡ gap (to.start.0 + at) (octets z)
      gap_is = omega arith

  -- the octets behind the number fit too
  pub tail_written : (room : item_end to.start at kind content ≤ length out) → place + tail_of kind content ≤ length v → (tail end : ℕ)
      → tail ≡ tail_of kind content → end ≡ octets z → (r : Option ℕ) (b c : List ℕ) → length b ≡ length out
      → Stored b (p + end) (take (place + tail - place) (drop place v)) r c → c ≡ sets b (p + end) (take tail (drop place v))
  tail_written room inside tail end t e r b c same h =
      let n : place + tail - place ≡ tail = omega arith in
      let k : length (take (place + tail - place) (drop place v)) ≡ place + tail - place =
      part_length v place (place + tail - place) (omega arith) in
      let fits = item-fits (length out) room in
      stored-fits b (p + end) (take (place + tail - place) (drop place v)) r c (omega arith) h
      ∙ ap (λ (m : ℕ). sets b (p + end) (take m (drop place v))) n

-- no octets stand behind a number
pub no-tail : (l b : List ℕ) (at n : ℕ) → n ≡ 0 → b ≡ sets b at (take n l)
no-tail l b at n e = ap (λ (k : ℕ). sets b at (take k l)) (sym e)

-- a text has a final zero
-- a boolean, a char and an octet are an octet by themselves
octet-8 : Octet 8
unfolding width_of head_of tail_of size_of
octet-8 = record { width = refl; head = λ content. refl; tail = λ content. refl }

octet-9 : Octet 9
unfolding width_of head_of tail_of size_of
octet-9 = record { width = refl; head = λ content. refl; tail = λ content. refl }

octet-10 : Octet 10
unfolding width_of head_of tail_of size_of
octet-10 = record { width = refl; head = λ content. refl; tail = λ content. refl }

pub octet-kind : (kind : ℕ) → 8 ≤ kind → kind < 11 → Octet kind
octet-kind kind h l =
    by-test (eqb kind 8) (λ t. subst Octet (sym (eqb-true kind 8 t)) octet-8) (λ t.
    by-test (eqb kind 9) (λ u. subst Octet (sym (eqb-true kind 9 u)) octet-9) (λ u.
    let a = eqb-false kind 8 t in
    let b = eqb-false kind 9 u in
    subst Octet (ten kind h l a b) octet-10))
  where
    ten : (kind : ℕ) → 8 ≤ kind → kind < 11 → (kind ≡ 8 → ⊥) → (kind ≡ 9 → ⊥) → 10 ≡ kind
    ten kind h l a b = omega arith

no_gap : (i : ℕ) → gap i 1 ≡ 0
no_gap i = let g = gap-small One i in omega arith

pub octet-ends : (start : Index) (at kind content : ℕ) → Octet kind → at + 1 ≡ item_end start at kind content
octet-ends start at kind content o =
    let g = no_gap (start.0 + at) in
    let e : at + 1 ≡ behind_gap start at 1 + 1 + 0 = omega arith in
    e
    ∙ ap (λ (n : ℕ). behind_gap start at 1 + 1 + n) (sym (o.tail content))
    ∙ ap (λ (z : Size). behind_gap start at (octets z) + octets z + tail_of kind content) (sym o.width)

pub octet-octets : (to : Target) (v out : List ℕ) (at kind place content : ℕ) → Octet kind
    → set out at (content % 256) ≡ sets out at (item_octets to v at (item kind place content))
octet-octets to v out at kind place content o =
    ap (sets out at)
    (ap (λ (l : List ℕ). l ++ []) (sym (one-octet to.order content))
    ∙ ap (λ (n : ℕ). replicate n 0 ++ (octets_of to.order 1 content ++ [])) (sym (no_gap (to.start.0 + at)))
    ∙ ap (λ (n : ℕ). replicate (gap (to.start.0 + at) 1) 0 ++ (octets_of to.order 1 n ++ [])) (sym (o.head content))
    ∙ ap (λ (n : ℕ). replicate (gap (to.start.0 + at) 1) 0 ++ (octets_of to.order 1 (head_of kind content) ++ take n (drop place v))) (sym (o.tail content))
    ∙ ap
    (λ (z : Size). replicate (gap (to.start.0 + at) (octets z)) 0 ++
    (octets_of to.order (octets z) (head_of kind content) ++ take (tail_of kind content) (drop place v)))
    (sym o.width))
