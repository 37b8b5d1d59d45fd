-- An accepted reading's octets are those of its items, one after the other.
use Rattle.std.specs.Prelude.{Option, Some, None}
use mathlib.Core.Path.{◌≡◌, refl, sym, ap, subst, ◌∙◌}
use mathlib.Core.List.{List, [], ◌∷◌, ◌++◌, append_assoc, append-nil}
use mathlib.Core.Bool.{Bool, true, false, cond}
use Prim.Native.Nat.{ℕ, zero, suc, ◌+◌, ◌-◌, ◌^◌, ◌<◌, ◌≤◌}
use native.Mathlib.Omega.{arith}
use lib.Dec.{eqb, ltb, leb}
use lib.ListN.{length, take, drop, replicate, length-append}
use borrow.Author.Tests.{eqb-false, ne_eqb, ltb-true, ltb-false}
use Rattle.choices.proofs.Choices.{by-test, clash}
use Rattle.cdr.specs.declared.Order.{Order}
use Rattle.type_kinds.specs.Parts.{place_of}
use Rattle.cdr.specs.declared.Size.{Size}
use Rattle.cdr.specs.declared.Size.TheVariants.{Four}
use Rattle.cdr.specs.Align.{octets, gap}
use Rattle.cdr.specs.Number.{Octets, octets_of, sign_extended}
use Rattle.cdr.proofs.GapsBounded.{read-facts}
use Rattle.cdr.proofs.NumbersGivenBack.{number_small, octets-extended}
use Rattle.value_items.specs.Items.{signed_kind}
use Rattle.type_kinds.specs.declared.Form.TheVariants.{Plain}
use Rattle.type_kinds.specs.declared.Inner.{Inner}
use Rattle.type_kinds.specs.declared.Inner.TheVariants.{There}
use Rattle.type_kinds.specs.declared.Inert.{Inert}
use Rattle.type_kinds.specs.declared.Inert.TheVariants.{Leaf}
use Rattle.type_unions.specs.Shapes.Shape.{flat}
use Rattle.type_kinds.specs.Forms.{form_of}
use Rattle.cdr_text.specs.Text.{over_bound, ends_text}
use Rattle.value_meaning.specs.Sinks.{Source, Item, item, Piece, number, run, St, failed, on_read, taken, put_in, done, read_at, took_number}
use Rattle.value_meaning.specs.Sinks.{number_taken, octets_at, took_octets, octets_step}
use Rattle.value_meaning.specs.Visit.{Checked, size_of, content_of, leaf_done, leaf_at, enum_done, enum_at, text_done, text_got, text_at, count_done}
use Rattle.value_meaning.specs.Visit.{count_at, tag_done, tag_at, run_done, run_got, run_at}
use Rattle.value_meaning.specs.Reading.{Log, logging, levels, at_start, top_of, reading}
use Rattle.value_meaning.specs.Value.{item_no}
use Rattle.value_meaning.proofs.ByChoice.{by-choice}
use Rattle.value_meaning.proofs.ReadingKeeps.{Wholes, reads-wholes}
use Rattle.rewrite_meaning.specs.Written.{Target, wrote, written}
use Rattle.cdr_write.proofs.PiecesWritten.{writes-none, writes_more}
use Rattle.rewrite.specs.Inner.{width_of, head_of, tail_of, item_octets, up_to}
use Rattle.rewrite.proofs.ItemsWritten.{up_next}

-- a signed number's content and the number have the same last octets
content-by : (order : Order) (size : Size) (x : ℕ) (signed : Bool) → x < 256 ^ octets size
    → octets_of order (octets size) (cond signed (sign_extended (octets size) x) x) ≡ octets_of order (octets size) x
content-by order size x true h = octets-extended order size x h
content-by order size x false h = refl

content-octets : (order : Order) (kind x : ℕ) → x < 256 ^ octets (size_of kind)
    → octets_of order (octets (size_of kind)) (content_of kind x) ≡ octets_of order (octets (size_of kind)) x
unfolding content_of
content-octets order kind x h = content-by order (size_of kind) x (signed_kind kind) h

-- a primitive's number has its kind's size, and nothing stands behind it
module _ (kind : ℕ) (plain : form_of kind ≡ Plain) where
  not-enum : eqb kind 17 ≡ false
  unfolding form_of
  not-enum = ne_eqb kind 17 (λ e. let q = subst (λ (n : ℕ). form_of n ≡ Plain) e plain in clash cc)

  not-text : eqb kind 18 ≡ false
  unfolding form_of
  not-text = ne_eqb kind 18 (λ e. let q = subst (λ (n : ℕ). form_of n ≡ Plain) e plain in clash cc)

  not-count : eqb kind 19 ≡ false
  unfolding form_of
  not-count = ne_eqb kind 19 (λ e. let q = subst (λ (n : ℕ). form_of n ≡ Plain) e plain in clash cc)

  not-run : eqb kind 256 ≡ false
  unfolding form_of
  not-run = ne_eqb kind 256 (λ e. let q = subst (λ (n : ℕ). form_of n ≡ Plain) e plain in clash cc)

  plain-width : width_of kind ≡ size_of kind
  unfolding width_of
  plain-width = rw (not-enum, not-text, not-count, not-run)

  plain-head : (content : ℕ) → head_of kind content ≡ content
  unfolding head_of
  plain-head content = rw not-text

  plain-tail : (content : ℕ) → tail_of kind content ≡ 0
  unfolding tail_of
  plain-tail content = rw (not-text, not-run)

-- the items of a list, and one more
item-before : (is : List Item) (i : Item) (k : ℕ) → k < length is → item_no (is ++ (i ∷ [])) k ≡ item_no is k
unfolding item_no
item-before [] i k h = absurd (omega arith)
item-before (j ∷ is) i zero h = refl
item-before (j ∷ is) i (suc k) h = item-before is i k (omega arith)

item-last : (is : List Item) (i : Item) → item_no (is ++ (i ∷ [])) (length is) ≡ i
unfolding item_no
item-last [] i = refl
item-last (j ∷ is) i = item-last is i

pub up_same : (to : Target) (v : List ℕ) (f g : ℕ → Item) (n : ℕ) → ((k : ℕ) → k < n → f k ≡ g k) → up_to to v f n ≡ up_to to v g n
unfolding up_to
up_same to v f g zero h = refl
up_same to v f g (suc n) h =
    ap (λ (i : Item). up_to to v f n ++ item_octets to v (length (up_to to v f n)) i) (h n (omega arith))
    ∙ ap (λ (l : List ℕ). l ++ item_octets to v (length l) (g n)) (up_same to v f g n (λ k l. h k (omega arith)))

-- octets taken of which nothing is told yet
writes-piece : (to : Target) (full : ℕ → Bool) (p : Piece) (next : ℕ) (s : St Log) → written to (taken (logging full) p next s) ≡ wrote to (written to s) p
unfolding taken
writes-piece to full p next s = writes_more to [] s.kept.pieces p

module _ (to : Target) (full : ℕ → Bool) (x : Source) (ok : Octets x.octets) where
  abbrev v : List ℕ
  v = x.octets

  -- what was taken is what the items are written as, and all they tell of stands in the value
  pub record Told (s : St Log) : Type 0 where
    pub octets : written to s ≡ up_to to v (item_no s.kept.items) (length s.kept.items)
    pub inside : (k : ℕ) → k < length s.kept.items
        → (item_no s.kept.items k).place + tail_of (item_no s.kept.items k).kind (item_no s.kept.items k).content ≤ length v

  -- unless something is refused
  abbrev Tells : St Log → Type 0
  Tells s = s.fault ≡ 0 → Told s

  -- an item is put behind what was told
  told_more : (s r : St Log) (i : Item) → r.kept.items ≡ s.kept.items → written to r ≡ written to s ++ item_octets to v (length (written to s)) i
      → i.place + tail_of i.kind i.content ≤ length v → Told s → Told (put_in (logging full) i r)
  told_more s r i same more fits h =
      let is : List Item = s.kept.items in
      let n : length (is ++ (i ∷ [])) ≡ length is + 1 = length-append is (i ∷ []) in
      let up : up_to to v (item_no (is ++ (i ∷ []))) (length is) ≡ written to s =
      up_same to v (item_no (is ++ (i ∷ []))) (item_no is) (length is) (item-before is i) ∙ sym h.octets in
      record {
        octets = more
            ∙ ap (λ (l : List ℕ). l ++ item_octets to v (length l) i) (sym up)
            ∙ ap
            (λ (j : Item). up_to to v (item_no (is ++ (i ∷ []))) (length is) ++ item_octets to v
            (length (up_to to v (item_no (is ++ (i ∷ []))) (length is))) j)
            (sym (item-last is i))
            ∙ sym (up_next to v (item_no (is ++ (i ∷ []))) (length is))
            ∙ ap (up_to to v (item_no (is ++ (i ∷ [])))) (sym n)
            ∙ ap (λ (l : List Item). up_to to v (item_no (l ++ (i ∷ []))) (length (l ++ (i ∷ [])))) (sym same);
        inside = subst
            (λ (l : List Item). (k : ℕ) → k < length (l ++ (i ∷ []))
            → (item_no (l ++ (i ∷ [])) k).place + tail_of (item_no (l ++ (i ∷ [])) k).kind (item_no (l ++ (i ∷ [])) k).content ≤ length v)
            (sym same)
            (λ k l. by-test (ltb k (length is))
            (λ t. subst (λ (j : Item). j.place + tail_of j.kind j.content ≤ length v) (sym (item-before is i k (ltb-true _ _ t)))
            (h.inside k (ltb-true _ _ t)))
            (λ t. let f = ltb-false k (length is) t in let e : length is ≡ k = omega arith in
            subst (λ (j : Item). j.place + tail_of j.kind j.content ≤ length v) (sym (ap (item_no (is ++ (i ∷ []))) (sym e) ∙ item-last is i)) fits));
      }

  -- a refusal tells nothing
  refused : (n : ℕ) (s : St Log) → 0 < n → Tells (failed n s)
  refused n s h e = absurd (omega arith)

  finished : (i : Item) (r : St Log) → Tells (put_in (logging full) i r) → Tells (done (logging full) i r)
  unfolding done
  finished i r h = by-choice Tells (full (length r.kept.items)) (λ t. refused 56 r (omega arith)) (λ t. h)

  -- a number that is an item
  number-octets : (out : List ℕ) (z : Size) (kind p content n before : ℕ) → width_of kind ≡ z → tail_of kind content ≡ 0
      → octets_of to.order (octets z) (head_of kind content) ≡ octets_of to.order (octets z) n
      → wrote to out (number before p (octets z) n) ≡ out ++ item_octets to v (length out) (item kind p content)
  unfolding wrote
  number-octets out z kind p content n before w t e =
      let zeros : List ℕ = replicate (gap (to.start.0 + length out) (octets z)) 0 in
      ap (λ (l : List ℕ). out ++ (zeros ++ l)) (sym e ∙ sym (append-nil (octets_of to.order (octets z) (head_of kind content))))
      ∙ ap (λ (m : ℕ). out ++ (zeros ++ (octets_of to.order (octets z) (head_of kind content) ++ take m (drop p v)))) (sym t)
      ∙ ap
      (λ (y : Size). out ++
      (replicate (gap (to.start.0 + length out) (octets y)) 0 ++
      (octets_of to.order (octets y) (head_of kind content) ++ take (tail_of kind content) (drop p v))))
      (sym w)

  -- a length, and the octets behind it
  tail-octets : (out : List ℕ) (kind p content n before place : ℕ) → width_of kind ≡ Four → head_of kind content ≡ n → tail_of kind content ≡ n
      → wrote to (wrote to out (number before place 4 n)) (run p (take n (drop p v))) ≡ out ++ item_octets to v (length out) (item kind p content)
  unfolding wrote
  tail-octets out kind p content n before place w e t =
      let zeros : List ℕ = replicate (gap (to.start.0 + length out) 4) 0 in
      let head : List ℕ = octets_of to.order 4 n in
      append_assoc out (zeros ++ head) (take n (drop p v))
      ∙ ap (λ (l : List ℕ). out ++ l) (append_assoc zeros head (take n (drop p v)))
      ∙ ap (λ (m : ℕ). out ++ (zeros ++ (octets_of to.order 4 m ++ take n (drop p v)))) (sym e)
      ∙ ap (λ (m : ℕ). out ++ (zeros ++ (octets_of to.order 4 (head_of kind content) ++ take m (drop p v)))) (sym t)
      ∙ ap
      (λ (y : Size). out ++
      (replicate (gap (to.start.0 + length out) (octets y)) 0 ++
      (octets_of to.order (octets y) (head_of kind content) ++ take (tail_of kind content) (drop p v))))
      (sym w)

  module _ (s : St Log) (h : Tells s) where
    -- what follows a number, or its lack
    read-tells : (z : Size) (f : ℕ → ℕ → St Log → St Log)
        → ((p n : ℕ) → read_at (logging full) x z s ≡ Some (p, n) → Tells (f p n (took_number (logging full) z p n s)))
        → (r : Option (ℕ × ℕ)) → read_at (logging full) x z s ≡ r → Tells (on_read r s (λ p n. f p n (took_number (logging full) z p n s)))
    read-tells z f g (Some (p, n)) e = g p n e
    read-tells z f g None e = refused 50 s (omega arith)

    number-tells : (z : Size) (f : ℕ → ℕ → St Log → St Log)
        → ((p n : ℕ) → read_at (logging full) x z s ≡ Some (p, n) → Tells (f p n (took_number (logging full) z p n s)))
        → Tells (number_taken (logging full) x z f s)
    unfolding number_taken
    number-tells z f g = read-tells z f g (read_at (logging full) x z s) refl

    -- a number that is an item of its own
    alone-tells : (z : Size) (kind content p n : ℕ) → read_at (logging full) x z s ≡ Some (p, n) → width_of kind ≡ z → tail_of kind content ≡ 0
        → octets_of to.order (octets z) (head_of kind content) ≡ octets_of to.order (octets z) n
        → Tells (done (logging full) (item kind p content) (took_number (logging full) z p n s))
    unfolding taken
    alone-tells z kind content p n e w t o =
        let r = read-facts v x.start s.at z x.order p n e in
        let fits : p + tail_of kind content ≤ length v = let f = r.fits in omega arith in
        finished (item kind p content) (took_number (logging full) z p n s)
        (λ y. told_more s (took_number (logging full) z p n s) (item kind p content) refl
        (writes-piece to full (number (p - s.at) p (octets z) n) (p + octets z) s
        ∙ number-octets (written to s) z kind p content n (p - s.at) w t o)
        fits (h y))

    -- a length and its octets, which are an item
    tail-tells : (kind content p n : ℕ) → read_at (logging full) x Four s ≡ Some (p, n) → width_of kind ≡ Four → head_of kind content ≡ n → tail_of kind content ≡ n
        → p + 4 + n ≤ length v
        → Tells (done (logging full) (item kind (p + 4) content) (took_octets (logging full) x n (took_number (logging full) Four p n s)))
    unfolding taken
    tail-tells kind content p n e w a t fits =
        let r : St Log = took_number (logging full) Four p n s in
        finished (item kind (p + 4) content) (took_octets (logging full) x n r)
        (λ y. told_more s (took_octets (logging full) x n r) (item kind (p + 4) content) refl
        (writes-piece to full (run (p + 4) (take n (drop (p + 4) v))) (p + 4 + n) r
        ∙ ap (λ (l : List ℕ). wrote to l (run (p + 4) (take n (drop (p + 4) v)))) (writes-piece to full (number (p - s.at) p 4 n) (p + 4) s)
        ∙ tail-octets (written to s) kind (p + 4) content n (p - s.at) p w a t)
        (let z : tail_of kind content ≡ n = t in omega arith) (h y))

    leaf-tells : (kind : ℕ) → form_of kind ≡ Plain → Tells (leaf_at (logging full) x kind s)
    unfolding leaf_at leaf_done
    leaf-tells kind plain =
        by-choice Tells (ltb kind 2) (λ _. h) (λ _. number-tells (size_of kind) (leaf_done (logging full) x kind) (λ p n e.
        by-choice Tells (eqb kind 8)
        (λ _. by-choice Tells (ltb 1 n) (λ _. refused 51 (took_number (logging full) (size_of kind) p n s) (omega arith))
        (λ _. alone-tells (size_of kind) kind n p n e (plain-width kind plain) (plain-tail kind plain n)
        (ap (octets_of to.order (octets (size_of kind))) (plain-head kind plain n))))
        (λ _. alone-tells (size_of kind) kind (content_of kind n) p n e (plain-width kind plain) (plain-tail kind plain (content_of kind n))
        (ap (octets_of to.order (octets (size_of kind))) (plain-head kind plain (content_of kind n))
        ∙ content-octets to.order kind n (small (size_of kind) p n e)))))
      where
        small : (z : Size) (p n : ℕ) → read_at (logging full) x z s ≡ Some (p, n) → n < 256 ^ octets z
        small z p n e =
            let r = read-facts v x.start s.at z x.order p n e in
            subst (λ (m : ℕ). m < 256 ^ octets z) (sym r.value) (number_small v p (octets z) x.order ok r.fits)

    enum_tells : (names : ℕ) → Tells (enum_at (logging full) x names s)
    unfolding enum_at enum_done width_of tail_of head_of
    enum_tells names =
        number-tells Four (enum_done (logging full) x names) (λ p n e.
        by-choice Tells (leb names n) (λ _. refused 52 (took_number (logging full) Four p n s) (omega arith)) (λ _. alone-tells Four 17 n p n e refl refl refl))

    count-tells : (bound : ℕ) → Tells (count_at (logging full) x bound s)
    unfolding count_at count_done width_of tail_of head_of
    count-tells bound =
        number-tells Four (count_done (logging full) x bound) (λ p n e.
        by-choice Tells (over_bound n bound) (λ _. refused 54 (took_number (logging full) Four p n s) (omega arith))
        (λ _. alone-tells Four 19 n p n e refl refl refl))

    tag-tells : Tells (tag_at (logging full) x s)
    unfolding tag_at tag_done width_of tail_of head_of size_of
    tag-tells = number-tells Four (tag_done (logging full) x) (λ p n e. alone-tells Four 5 n p n e refl refl refl)

    text-tells : (bound : ℕ) → Tells (text_at (logging full) x bound s)
    unfolding text_at text_got text_done octets_step width_of tail_of head_of taken
    text-tells bound =
        number-tells Four (text_got (logging full) x bound) (λ p n e.
        let r : St Log = took_number (logging full) Four p n s in
        by-choice Tells (eqb n 0) (λ _. refused 53 r (omega arith)) (λ z.
        by-choice Tells (over_bound (n - 1) bound) (λ _. refused 54 r (omega arith)) (λ _.
        by-choice Tells (ltb (length v) (p + 4 + n)) (λ _. refused 50 r (omega arith)) (λ t.
        by-choice Tells (ends_text (octets_at (logging full) x (p + 4) n))
        (λ _. let some = eqb-false n 0 z in let back : n - 1 + 1 ≡ n = omega arith in
        tail-tells 18 (n - 1) p n e refl back back (ltb-false (length v) (p + 4 + n) t))
        (λ _. refused 53 (took_octets (logging full) x n r) (omega arith))))))

    run-tells : Tells (run_at (logging full) x s)
    unfolding run_at run_got run_done octets_step width_of tail_of head_of taken
    run-tells =
        number-tells Four (run_got (logging full) x) (λ p n e.
        let r : St Log = took_number (logging full) Four p n s in
        by-choice Tells (ltb (length v) (p + 4 + n)) (λ _. refused 50 r (omega arith))
        (λ t. tail-tells 256 n p n e refl refl refl (ltb-false (length v) (p + 4 + n) t)))

  -- kinds without parameters are primitives
  abbrev Primitive : Inert → Type 0
  Primitive i = (kind : ℕ) → i ≡ Leaf kind → form_of kind ≡ Plain

  tells : Wholes (logging full) x Primitive Tells
  tells = record {
    id = λ kind e. clash cc;
    refused = λ s h. refused 55 s (omega arith);
    visited = λ s h e. record { octets = (h e).octets; inside = (h e).inside };
    leaf = λ kind g s h. leaf-tells s h kind (g kind refl);
    enum = λ names s h. enum_tells s h names;
    text = λ bound s h. text-tells s h bound;
    count = λ bound s h. count-tells s h bound;
    tag = tag-tells;
    run = run-tells;
  }

  nothing-told : Told at_start
  unfolding up_to
  nothing-told = record { octets = writes-none to; inside = λ k l. absurd (omega arith) }

  pub reading-told : (t : Checked) → ((y : Inner) (kind : ℕ) → t.look y ≡ flat (Leaf kind) → form_of kind ≡ Plain)
      → (reading full x t).fault ≡ 0 → Told (reading full x t)
  unfolding reading
  reading-told t plain =
      let leads : (y : Inner) (i : Inert) → t.look y ≡ flat i → Primitive i = λ y i e kind q. plain y kind (e ∙ ap flat q) in
      reads-wholes (logging full) x Primitive Tells tells t leads levels (top_of t) (leads (There (place_of 0))) at_start (λ e. nothing-told)
