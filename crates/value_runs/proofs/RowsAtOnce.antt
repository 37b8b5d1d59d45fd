-- Visits of numbers that stand in a row: what one does, what all do that go into no table, and what all do that go into one.
use Rattle.std.specs.Prelude.{Some, None}
use Rattle.std.proofs.Common.{◌≡◌, ℕ, zero, suc, ◌+◌, ◌-◌, ◌*◌, ◌/◌, ◌%◌, ◌^◌, ◌<◌, ◌≤◌, Bool, true, false, cond, ◌&&◌, ltb, leb, List, length, get_or, sym, refl, ap, ◌∙◌, subst, arith, ltb-false, ltb-true, le-ltb, lt-ltb}
use mathlib.Core.Bool.{false≢true}
use borrow.Author.Tests.{lt-leb, eqb-true, eqb-false}
use lib.Dec.{eqb}
use Rattle.cdr.specs.declared.Index.{Index}
use Rattle.cdr.specs.declared.Order.{Order}
use Rattle.cdr.specs.declared.Size.{Size}
use Rattle.cdr.specs.declared.Size.TheVariants.{One, Two, Four, Eight}
use Rattle.cdr.specs.Align.{octets, behind_gap}
use Rattle.cdr.specs.Number.{number_at, read_of}
use Rattle.choices.proofs.Choices.{by-test, clash}
use Rattle.cdr.proofs.GapsBounded.{read_number, read-facts}
use Rattle.cdr.proofs.NumbersGivenBack.{number-one}
use Rattle.value_meaning.specs.Sinks.{item, number, St, st, and_then, repeats, begun, taken}
use Rattle.value_meaning.specs.Visit.{size_of, content_of}
use Rattle.value_meaning.proofs.ReadingCases as way
use Rattle.value_cursor.specs.declared.Mode.{Mode}
use Rattle.value_cursor.specs.declared.Cursor.{Cursor}
use Rattle.value_meaning.specs.Value.{room_in}
use Rattle.value_cursor.specs.Lent.{Lent, lent_of, set3, row_put}
use Rattle.value_cursor.specs.Walk.{sink_of, source_of, state_of, leaf_visit}
use Rattle.value_runs.specs.Inner.{Plain, Row, Into, Fits, OctetsInto, value_of}
use Rattle.value_leaves.proofs.ItemsInTable.{set3-long, row-put}
use Rattle.value_leaves.proofs.RepeatsLoop.{Going, going-none, going-all, going_more}

-- behind a number in a row stands the next one, without a gap
pub in_row : (z : Size) (start : Index) (at j : ℕ)
    → behind_gap start (behind_gap start at (octets z) + j * octets z) (octets z) ≡ behind_gap start at (octets z) + j * octets z
in_row One start at j = omega arith
in_row Two start at j = omega arith
in_row Four start at j = omega arith
in_row Eight start at j = omega arith

next_one : (z : Size) (j : ℕ) → suc j * octets z ≡ octets z + j * octets z
next_one One j = omega arith
next_one Two j = omega arith
next_one Four j = omega arith
next_one Eight j = omega arith

zero-octets : (p : ℕ) (z : Size) → p + 0 * octets z ≡ p
zero-octets p One = omega arith
zero-octets p Two = omega arith
zero-octets p Four = omega arith
zero-octets p Eight = omega arith

-- room for n items more is room for this one, and for the others after it
room-now : (b : Bool) (room items n : ℕ) → (b && ltb room (items + suc n)) ≡ false → (b && leb room items) ≡ false
room-now true room items n e = let h : items + suc n ≤ room = ltb-false room (items + suc n) e in lt-leb room items (omega arith)
room-now false room items n e = refl

room_next : (b : Bool) (room items n : ℕ) → (b && ltb room (items + suc n)) ≡ false → (b && ltb room ((items + 1) % 2 ^ 64 + n)) ≡ false
room_next true room items n e = let h : items + suc n ≤ room = ltb-false room (items + suc n) e in le-ltb room ((items + 1) % 2 ^ 64 + n) (omega arith)
room_next false room items n e = refl

pub room-left : (b : Bool) (room items n : ℕ) → b ≡ true → items ≤ room → ltb (room - items) n ≡ (b && ltb room (items + n))
room-left false room items n e h = absurd (false≢true e)
room-left true room items n e h =
    by-test (ltb (room - items) n)
    (λ a. let l : room - items < n = ltb-true (room - items) n a in a ∙ sym (lt-ltb room (items + n) (omega arith)))
    (λ a. let l : n ≤ room - items = ltb-false (room - items) n a in a ∙ sym (le-ltb room (items + n) (omega arith)))

-- the octets of few numbers, of the last of n numbers, and of all of them
pub few-octets : (z : Size) (n w : ℕ) → w ≡ octets z → n ≤ 16384 → n * w ≤ 131072
few-octets One n w e h = rw e (omega arith)
few-octets Two n w e h = rw e (omega arith)
few-octets Four n w e h = rw e (omega arith)
few-octets Eight n w e h = rw e (omega arith)

pub last_fits : (z : Size) (n p w l : ℕ) → w ≡ octets z → 0 < n → p + n * octets z ≤ l → p + (n - 1) * w + w ≤ l
last_fits One n p w l e h f = rw e (omega arith)
last_fits Two n p w l e h f = rw e (omega arith)
last_fits Four n p w l e h f = rw e (omega arith)
last_fits Eight n p w l e h f = rw e (omega arith)

pub fits_one : (z : Size) (n k p l : ℕ) → k < n → p + n * octets z ≤ l → p + k * octets z + octets z ≤ l
fits_one One n k p l h f = omega arith
fits_one Two n k p l h f = omega arith
fits_one Four n k p l h f = omega arith
fits_one Eight n k p l h f = omega arith

pub row-all : {v : List ℕ} {m : Mode} {kind : ℕ} {z : Size} {n p : ℕ} {c : Cursor} (w : ℕ) → w ≡ octets z → Row v m kind z n p c 1
    → n * w ≤ length v - p → Row v m kind z n p c n
row-all {v} {m} {kind} {z} {n} {p} {c} w e r h =
    let g : n * octets z ≤ length v - p = subst (λ (i : ℕ). n * i ≤ length v - p) e h in
    let o = next_one z 0 in
    let f = r.fits in
    record { plain = r.plain; sized = r.sized; place = r.place; fits = omega arith }

pub row-into : (m : Mode) (n : ℕ) (c : Cursor) (table : List ℕ) → m.fill ≡ true → m.first ≡ 0
    → (true && ltb (room_in table) (c.items + n)) ≡ false → Into m n c table
row-into m n c table f g e = record { fill = f; first = g; room = ltb-false (room_in table) (c.items + n) e }

pub row_first : {v : List ℕ} {m : Mode} {kind : ℕ} {z : Size} {n p x : ℕ} {c : Cursor} → Plain kind n c.fault → z ≡ size_of kind
    → read_of v m.start c.at z m.order ≡ Some (p, x) → Row v m kind z n p c 1
row_first {v} {m} {kind} {z} {n} {p} {x} {c} h e r =
    let f = read-facts v m.start c.at z m.order p x r in
    let o = next_one z 0 in
    let g = f.fits in
    record { plain = h; sized = e; place = f.place; fits = omega arith }

-- a number at an aligned place
pub value_there : (v : List ℕ) (start : Index) (at : ℕ) (z y : Size) (order : Order) → y ≡ z → at ≡ behind_gap start at (octets y)
    → at + octets y ≤ length v → value_of (read_of v start at z order) ≡ number_at v at (octets y) order
value_there v start at z y order same e h =
    ap (λ (i : Size). value_of (read_of v start at i order)) (sym same)
    ∙ ap value_of (read_number v start at y order (subst (λ (i : ℕ). i + octets y ≤ length v) e h))
    ∙ ap (λ (i : ℕ). number_at v i (octets y) order) (sym e)

-- the same by the octets that the code knows
pub fits-at : (z : Size) (n k p w l : ℕ) → w ≡ octets z → k < n → p + n * octets z ≤ l → p + k * w + w ≤ l
fits-at z n k p w l e h f = subst (λ (i : ℕ). p + k * i + i ≤ l) (sym e) (fits_one z n k p l h f)

pub fits_by : (z : Size) (n k p w l : ℕ) → w ≡ octets z → k < n → p + n * octets z ≤ l → p + k * w + octets z ≤ l
fits_by z n k p w l e h f = subst (λ (i : ℕ). p + k * i + octets z ≤ l) (sym e) (fits_one z n k p l h f)

pub all_fit : (z : Size) (n p w l : ℕ) → w ≡ octets z → p + n * octets z ≤ l → p + n * w ≤ l
all_fit z n p w l e f = subst (λ (i : ℕ). p + n * i ≤ l) (sym e) f

-- the kinds of one octet that need no test
pub record OctetKind (kind : ℕ) : Type 0 where
  pub sized : One ≡ size_of kind
  pub same : (x : ℕ) → content_of kind x ≡ x

pub char-kind : (kind : ℕ) → kind ≡ 9 → OctetKind kind
unfolding size_of content_of
char-kind kind e = record { sized = rw e; same = λ x. rw e }

pub octet-kind : (kind : ℕ) → kind ≡ 10 → OctetKind kind
unfolding size_of content_of
octet-kind kind e = record { sized = rw e; same = λ x. rw e }

pub octets-kind : (kind : ℕ) → 9 ≤ kind → kind < 11 → OctetKind kind
octets-kind kind h k =
    by-test (eqb kind 9) (λ e. char-kind kind (eqb-true kind 9 e)) (λ e. octet-kind kind (let z = eqb-false kind 9 e in omega arith))

-- a row of octets that has room
module _ {v : List ℕ} {m : Mode} {kind : ℕ} {z : Size} {n p : ℕ} {c : Cursor} (r : Row v m kind z n p c n) (o : OctetKind kind) where
  pub row_fits : (table : List ℕ) → (true && ltb (room_in table) (c.items + n)) ≡ false → Fits v n c table
  row_fits table e =
      let f : p + n * 1 ≤ length v = subst (λ (y : Size). p + n * octets y ≤ length v) (r.sized ∙ sym o.sized) r.fits in
      let g : p ≡ behind_gap m.start c.at 1
      = subst (λ (y : Size). p ≡ behind_gap m.start c.at (octets y)) (r.sized ∙ sym o.sized) r.place in
      let h : c.items + n ≤ room_in table = ltb-false (room_in table) (c.items + n) e in
      record { octets = omega arith; room = h }

  pub row-filled : m.fill ≡ true → m.first ≡ 0 → OctetsInto m kind n c
  row-filled f g = record { plain = r.plain; sized = o.sized; same = o.same; fill = f; first = g }

-- the same state, part by part
st-same : {a a' f l l' x x' y y' : ℕ} {t : List ℕ} → a ≡ a' → l ≡ l' → x ≡ x' → y ≡ y'
    → st a f l (lent_of x y t) ≡ st a' f l' (lent_of x' y' t)
st-same {a} {a'} {f} {l} {l'} {x} {x'} {y} {y'} {t} ea el ex ey =
    ap (λ (i : ℕ). st i f l (lent_of x y t)) ea
    ∙ ap (λ (i : ℕ). st a' f i (lent_of x y t)) el
    ∙ ap (λ (i : ℕ). st a' f l' (lent_of i y t)) ex
    ∙ ap (λ (i : ℕ). st a' f l' (lent_of x' i t)) ey

module _ (m : Mode) (v : List ℕ) (kind : ℕ) (z : Size) (big : 2 ≤ kind) (other : kind ≡ 8 → ⊥) (sized : z ≡ size_of kind) where
  abbrev value_at : ℕ → ℕ
  value_at p = number_at v p (octets z) m.order

  -- the table after a number at p, which is item i
  abbrev table_with : ℕ → ℕ → List ℕ → List ℕ
  table_with p i table = cond m.fill (row_put m.first i (item kind p (content_of kind (value_at p))) table) table

  -- one visit of a number that is there and has room
  pub visit-one : (p : ℕ) (s : St Lent) → p ≡ behind_gap m.start s.at (octets z) → p + octets z ≤ length v
      → (m.limited && leb (room_in s.kept.table) s.kept.items) ≡ false
      → leaf_visit m v kind s
      ≡ st (p + octets z) s.fault (value_at p)
      (lent_of ((s.kept.visits + 1) % 2 ^ 64) ((s.kept.items + 1) % 2 ^ 64) (table_with p s.kept.items s.kept.table))
  unfolding taken
  visit-one p s e f room =
      let r : read_of v m.start s.at z m.order ≡ Some (p, value_at p)
      = read_number v m.start s.at z m.order (subst (λ (q : ℕ). q + octets z ≤ length v) e f)
      ∙ ap (λ (q : ℕ). (Some (q, value_at q))) (sym e) in
      way.leaf-read (sink_of m) (source_of m v) kind z p (value_at p) (octets z) (begun (sink_of m) s) big sized refl r
      ∙ way.leaf-other (sink_of m) (source_of m v) kind p (value_at p)
      (taken (sink_of m) (number (p - s.at) p (octets z) (value_at p)) (p + octets z) (begun (sink_of m) s)) other
      ∙ way.done-room (sink_of m) (item kind p (content_of kind (value_at p)))
      (taken (sink_of m) (number (p - s.at) p (octets z) (value_at p)) (p + octets z) (begun (sink_of m) s)) room

  -- a row of visits that goes into no table
  module _ (dry : m.fill ≡ false) where
    visit-dry : (p : ℕ) (s : St Lent) → p ≡ behind_gap m.start s.at (octets z) → p + octets z ≤ length v
        → (m.limited && leb (room_in s.kept.table) s.kept.items) ≡ false
        → leaf_visit m v kind s
        ≡ st (p + octets z) s.fault (value_at p) (lent_of ((s.kept.visits + 1) % 2 ^ 64) ((s.kept.items + 1) % 2 ^ 64) s.kept.table)
    visit-dry p s e f room =
        visit-one p s e f room
        ∙ ap (λ (b : Bool). st (p + octets z) s.fault (value_at p) (lent_of ((s.kept.visits + 1) % 2 ^ 64) ((s.kept.items + 1) % 2 ^ 64)
        (cond b (row_put m.first s.kept.items (item kind p (content_of kind (value_at p))) s.kept.table) s.kept.table))) dry

    row-dry : (n p : ℕ) (s : St Lent) → s.fault ≡ 0 → p ≡ behind_gap m.start s.at (octets z) → p + suc n * octets z ≤ length v
        → (m.limited && ltb (room_in s.kept.table) (s.kept.items + suc n)) ≡ false
        → repeats (leaf_visit m v kind) (suc n) s
        ≡ st (p + suc n * octets z) s.fault (value_at (p + n * octets z))
        (lent_of ((s.kept.visits + suc n) % 2 ^ 64) ((s.kept.items + suc n) % 2 ^ 64) s.kept.table)
    unfolding repeats
    row-dry zero p s fine e f room =
        let o = next_one z 0 in
        let one = visit-dry p s e (omega arith) (room-now m.limited (room_in s.kept.table) s.kept.items 0 room) in
        way.goes_on (repeats (leaf_visit m v kind) 0) (leaf_visit m v kind s) _ (sym one) fine
        ∙ st-same (omega arith) (ap value_at (omega arith)) refl refl
    row-dry (suc n) p s fine e f room =
        let o = next_one z (suc n) in
        let o' = next_one z n in
        let q : p + octets z ≡ behind_gap m.start (p + octets z) (octets z)
        = subst (λ (i : ℕ). i + octets z ≡ behind_gap m.start (i + octets z) (octets z)) (sym e)
        (subst (λ (i : ℕ). behind_gap m.start s.at (octets z) + i ≡ behind_gap m.start (behind_gap m.start s.at (octets z) + i) (octets z))
        (let w = next_one z 0 in omega arith) (sym (in_row z m.start s.at 1))) in
        let one = visit-dry p s e (omega arith) (room-now m.limited (room_in s.kept.table) s.kept.items (suc n) room) in
        let s' : St Lent = st (p + octets z) s.fault (value_at p)
        (lent_of ((s.kept.visits + 1) % 2 ^ 64) ((s.kept.items + 1) % 2 ^ 64) s.kept.table) in
        way.goes_on (repeats (leaf_visit m v kind) (suc n)) (leaf_visit m v kind s) s' (sym one) fine
        ∙ row-dry n (p + octets z) s' fine q (omega arith) (room_next m.limited (room_in s.kept.table) s.kept.items (suc n) room)
        ∙ st-same (omega arith) (ap value_at (omega arith)) (omega arith) (omega arith)

  -- the last number of a row is there
  pub row_ends : (n p : ℕ) (c : Cursor) → Row v m kind z n p c n → (w : ℕ) → w ≡ octets z
      → read_of v m.start (p + (n - 1) * w) z m.order ≡ None → ⊥
  row_ends zero p c r w ew e = let h = r.plain.some in omega arith
  row_ends (suc n) p c r w ew e =
      let k : p + (suc n - 1) * w ≡ p + n * octets z = ap (λ (i : ℕ). p + (suc n - 1) * i) ew ∙ ap (λ (i : ℕ). p + i * octets z) (omega arith) in
      let a : behind_gap m.start (p + n * octets z) (octets z) ≡ p + n * octets z
      = subst (λ (i : ℕ). behind_gap m.start (i + n * octets z) (octets z) ≡ i + n * octets z) (sym r.place) (in_row z m.start c.at n) in
      let e' : read_of v m.start (p + n * octets z) z m.order ≡ None
      = subst (λ (i : ℕ). read_of v m.start i z m.order ≡ None) k e in
      let o = next_one z n in
      let f = r.fits in
      let there = read_number v m.start (p + n * octets z) z m.order (omega arith) in
      clash cc

  -- the cursor after such a row, by its last number
  pub row-passed : (n p : ℕ) (c : Cursor) → Row v m kind z n p c n → m.fill ≡ false
      → (w : ℕ) → w ≡ octets z → (q x : ℕ) → read_of v m.start (p + (n - 1) * w) z m.order ≡ Some (q, x)
      → (visits items : ℕ) → visits ≡ (c.visits + n) % 2 ^ 64 → items ≡ (c.items + n) % 2 ^ 64
      → (table : List ℕ) → (m.limited && ltb (room_in table) (c.items + n)) ≡ false
      → st (q + w) c.fault x (lent_of visits items table) ≡ repeats (leaf_visit m v kind) n (state_of c table)
  row-passed zero p c r dry w ew q x e visits items ev ei table room = absurd (let h = r.plain.some in omega arith)
  row-passed (suc n) p c r dry w ew q x e visits items ev ei table room =
      let k : p + (suc n - 1) * w ≡ p + n * octets z = ap (λ (i : ℕ). p + (suc n - 1) * i) ew ∙ ap (λ (i : ℕ). p + i * octets z) (omega arith) in
      let g = read-facts v m.start (p + (suc n - 1) * w) z m.order q x e in
      let a : behind_gap m.start (p + n * octets z) (octets z) ≡ p + n * octets z
      = subst (λ (i : ℕ). behind_gap m.start (i + n * octets z) (octets z) ≡ i + n * octets z) (sym r.place) (in_row z m.start c.at n) in
      let b : q ≡ p + n * octets z = g.place ∙ ap (λ (i : ℕ). behind_gap m.start i (octets z)) k ∙ a in
      let o = next_one z n in
      st-same (omega arith) (g.value ∙ ap value_at b) ev ei
      ∙ sym (row-dry dry n p (state_of c table) r.plain.fine r.place r.fits room)

-- octets that go into the table, of which k are done
room-some : (b : Bool) (room items : ℕ) → items < room → (b && leb room items) ≡ false
room-some true room items h = lt-leb room items h
room-some false room items h = refl

module _ (v : List ℕ) (kind n : ℕ) (c : Cursor) where
  abbrev octet_state : ℕ → ℕ → List ℕ → St Lent
  octet_state k last table = st (c.at + k) c.fault last (lent_of ((c.visits + k) % 2 ^ 64) (c.items + k) table)

  octet-visit : (m : Mode) → OctetsInto m kind n c → (k last : ℕ) (table : List ℕ) → c.at + k < length v → c.items + k < room_in table
      → length table < 2 ^ 64
      → leaf_visit m v kind (octet_state k last table)
      ≡ octet_state (k + 1) (get_or v (c.at + k) 0) (set3 table ((c.items + k) * 3) kind (c.at + k) (get_or v (c.at + k) 0))
  octet-visit m h k last table f room small =
      let one : number_at v (c.at + k) 1 m.order ≡ get_or v (c.at + k) 0 = number-one v (c.at + k) m.order f in
      let t : table_with m v kind One h.plain.primitive h.plain.other h.sized (c.at + k) (c.items + k) table
      ≡ set3 table ((c.items + k) * 3) kind (c.at + k) (get_or v (c.at + k) 0)
      = ap
      (λ (b : Bool). cond b
      (row_put m.first (c.items + k) (item kind (c.at + k) (content_of kind (number_at v (c.at + k) 1 m.order))) table) table)
      h.fill
      ∙ ap (λ (j : ℕ). row_put j (c.items + k) (item kind (c.at + k) (content_of kind (number_at v (c.at + k) 1 m.order))) table) h.first
      ∙ row-put 0 (c.items + k) (c.items + k) (item kind (c.at + k) (content_of kind (number_at v (c.at + k) 1 m.order))) table (omega arith) room
      ∙ ap (λ (y : ℕ). set3 table ((c.items + k) * 3) kind (c.at + k) y) (h.same (number_at v (c.at + k) 1 m.order) ∙ one) in
      visit-one m v kind One h.plain.primitive h.plain.other h.sized (c.at + k) (octet_state k last table) (omega arith) (omega arith)
      (room-some m.limited (room_in table) (c.items + k) room)
      ∙ ap (λ (l : List ℕ). st (c.at + k + 1) c.fault (number_at v (c.at + k) 1 m.order)
      (lent_of (((c.visits + k) % 2 ^ 64 + 1) % 2 ^ 64) ((c.items + k + 1) % 2 ^ 64) l)) t
      ∙ st-same (omega arith) one (omega arith) (omega arith)

  pub record Filling (table₀ : List ℕ) (k last : ℕ) (table : List ℕ) : Type 0 where
    pub few : k ≤ n
    pub long : length table ≡ length table₀
    pub going : (m : Mode) → OctetsInto m kind n c → Going (leaf_visit m v kind) n k (state_of c table₀) (octet_state k last table)

  module _ (table₀ : List ℕ) where
    pub filling-none : c.visits < 2 ^ 64 → Filling table₀ 0 c.last table₀
    filling-none h = record {
      few = omega arith;
      long = refl;
      going = λ m g. subst (Going (leaf_visit m v kind) n 0 (state_of c table₀)) (st-same (omega arith) refl (omega arith) (omega arith)) going-none;
    }

    pub filling-more : (k last x : ℕ) (table table' : List ℕ) → Filling table₀ k last table → Fits v n c table₀ → length table₀ < 2 ^ 64 → k < n
        → x ≡ get_or v (c.at + k) 0 → table' ≡ set3 table ((c.items + k) * 3) kind (c.at + k) x → Filling table₀ (k + 1) x table'
    filling-more k last x table table' i f small more ex et =
        let l : length table' ≡ length table = ap length et ∙ set3-long table ((c.items + k) * 3) kind (c.at + k) x in
        let g = i.long in
        let a = f.octets in
        let r : c.items + n ≤ room_in table = subst (λ (j : ℕ). c.items + n ≤ j / 3) (sym g) f.room in
        record {
          few = omega arith;
          long = l ∙ g;
          going = λ m h.
              let step : octet_state (k + 1) x table' ≡ leaf_visit m v kind (octet_state k last table)
              = ap (λ (y : List ℕ). octet_state (k + 1) x y) et
              ∙ ap (λ (y : ℕ). octet_state (k + 1) y (set3 table ((c.items + k) * 3) kind (c.at + k) y)) ex
              ∙ sym (octet-visit m h k last table (omega arith) (omega arith) (omega arith)) in
              going_more (i.going m h) more step l h.plain.fine;
        }

    pub filling-all : (k last visits : ℕ) (table : List ℕ) → Filling table₀ k last table → n ≤ k → visits ≡ (c.visits + n) % 2 ^ 64
        → (m : Mode) → OctetsInto m kind n c
        → st (c.at + n) c.fault last (lent_of visits (c.items + n) table) ≡ repeats (leaf_visit m v kind) n (state_of c table₀)
    filling-all k last visits table i h e m g =
        let f = i.few in
        let same : k ≡ n = omega arith in
        st-same (omega arith) refl (e ∙ ap (λ (j : ℕ). (c.visits + j) % 2 ^ 64) (sym same)) (omega arith) ∙ going-all (i.going m g) h

-- numbers in a row that go into the table, of which k are done
module _ (m : Mode) (v : List ℕ) (kind : ℕ) (z : Size) (n p : ℕ) (c : Cursor) where
  abbrev pub place_no : ℕ → ℕ
  place_no k = p + k * octets z

  abbrev pub value_no : ℕ → ℕ
  value_no k = number_at v (p + k * octets z) (octets z) m.order

  abbrev row_state : ℕ → ℕ → List ℕ → St Lent
  row_state k last table = st (p + k * octets z) c.fault last (lent_of ((c.visits + k) % 2 ^ 64) (c.items + k) table)

  abbrev first_state : List ℕ → St Lent
  first_state table = st p c.fault c.last (lent_of c.visits c.items table)

  pub place-in-row : Row v m kind z n p c n → (k : ℕ) → p + k * octets z ≡ behind_gap m.start (p + k * octets z) (octets z)
  place-in-row r k =
      subst (λ (i : ℕ). i + k * octets z ≡ behind_gap m.start (i + k * octets z) (octets z)) (sym r.place) (sym (in_row z m.start c.at k))

  pub place_at : Row v m kind z n p c n → (k w : ℕ) → w ≡ octets z → p + k * w ≡ behind_gap m.start (p + k * w) (octets z)
  place_at r k w e = subst (λ (i : ℕ). p + k * i ≡ behind_gap m.start (p + k * i) (octets z)) (sym e) (place-in-row r k)

  pub record Storing (table₀ : List ℕ) (k last : ℕ) (table : List ℕ) : Type 0 where
    pub few : k ≤ n
    pub long : length table ≡ length table₀
    pub going : Going (leaf_visit m v kind) n k (first_state table₀) (row_state k last table)

  module _ (r : Row v m kind z n p c n) (table₀ : List ℕ) (into : Into m n c table₀) where
    row-visit : (k last : ℕ) (table : List ℕ) → k < n → c.items + k < room_in table → length table < 2 ^ 64
        → leaf_visit m v kind (row_state k last table)
        ≡ row_state (k + 1) (value_no k) (set3 table ((c.items + k) * 3) kind (place_no k) (content_of kind (value_no k)))
    row-visit k last table more room small =
        let t : table_with m v kind z r.plain.primitive r.plain.other r.sized (place_no k) (c.items + k) table
        ≡ set3 table ((c.items + k) * 3) kind (place_no k) (content_of kind (value_no k))
        = ap (λ (b : Bool). cond b (row_put m.first (c.items + k) (item kind (place_no k) (content_of kind (value_no k))) table) table) into.fill
        ∙ ap (λ (j : ℕ). row_put j (c.items + k) (item kind (place_no k) (content_of kind (value_no k))) table) into.first
        ∙ row-put 0 (c.items + k) (c.items + k) (item kind (place_no k) (content_of kind (value_no k))) table (omega arith) room in
        let o = next_one z k in
        let o' : (k + 1) * octets z ≡ suc k * octets z = ap (λ (i : ℕ). i * octets z) (omega arith) in
        visit-one m v kind z r.plain.primitive r.plain.other r.sized (place_no k) (row_state k last table) (place-in-row r k)
        (fits_one z n k p (length v) more r.fits)
        (room-some m.limited (room_in table) (c.items + k) room)
        ∙ ap (λ (l : List ℕ). st (place_no k + octets z) c.fault (value_no k)
        (lent_of (((c.visits + k) % 2 ^ 64 + 1) % 2 ^ 64) ((c.items + k + 1) % 2 ^ 64) l)) t
        ∙ st-same (omega arith) refl (omega arith) (omega arith)

    pub storing-none : c.visits < 2 ^ 64 → Storing table₀ 0 c.last table₀
    storing-none h = record {
      few = omega arith;
      long = refl;
      going = subst (Going (leaf_visit m v kind) n 0 (first_state table₀)) (st-same (omega arith) refl (omega arith) (omega arith)) going-none;
    }

    pub storing-more : (k last w q x y : ℕ) (table table' : List ℕ) → Storing table₀ k last table → length table₀ < 2 ^ 64 → k < n
        → w ≡ octets z → q ≡ p + k * w → x ≡ number_at v q (octets z) m.order → y ≡ content_of kind x
        → table' ≡ set3 table ((c.items + k) * 3) kind q y → Storing table₀ (k + 1) x table'
    storing-more k last w q x y table table' i small more ew eq ex ey et =
        let l : length table' ≡ length table = ap length et ∙ set3-long table ((c.items + k) * 3) kind q y in
        let g = i.long in
        let room : c.items + n ≤ room_in table = subst (λ (j : ℕ). c.items + n ≤ j / 3) (sym g) into.room in
        let at : q ≡ place_no k = eq ∙ ap (λ (j : ℕ). p + k * j) ew in
        let value : x ≡ value_no k = ex ∙ ap (λ (j : ℕ). number_at v j (octets z) m.order) at in
        let step : row_state (k + 1) x table' ≡ leaf_visit m v kind (row_state k last table)
        = ap (row_state (k + 1) x) (et
        ∙ ap (λ (j : ℕ). set3 table ((c.items + k) * 3) kind j y) at
        ∙ ap (λ (j : ℕ). set3 table ((c.items + k) * 3) kind (place_no k) j) ey)
        ∙ ap (λ (j : ℕ). row_state (k + 1) j (set3 table ((c.items + k) * 3) kind (place_no k) (content_of kind j))) value
        ∙ sym (row-visit k last table more (omega arith) (omega arith)) in
        record { few = omega arith; long = l ∙ g; going = going_more i.going more step l r.plain.fine }

    -- a row starts the same behind its gap and before it
    first-same : (j : ℕ) → n ≡ suc j → repeats (leaf_visit m v kind) (suc j) (first_state table₀) ≡ repeats (leaf_visit m v kind) (suc j) (state_of c table₀)
    unfolding repeats
    first-same j e =
        let place : p ≡ behind_gap m.start p (octets z)
        = subst (λ (i : ℕ). i ≡ behind_gap m.start i (octets z)) (zero-octets p z) (place-in-row r 0) in
        let o = next_one z j in
        let f : p + suc j * octets z ≤ length v = subst (λ (i : ℕ). p + i * octets z ≤ length v) e r.fits in
        let g = into.room in
        let room = room-some m.limited (room_in table₀) c.items (omega arith) in
        let a = visit-one m v kind z r.plain.primitive r.plain.other r.sized p (first_state table₀) place (omega arith) room in
        let b = visit-one m v kind z r.plain.primitive r.plain.other r.sized p (state_of c table₀) r.place (omega arith) room in
        ap (λ (u : St Lent). and_then u (repeats (leaf_visit m v kind) j)) (a ∙ sym b)

    pub storing-all : (k last w visits : ℕ) (table : List ℕ) → Storing table₀ k last table → n ≤ k → w ≡ octets z
        → visits ≡ (c.visits + n) % 2 ^ 64
        → st (p + n * w) c.fault last (lent_of visits (c.items + n) table) ≡ repeats (leaf_visit m v kind) n (state_of c table₀)
    storing-all k last w visits table i h ew ev =
        let f = i.few in
        let some = r.plain.some in
        let same : n ≡ k = omega arith in
        let e : n ≡ suc (n - 1) = omega arith in
        st-same (ap (λ (j : ℕ). p + n * j) ew ∙ ap (λ (j : ℕ). p + j * octets z) same) refl
        (ev ∙ ap (λ (j : ℕ). (c.visits + j) % 2 ^ 64) same) (ap (λ (j : ℕ). c.items + j) same)
        ∙ going-all i.going h
        ∙ subst (λ (j : ℕ). repeats (leaf_visit m v kind) j (first_state table₀) ≡ repeats (leaf_visit m v kind) j (state_of c table₀)) (sym e)
        (first-same (n - 1) e)
