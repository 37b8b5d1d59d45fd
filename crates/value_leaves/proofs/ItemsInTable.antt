-- The readers' sink beside the log: the same places, refusals and visits, as many items, and those items in the table.
use Rattle.std.specs.Prelude.{Some}
use Rattle.std.proofs.Common.{◌≡◌, ℕ, zero, suc, ◌+◌, ◌-◌, ◌*◌, ◌/◌, ◌%◌, ◌^◌, ◌<◌, ◌≤◌, Bool, true, false, cond, ◌&&◌, ltb, leb, List, [], ◌∷◌, ◌++◌, length, take, drop, sym, refl, ap, ◌∙◌, subst, arith, length-append, length-set, le-ltb, lt-ltb, le-leb}
use lib.Seq.{sets}
use borrow.Author.Tests.{lt-leb}
use Rattle.cdr.specs.Number.{read_of}
use Rattle.value_meaning.specs.Sinks.{Source, Item, item, St, st, taken}
use Rattle.value_meaning.specs.Visit.{Checked}
use Rattle.value_meaning.specs.Reading.{Log, logging, reads, levels, at_start, top_of, reading}
use Rattle.value_meaning.specs.Value.{room_in, item_rows, item_no}
use Rattle.value_meaning.proofs.SideBySide.{Steps, reads-step}
use Rattle.value_cursor.specs.Lent.{Lent, lent_of, set3, row_put, lent_sink}

-- a table keeps its length

pub set3-long : (table : List ℕ) (j a b c : ℕ) → length (set3 table j a b c) ≡ length table
set3-long table j a b c = simp length-set

row-long : (first i : ℕ) (x : Item) (table : List ℕ) → length (row_put first i x table) ≡ length table
unfolding row_put
row-long first i x table = by_tests (ltb i first) (leb (room_in table) (i - first))
  where
    by_tests : (a b : Bool)
        → length (cond a table (cond b table (set3 table ((i - first) * 3) x.kind x.place x.content))) ≡ length table
    by_tests true b = refl
    by_tests false true = refl
    by_tests false false = set3-long table ((i - first) * 3) x.kind x.place x.content

-- a table after items from the number i on
unfoldable pub rows_from : ℕ → ℕ → List Item → List ℕ → List ℕ
rows_from first i [] table = table
rows_from first i (x ∷ xs) table = rows_from first (i + 1) xs (row_put first i x table)

rows_long : (first i : ℕ) (is : List Item) (table : List ℕ) → length (rows_from first i is table) ≡ length table
unfolding rows_from
rows_long first i [] table = refl
rows_long first i (x ∷ is) table = rows_long first (i + 1) is (row_put first i x table) ∙ row-long first i x table

-- one item more
rows_more : (first i : ℕ) (is : List Item) (x : Item) (table : List ℕ)
    → rows_from first i (is ++ (x ∷ [])) table ≡ row_put first (i + length is) x (rows_from first i is table)
unfolding rows_from
rows_more first i [] x table = ap (λ (n : ℕ). row_put first n x table) (omega arith)
rows_more first i (y ∷ is) x table =
    rows_more first (i + 1) is x (row_put first i y table)
    ∙ ap (λ (n : ℕ). row_put first n x (rows_from first (i + 1) is (row_put first i y table))) (omega arith)

module _ (fill : Bool) (first : ℕ) (table : List ℕ) where
  -- the table after the items of a log
  abbrev pub stored : List Item → List ℕ
  stored is = cond fill (rows_from first 0 is table) table

stored-long : (fill : Bool) (first : ℕ) (table : List ℕ) (is : List Item) → length (stored fill first table is) ≡ length table
stored-long true first table is = rows_long first 0 is table
stored-long false first table is = refl

stored_more : (fill : Bool) (first : ℕ) (table : List ℕ) (is : List Item) (x : Item)
    → cond fill (row_put first (length is) x (stored fill first table is)) (stored fill first table is)
    ≡ stored fill first table (is ++ (x ∷ []))
stored_more true first table is x =
    sym (rows_more first 0 is x table ∙ ap (λ (n : ℕ). row_put first n x (rows_from first 0 is table)) (omega arith))
stored_more false first table is x = refl

-- a machine word that does not run over
counts-on : (n m : ℕ) → n ≡ m → m + 1 < 2 ^ 64 → (n + 1) % 2 ^ 64 ≡ m + 1
counts-on n m e h = omega arith

-- visits and items are counted in machine words
pub record Small (s : St Log) : Type 0 where
  pub visits : s.kept.visits < 2 ^ 64
  pub items : length s.kept.items < 2 ^ 64

-- what the sink has beside the log
module _ (fill : Bool) (first : ℕ) (table : List ℕ) where
  pub record Beside (s : St Log) (s' : St Lent) : Type 0 where
    pub at : s'.at ≡ s.at
    pub fault : s'.fault ≡ s.fault
    pub last : s'.last ≡ s.last
    pub visits : s'.kept.visits ≡ s.kept.visits
    pub items : s'.kept.items ≡ length s.kept.items
    pub rows : s'.kept.table ≡ stored fill first table s.kept.items

-- the room of a table, where it counts
abbrev pub full_at : Bool → List ℕ → ℕ → Bool
full_at limited table n = limited && leb (room_in table) n

module _ (limited fill : Bool) (first : ℕ) (x : Source) (table : List ℕ) where
  beside : Steps (logging (full_at limited table)) (lent_sink limited fill first) x x Small (Beside fill first table) ◌≡◌
  unfolding taken
  beside = record {
    q-refl = λ p. refl;
    same-fault = λ s s' r. sym r.fault;
    same-last = λ s s' r. sym r.last;
    back-fail = λ n s h e. record { visits = e.visits; items = e.items };
    back-visit = λ s e. record { visits = let h = e.visits in omega arith; items = e.items };
    back-took = λ p next s e. record { visits = e.visits; items = e.items };
    back-put = λ i s e.
        let l = length-append s.kept.items (i ∷ []) in
        let h = e.items in
        record { visits = e.visits; items = omega arith };
    by-fail = λ n s s' h r. record { at = r.at; fault = refl; last = r.last; visits = r.visits; items = r.items; rows = r.rows };
    by-visit = λ s s' r e. record {
      at = r.at;
      fault = r.fault;
      last = r.last;
      visits = counts-on s'.kept.visits s.kept.visits r.visits e.visits;
      items = r.items;
      rows = r.rows;
    };
    same_full = λ i s s' r e.
        let l : length s'.kept.table ≡ length table = ap length r.rows ∙ stored-long fill first table s.kept.items in
        sym (ap (λ (n : ℕ). limited && leb (n / 3) s'.kept.items) l ∙ ap (full_at limited table) r.items);
    by-put = λ kind p p' n s s' q r b e.
        let l : length (s.kept.items ++ (item kind p n ∷ [])) ≡ length s.kept.items + 1
        = length-append s.kept.items (item kind p n ∷ []) in
        record {
          at = r.at;
          fault = r.fault;
          last = r.last;
          visits = r.visits;
          items = counts-on s'.kept.items (length s.kept.items) r.items (subst (λ (m : ℕ). m < 2 ^ 64) l e.items) ∙ sym l;
          rows = ap (λ (a : ℕ). cond fill (row_put first s'.kept.items (item kind a n) s'.kept.table) s'.kept.table) (sym q)
              ∙ ap (λ (m : ℕ). cond fill (row_put first m (item kind p n) s'.kept.table) s'.kept.table) r.items
              ∙ ap (λ (l : List ℕ). cond fill (row_put first (length s.kept.items) (item kind p n) l) l) r.rows
              ∙ stored_more fill first table s.kept.items (item kind p n);
        };
    by_number = λ size p n s s' r g e. record {
      second = p;
      read = subst (λ (a : ℕ). read_of x.octets x.start a size x.order ≡ Some (p, n)) (sym r.at) g;
      place = refl;
      then = record { at = refl; fault = r.fault; last = refl; visits = r.visits; items = r.items; rows = r.rows };
    };
    by-no-number = λ size s s' r g e. ap (λ (a : ℕ). read_of x.octets x.start a size x.order) r.at ∙ g;
    by-octets = λ n s s' r h e. record {
      fits = subst (λ (a : ℕ). a + n ≤ length x.octets) (sym r.at) h;
      these = ap (λ (a : ℕ). take n (drop a x.octets)) r.at;
      place = sym r.at;
      then = record { at = ap (λ (a : ℕ). a + n) r.at; fault = r.fault; last = r.last; visits = r.visits; items = r.items; rows = r.rows };
    };
    by-no-octets = λ n s s' r h e. subst (λ (a : ℕ). length x.octets < a + n) (sym r.at) h;
  }

  -- before the first octet
  starts : (c : Bool) → table ≡ cond c (rows_from first 0 [] table) table
  unfolding rows_from
  starts true = refl
  starts false = refl

  pub walked : (t : Checked) → Small (reading (full_at limited table) x t)
      → Beside fill first table (reading (full_at limited table) x t)
      (reads (lent_sink limited fill first) x t levels (top_of t) (st 0 0 0 (lent_of 0 0 table)))
  unfolding reading
  walked t e =
      (reads-step (logging (full_at limited table)) (lent_sink limited fill first) x x Small (Beside fill first table) ◌≡◌ beside t levels (top_of t)).both
      at_start (st 0 0 0 (lent_of 0 0 table))
      (record { at = refl; fault = refl; last = refl; visits = refl; items = refl; rows = starts fill }) e

-- item j from the first on goes into row j, where the table has room for it
pub row-put : (first i j : ℕ) (x : Item) (table : List ℕ) → i ≡ first + j → j < room_in table
    → row_put first i x table ≡ set3 table (j * 3) x.kind x.place x.content
unfolding row_put
row-put first i j x table e room =
    let d : i - first ≡ j = omega arith in
    let h : first ≤ i = omega arith in
    rw (le-ltb i first h, d, lt-leb (room_in table) j room)

-- an item before the first, and one that the table has no room for, leave it as it was
row_before : (first i : ℕ) (x : Item) (table : List ℕ) → i < first → row_put first i x table ≡ table
unfolding row_put
row_before first i x table h = rw (lt-ltb i first h)

row-behind : (first i : ℕ) (x : Item) (table : List ℕ) → first ≤ i → room_in table ≤ i - first → row_put first i x table ≡ table
unfolding row_put
row-behind first i x table h room = rw (le-ltb i first h, le-leb (room_in table) (i - first) room)

set3-sets : (table : List ℕ) (i : ℕ) (x : Item) (rest : List ℕ)
    → sets (set3 table (i * 3) x.kind x.place x.content) ((i + 1) * 3) rest
    ≡ sets table (i * 3) (x.kind ∷ x.place ∷ x.content ∷ rest)
set3-sets table i x rest =
    let a : i * 3 + 1 ≡ suc (i * 3) = omega arith in
    let b : i * 3 + 2 ≡ suc (suc (i * 3)) = omega arith in
    let c : (i + 1) * 3 ≡ suc (suc (suc (i * 3))) = omega arith in
    rw (c, a, b)

filled-from : (i : ℕ) (is : List Item) (table : List ℕ) → i + length is ≤ room_in table
    → rows_from 0 i is table ≡ sets table (i * 3) (item_rows is)
unfolding rows_from item_rows
filled-from i [] table h = refl
filled-from i (x ∷ is) table h =
    let row : List ℕ = set3 table (i * 3) x.kind x.place x.content in
    let put : row_put 0 i x table ≡ row = row-put 0 i i x table (omega arith) (omega arith) in
    let l = set3-long table (i * 3) x.kind x.place x.content in
    ap (rows_from 0 (i + 1) is) put ∙ filled-from (i + 1) is row (omega arith) ∙ set3-sets table i x (item_rows is)

-- a table with room for all items has them from its start
pub filled : (is : List Item) (table : List ℕ) → length is ≤ room_in table → rows_from 0 0 is table ≡ sets table 0 (item_rows is)
filled is table h = filled-from 0 is table (omega arith)

-- the row of an item
abbrev pub row : Item → List ℕ
row i = i.kind ∷ i.place ∷ i.content ∷ []

-- behind its one row a table takes no more
picked-past : (first i : ℕ) (is : List Item) (a b c : ℕ) → first < i → rows_from first i is (a ∷ b ∷ c ∷ []) ≡ (a ∷ b ∷ c ∷ [])
unfolding rows_from
picked-past first i [] a b c h = refl
picked-past first i (x ∷ is) a b c h =
    ap (rows_from first (i + 1) is) (row-behind first i x (a ∷ b ∷ c ∷ []) (omega arith) (omega arith))
    ∙ picked-past first (i + 1) is a b c (omega arith)

picked-from : (first i : ℕ) (is : List Item) (n a b c : ℕ) → first ≡ i + n → n < length is
    → rows_from first i is (a ∷ b ∷ c ∷ []) ≡ row (item_no is n)
unfolding rows_from item_no
picked-from first i [] n a b c e h = absurd (omega arith)
picked-from first i (x ∷ is) zero a b c e h =
    ap (rows_from first (i + 1) is) (row-put first i 0 x (a ∷ b ∷ c ∷ []) (omega arith) (omega arith))
    ∙ picked-past first (i + 1) is x.kind x.place x.content (omega arith)
picked-from first i (x ∷ is) (suc n) a b c e h =
    ap (rows_from first (i + 1) is) (row_before first i x (a ∷ b ∷ c ∷ []) (omega arith))
    ∙ picked-from first (i + 1) is n a b c (omega arith) (omega arith)

-- a table of one row, filled from item n on, has item n
pub picked : (n : ℕ) (is : List Item) → n < length is → rows_from n 0 is (0 ∷ 0 ∷ 0 ∷ []) ≡ row (item_no is n)
picked n is h = picked-from n 0 is n 0 0 0 (omega arith) h
