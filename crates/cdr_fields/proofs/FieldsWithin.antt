-- A text or counted octets that were read: their length stands before them, and they end in the octets.
use Rattle.std.specs.Prelude.{Option, Some, None, Result, Ok, Err}
use mathlib.Core.Path.{◌≡◌, refl, sym, ap, subst}
use mathlib.Core.List.{List}
use Prim.Native.Nat.{ℕ, ◌+◌, ◌-◌, ◌≤◌}
use native.Mathlib.Omega.{arith}
use borrow.Author.Tests.{eqb-false, ltb-false}
use lib.Dec.{ltb, eqb}
use lib.ListN.{length, take, drop}
use Rattle.choices.proofs.Choices.{by-test, clash}
use Rattle.choices.proofs.Tuples.{ok-pair, some-pair}
use Rattle.cdr.specs.declared.Index.{Index}
use Rattle.cdr.specs.declared.Order.{Order}
use Rattle.cdr.specs.declared.Size.TheVariants.{Four}
use Rattle.cdr.specs.Align.{index_of}
use Rattle.cdr_fields.specs.declared.Extent.{Extent}
use Rattle.cdr_text.specs.Text.{text_of, over_bound, ends_text, run_of}
use Rattle.cdr_fields.specs.Encapsulation.{field_of, string_of, string_after, string_from, counted_of, counted_after, counted_from}
use Rattle.cdr_fields.specs.Extents.{extent, string_upto, string_at, counted_upto, counted_at}
use Rattle.cdr_text.proofs.TextEnds.{run-facts}
use Rattle.cdr_fields.specs.declared.StringFault.{StringFault}
use Rattle.cdr_text.specs.declared.TextFault.TheVariants.{Empty, Over, Short, Zeros}
use Rattle.cdr_text.specs.declared.TextFault.{TextFault}

text-chars : (v : List ℕ) (at n bound k : ℕ) → text_of v at n bound ≡ Ok k → (n ≡ k + 1) × (at + n ≤ length v)
unfolding text_of
text-chars v at n bound k e =
    by-test (eqb n 0) (λ z. let q : (Err Empty) ≡ Ok k = rw z at e in clash cc) (λ z.
    by-test (over_bound (n - 1) bound) (λ o. let q : (Err Over) ≡ Ok k = rw (z, o) at e in clash cc) (λ o.
    by-test (ltb (length v) (at + n)) (λ l. let q : (Err Short) ≡ Ok k = rw (z, o, l) at e in clash cc) (λ l.
    by-test (ends_text (take n (drop at v)))
    (λ t.
    let q : (Ok (n - 1)) ≡ Ok k = rw (z, o, l, t) at e in
    let w : n - 1 ≡ k = cc in
    (omega (arith, eqb-false n 0 z), ltb-false (length v) (at + n) l))
    (λ t. let q : (Err Zeros) ≡ Ok k = rw (z, o, l, t) at e in clash cc))))

module _ (s : List ℕ) (i : Index) (order : Order) (from : Index) (n : ℕ) where
  by-text : (m : ℕ) (next : Index) (t : Result ℕ TextFault) → text_of s next.0 m 0 ≡ t → field_of s i Four order ≡ Some (m, next) → string_from t next ≡ Ok (from, n)
      → (field_of s i Four order ≡ Some (n + 1, from)) × (from.0 + (n + 1) ≤ length s)
  by-text m next (Ok k) r f e =
      let parts = ok-pair e in
      let a : next ≡ from = cc in
      let b : k ≡ n = cc in
      let t = text-chars s next.0 m 0 k r in
      let c : m ≡ n + 1 = omega (arith, t.0) in
      (rw (f, a, c), subst (λ (x : Index). x.0 + (n + 1) ≤ length s) a (omega (arith, t.1)))
  by-text m next (Err fault) r f e = clash cc

  by_length : (f : Option (ℕ × Index)) → field_of s i Four order ≡ f → string_after s f ≡ Ok (from, n)
      → (field_of s i Four order ≡ Some (n + 1, from)) × (from.0 + (n + 1) ≤ length s)
  by_length (Some (m, next)) f e = by-text m next (text_of s next.0 m 0) refl f e
  by_length None f e = clash cc

  pub string-facts : string_of s i order ≡ Ok (from, n) → (field_of s i Four order ≡ Some (n + 1, from)) × (from.0 + (n + 1) ≤ length s)
  unfolding string_of
  string-facts e = by_length (field_of s i Four order) refl e

counted-by : (s : List ℕ) (i : Index) (order : Order) (f : Option (ℕ × Index)) → field_of s i Four order ≡ f → (from : Index) (n : ℕ) → counted_after s f ≡ Some (from, n)
    → (field_of s i Four order ≡ Some (n, from)) × (from.0 + n ≤ length s)
counted-by s i order None e from n q = clash cc
counted-by s i order (Some (m, next)) e from n q = by-run (run_of s next.0 m) refl q
  where
    by-run : (t : Option ℕ) → run_of s next.0 m ≡ t → counted_from t next m ≡ Some (from, n) → (field_of s i Four order ≡ Some (n, from)) × (from.0 + n ≤ length s)
    by-run (Some k) r q =
        let parts = some-pair q in
        let a : next ≡ from = cc in
        let c : m ≡ n = cc in
        let f = run-facts s next.0 m k r in
        (rw (e, a, c), subst (λ (x : Index). x.0 + n ≤ length s) a (subst (λ (x : ℕ). next.0 + x ≤ length s) c (omega (arith, f.0, f.1))))
    by-run None r q = clash cc

pub counted-facts : (s : List ℕ) (i : Index) (order : Order) (from : Index) (n : ℕ) → counted_of s i order ≡ Some (from, n)
    → (field_of s i Four order ≡ Some (n, from)) × (from.0 + n ≤ length s)
unfolding counted_of
counted-facts s i order from n e = counted-by s i order (field_of s i Four order) refl from n e

-- a text with the index after its final zero
module _ (v : List ℕ) (i : Index) (order : Order) where
  pub string-at-is : (s : Result (Index × ℕ) StringFault) → string_of v i order ≡ s → string_at v i order ≡ string_upto s
  unfolding string_at
  string-at-is s e = ap string_upto e

  abbrev Ends : Extent → Index → Type 0
  Ends part next = (next.0 ≡ part.from.0 + part.length + 1) × (next.0 ≤ length v)

  by-string : (s : Result (Index × ℕ) StringFault) → string_of v i order ≡ s → (part : Extent) (next : Index) → string_upto s ≡ Ok (part, next) → Ends part next
  by-string (Ok (from, n)) e part next q =
      let parts = ok-pair q in
      let a : extent from n ≡ part = cc in
      let b : index_of (from.0 + n + 1) ≡ next = cc in
      let within = (string-facts v i order from n e).1 in
      let after : next.0 ≡ from.0 + n + 1 = ap (λ (x : Index). x.0) (sym b) in
      subst (λ (x : Extent). Ends x next) a (omega (arith, after), omega (arith, after, within))
  by-string (Err fault) e part next q = clash cc

  pub string-at-inside : (part : Extent) (next : Index) → string_at v i order ≡ Ok (part, next) → Ends part next
  unfolding string_at
  string-at-inside part next q = by-string (string_of v i order) refl part next q

-- counted octets with the index after them
module _ (v : List ℕ) (i : Index) (order : Order) where
  pub counted-at-is : (c : Option (Index × ℕ)) → counted_of v i order ≡ c → counted_at v i order ≡ counted_upto c
  unfolding counted_at
  counted-at-is c e = ap counted_upto e

  -- their count stands before them, and the index after them is the one behind their extent, and in the octets
  pub record CountedRead (octets : Extent) (next : Index) : Type 0 where
    pub count : field_of v i Four order ≡ Some (octets.length, octets.from)
    pub ends : next.0 ≡ octets.from.0 + octets.length
    pub fits : next.0 ≤ length v

  by-counted : (c : Option (Index × ℕ)) → counted_of v i order ≡ c → (octets : Extent) (next : Index) → counted_upto c ≡ Some (octets, next) → CountedRead octets next
  by-counted (Some (from, n)) e octets next q =
      let parts = some-pair q in
      let a : extent from n ≡ octets = cc in
      let b : index_of (from.0 + n) ≡ next = cc in
      let f = counted-facts v i order from n e in
      let after : next.0 ≡ from.0 + n = ap (λ (x : Index). x.0) (sym b) in
      subst (λ (x : Extent). CountedRead x next) a (record { count = f.0; ends = omega (arith, after); fits = omega (arith, after, f.1) })
  by-counted None e octets next q = clash cc

  pub counted-at-facts : (octets : Extent) (next : Index) → counted_at v i order ≡ Some (octets, next) → CountedRead octets next
  unfolding counted_at
  counted-at-facts octets next q = by-counted (counted_of v i order) refl octets next q
