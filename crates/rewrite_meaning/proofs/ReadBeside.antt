-- What was written of an accepted reading, read beside it: wherever the first reading is, the second stands behind what is written so far,
-- and was told the same but for places and gaps.
use Rattle.std.specs.Prelude.{Some}
use mathlib.Core.Path.{◌≡◌, refl, sym, ap, subst, ◌∙◌}
use mathlib.Core.List.{List, [], ◌∷◌, ◌++◌, map, append_assoc, append-nil, map-append}
use mathlib.Core.Bool.{Bool}
use Prim.Native.Nat.{ℕ, ◌+◌, ◌-◌, ◌<◌, ◌≤◌, ◌^◌}
use native.Mathlib.Omega.{arith}
use lib.ListN.{length, take, drop, length-append, length-map}
use Rattle.cdr.specs.declared.Size.{Size}
use Rattle.cdr.specs.Align.{octets, behind_gap}
use Rattle.cdr.specs.Number.{Octets, read_of}
use Rattle.cdr.proofs.GapsBounded.{read-facts}
use Rattle.cdr.proofs.NumbersGivenBack.{number_small}
use Rattle.value_meaning.specs.Sinks.{Source, source, item, Piece, number, run, St, taken, read_at, took_number, took_octets}
use Rattle.value_meaning.specs.Visit.{Checked}
use Rattle.value_meaning.specs.Reading.{Log, logging, levels, at_start, top_of, reading}
use Rattle.value_meaning.proofs.SideBySide.{Steps, SameNumber, SameOctets, reads-step}
use Rattle.rewrite_meaning.specs.Written.{Target, wrote, writes, written, unplaced, bare}
use Rattle.cdr_write.proofs.PiecesWritten.{writes_more, writes-none, number-length, middle, number-back}
use Rattle.rewrite_meaning.proofs.SameOctets.{part_length}

-- two lists that f maps to the same: as long as one another, and with one more each
module _ {A B : Type 0} (f : A → B) where
  same_length : (l l' : List A) → map f l ≡ map f l' → length l ≡ length l'
  same_length l l' e = sym (length-map l f) ∙ ap length e ∙ length-map l' f

  same_more : (l l' : List A) (a a' : A) → map f l ≡ map f l' → f a ≡ f a' → map f (l ++ (a ∷ [])) ≡ map f (l' ++ (a' ∷ []))
  same_more l l' a a' e h =
      map-append f l (a ∷ []) ∙ ap (λ r. r ++ (f a ∷ [])) e ∙ ap (λ b. map f l' ++ (b ∷ [])) h ∙ sym (map-append f l' (a' ∷ []))

-- nothing is refused, and all begins with what is written so far
record Begins (to : Target) (all : List ℕ) (s : St Log) : Type 0 where
  accepted : s.fault ≡ 0
  more : List ℕ
  whole : written to s ++ more ≡ all

-- the second reading stands behind what is written so far, and was told the same but for places and gaps
pub record Beside (to : Target) (s s' : St Log) : Type 0 where
  pub fault : s.fault ≡ s'.fault
  pub last : s.last ≡ s'.last
  pub at : s'.at ≡ length (written to s)
  pub visits : s.kept.visits ≡ s'.kept.visits
  pub items : map unplaced s.kept.items ≡ map unplaced s'.kept.items
  pub pieces : map bare s.kept.pieces ≡ map bare s'.kept.pieces

pub same_count : (to : Target) (s s' : St Log) → Beside to s s' → length s.kept.items ≡ length s'.kept.items
same_count to s s' r = same_length unplaced s.kept.items s'.kept.items r.items

module _ (full : ℕ → Bool) (x : Source) (to : Target) (all : List ℕ) (ok : Octets x.octets) where
  -- the octets that are read again
  abbrev y : Source
  y = source all to.order to.start

  -- a piece more is written behind
  wrote-more : (p : Piece) (s : St Log) (more : List ℕ) → writes to [] (s.kept.pieces ++ (p ∷ [])) ++ more ≡ all
      → wrote to (written to s) p ++ more ≡ all
  wrote-more p s more e = ap (λ (l : List ℕ). l ++ more) (sym (writes_more to [] s.kept.pieces p)) ∙ e

  begins-with : (p : Piece) (these : List ℕ) (next : ℕ) (s : St Log) → wrote to (written to s) p ≡ written to s ++ these
      → Begins to all (taken (logging full) p next s) → Begins to all s
  unfolding taken
  begins-with p these next s w e = record {
    accepted = e.accepted;
    more = these ++ e.more;
    whole =
        sym (append_assoc (written to s) these e.more) ∙ ap (λ (l : List ℕ). l ++ e.more) (sym w) ∙ wrote-more p s e.more e.whole;
  }

  begins-before : (p : Piece) (next : ℕ) (s : St Log) → Begins to all (taken (logging full) p next s) → Begins to all s
  unfolding wrote
  begins-before (number before place size value) next s e = begins-with (number before place size value) _ next s refl e
  begins-before (run place these) next s e = begins-with (run place these) these next s refl e

  number-beside : (size : Size) (p n : ℕ) (s s' : St Log) → Beside to s s' → read_at (logging full) x size s ≡ Some (p, n)
      → Begins to all (took_number (logging full) size p n s)
      → SameNumber (logging full) (logging full) x y (Begins to all) (Beside to) (λ p p'. Unit) size p n s s'
  unfolding taken
  number-beside size p n s s' r g e =
      let out : List ℕ = written to s in
      let piece : Piece = number (p - s.at) p (octets size) n in
      let f = read-facts x.octets x.start s.at size x.order p n g in
      let small : n < 256 ^ octets size =
      subst (λ (m : ℕ). m < 256 ^ octets size) (sym f.value) (number_small x.octets p (octets size) x.order ok f.fits) in
      let second : ℕ = behind_gap to.start s'.at (octets size) in
      record {
        second = second;
        read =
            ap (λ (k : ℕ). read_of all to.start k size to.order) r.at
            ∙ ap (λ (l : List ℕ). read_of l to.start (length out) size to.order) (sym (wrote-more piece s e.more e.whole))
            ∙ number-back to out e.more (p - s.at) p size n small
            ∙ ap (λ (k : ℕ). (Some (behind_gap to.start k (octets size), n))) (sym r.at);
        place = tt;
        then = record {
          fault = r.fault;
          last = refl;
          at =
              ap (λ (k : ℕ). behind_gap to.start k (octets size) + octets size) r.at
              ∙ sym (number-length to out (p - s.at) p (octets size) n)
              ∙ ap length (sym (writes_more to [] s.kept.pieces piece));
          visits = r.visits;
          items = r.items;
          pieces = same_more bare s.kept.pieces s'.kept.pieces piece (number (second - s'.at) second (octets size) n) r.pieces refl;
        };
      }

  octets-beside : (n : ℕ) (s s' : St Log) → Beside to s s' → s.at + n ≤ length x.octets → Begins to all (took_octets (logging full) x n s)
      → SameOctets (logging full) (logging full) x y (Begins to all) (Beside to) (λ p p'. Unit) n s s'
  unfolding taken wrote
  octets-beside n s s' r h e =
      let out : List ℕ = written to s in
      let these : List ℕ = take n (drop s.at x.octets) in
      let piece : Piece = run s.at these in
      let long : length these ≡ n = part_length x.octets s.at n h in
      let whole : (out ++ these) ++ e.more ≡ all = wrote-more piece s e.more e.whole in
      let same : take n (drop s'.at all) ≡ these =
      ap (λ (k : ℕ). take n (drop k all)) r.at
      ∙ ap (λ (l : List ℕ). take n (drop (length out) l)) (sym whole)
      ∙ middle out these e.more n long in
      record {
        fits = let a = length-append (out ++ these) e.more in let b = length-append out these in let c = ap length whole in let d = r.at in omega arith;
        these = same;
        place = tt;
        then = record {
          fault = r.fault;
          last = r.last;
          at =
              (let a = length-append out these in let b = r.at in let c : s'.at + n ≡ length (out ++ these) = omega arith in c)
              ∙ ap length (sym (writes_more to [] s.kept.pieces piece));
          visits = r.visits;
          items = r.items;
          pieces = same_more bare s.kept.pieces s'.kept.pieces piece (run s'.at (take n (drop s'.at all))) r.pieces (ap (run 0) (sym same));
        };
      }

  steps : Steps (logging full) (logging full) x y (Begins to all) (Beside to) (λ p p'. Unit)
  steps = record {
    q-refl = λ p. tt;
    same-fault = λ s s' r. r.fault;
    same-last = λ s s' r. r.last;
    back-fail = λ n s h e. absurd (let z = e.accepted in omega arith);
    back-visit = λ s e. record { accepted = e.accepted; more = e.more; whole = e.whole };
    back-took = begins-before;
    back-put = λ i s e. record { accepted = e.accepted; more = e.more; whole = e.whole };
    by-fail = λ n s s' h r. record { fault = refl; last = r.last; at = r.at; visits = r.visits; items = r.items; pieces = r.pieces };
    by-visit = λ s s' r e. record {
      fault = r.fault;
      last = r.last;
      at = r.at;
      visits = ap (λ (n : ℕ). n + 1) r.visits;
      items = r.items;
      pieces = r.pieces;
    };
    same_full = λ i s s' r e. ap full (same_count to s s' r);
    by-put = λ kind p p' n s s' q r b e. record {
      fault = r.fault;
      last = r.last;
      at = r.at;
      visits = r.visits;
      items = same_more unplaced s.kept.items s'.kept.items (item kind p n) (item kind p' n) r.items refl;
      pieces = r.pieces;
    };
    by_number = number-beside;
    by-no-number = λ size s s' r g e. absurd (let z = e.accepted in omega arith);
    by-octets = octets-beside;
    by-no-octets = λ n s s' r h e. absurd (let z = e.accepted in omega arith);
  }

  pub reads-beside : (t : Checked) → (reading full x t).fault ≡ 0 → written to (reading full x t) ≡ all → Beside to (reading full x t) (reading full y t)
  unfolding reading
  reads-beside t accepted e =
      (reads-step (logging full) (logging full) x y (Begins to all) (Beside to) (λ p p'. Unit) steps t levels (top_of t)).both at_start at_start
      (record { fault = refl; last = refl; at = ap length (sym (writes-none to)); visits = refl; items = refl; pieces = refl })
      (record { accepted = accepted; more = []; whole = append-nil _ ∙ e })
