-- Pieces that stand in octets at an index, one behind the other; a number that stands there is read, and so are octets.
use Rattle.std.specs.Prelude.{Some}
use mathlib.Core.Path.{◌≡◌, sym, ap, subst, ◌∙◌}
use mathlib.Core.List.{List, [], ◌∷◌, ◌++◌, append_assoc}
use Prim.Native.Nat.{ℕ, ◌+◌, ◌≤◌, ◌<◌, ◌^◌}
use native.Mathlib.Nat.{add-zero, zero-add, add_assoc}
use native.Mathlib.Omega.{arith}
use lib.ListN.{length, take, drop, length-append}
use lib.Seq.{drop_at, take-append_seam}
use Rattle.cdr.specs.declared.Index.{Index}
use Rattle.cdr.specs.declared.Order.{Order}
use Rattle.cdr.specs.declared.Size.{Size}
use Rattle.cdr.specs.Align.{octets, gap, behind_gap, index_of}
use Rattle.cdr.specs.Number.{Octets, read_of}
use Rattle.cdr.proofs.NumbersGivenBack.{number_small}
use Rattle.cdr_fields.specs.Encapsulation.{start, field_of}
use Rattle.cdr_fields.proofs.FieldsRead.{field-facts, field_is}
use Rattle.cdr_write.specs.Pieces.{Piece, Target, target, wrote, writes}
use Rattle.cdr_write.proofs.PiecesWritten.{number-back}
use Rattle.cdr_pieces.specs.PartPieces.{number_piece, run_piece, piece_octets, octets_from}
use Rattle.cdr_pieces.proofs.OctetsWritten.{piece-length, one_from, from-append, writes-from}

-- octets before the pieces and behind them
pub record Stands (order : Order) (w : List ℕ) (at : ℕ) (ps : List Piece) : Type 0 where
  pub before : List ℕ
  pub more : List ℕ
  pub index : length before ≡ at
  pub all : w ≡ before ++ (octets_from (target order start) at ps ++ more)

-- pieces reach from an index to the next, and wherever they stand in w there, R is told
pub record Again (order : Order) (w : List ℕ) (i next : Index) (ps : List Piece) (R : Type 0) : Type 0 where
  pub reach : next.0 ≡ i.0 + length (octets_from (target order start) i.0 ps)
  pub told : Stands order w i.0 ps → R

module _ (order : Order) (w : List ℕ) where
  abbrev to : Target
  to = target order start

  -- the first pieces, then the others
  split : (at : ℕ) (ps qs : List Piece) (s : Stands order w at (ps ++ qs))
      → w ≡ s.before ++ (octets_from to at ps ++ (octets_from to (at + length (octets_from to at ps)) qs ++ s.more))
  split at ps qs s =
      let xs : List ℕ = octets_from to at ps in
      let ys : List ℕ = octets_from to (at + length xs) qs in
      s.all
      ∙ ap (λ (l : List ℕ). s.before ++ (l ++ s.more)) (from-append to at ps qs)
      ∙ ap (λ (l : List ℕ). s.before ++ l) (append_assoc xs ys s.more)

  stands-first : (at : ℕ) (ps qs : List Piece) → Stands order w at (ps ++ qs) → Stands order w at ps
  stands-first at ps qs s = record {
    before = s.before;
    more = octets_from to (at + length (octets_from to at ps)) qs ++ s.more;
    index = s.index;
    all = split at ps qs s;
  }

  stands-second : (at : ℕ) (ps qs : List Piece) → Stands order w at (ps ++ qs) → (next : ℕ) → next ≡ at + length (octets_from to at ps) → Stands order w next qs
  stands-second at ps qs s next e =
      let xs : List ℕ = octets_from to at ps in
      let ys : List ℕ = octets_from to (at + length xs) qs in
      subst (λ (k : ℕ). Stands order w k qs) (sym e) (record {
        before = s.before ++ xs;
        more = s.more;
        index = length-append s.before xs ∙ ap (λ (k : ℕ). k + length xs) s.index;
        all = split at ps qs s ∙ sym (append_assoc s.before xs (ys ++ s.more));
      })

  -- what nothing tells, what pieces one after the other tell, and what follows from it
  pub again-none : (i : Index) → (R : Type 0) → R → Again order w i i [] R
  unfolding octets_from
  again-none i R r = record { reach = sym (add-zero i.0); told = λ s. r }

  pub again-append : (i behind next : Index) (ps qs : List Piece) (R S : Type 0) → Again order w i behind ps R → Again order w behind next qs S
      → Again order w i next (ps ++ qs) (R × S)
  again-append i behind next ps qs R S a b =
      let xs : List ℕ = octets_from to i.0 ps in
      let there : length (octets_from to behind.0 qs) ≡ length (octets_from to (i.0 + length xs) qs) =
      ap (λ (k : ℕ). length (octets_from to k qs)) a.reach in
      let l = ap length (from-append to i.0 ps qs) ∙ length-append xs (octets_from to (i.0 + length xs) qs) in
      record {
        reach = omega (arith, a.reach, b.reach, there, l);
        told = λ s. (a.told (stands-first i.0 ps qs s), b.told (stands-second i.0 ps qs s behind.0 a.reach));
      }

  pub again-so : (i next : Index) (ps : List Piece) (R S : Type 0) → (R → S) → Again order w i next ps R → Again order w i next ps S
  again-so i next ps R S f a = record { reach = a.reach; told = λ s. f (a.told s) }

  -- octets as they are
  pub run-again : (i next : Index) (these : List ℕ) → next.0 ≡ i.0 + length these
      → Again order w i next (run_piece these ∷ []) ((i.0 + length these ≤ length w) × (take (length these) (drop i.0 w) ≡ these))
  unfolding piece_octets
  run-again i next these e =
      let one = one_from to i.0 (run_piece these) in
      record {
        reach = e ∙ ap (λ (l : List ℕ). i.0 + length l) (sym one);
        told = λ s.
            let all : w ≡ s.before ++ (these ++ s.more) = s.all ∙ ap (λ (l : List ℕ). s.before ++ (l ++ s.more)) one in
            let a = length-append s.before (these ++ s.more) in
            let b = length-append these s.more in
            let c = ap length all in (
              omega (arith, a, b, c, s.index),
              ap (λ (l : List ℕ). take (length these) (drop i.0 l)) all
                  ∙ ap (take (length these)) (drop_at s.before (these ++ s.more) i.0 s.index)
                  ∙ take-append_seam these s.more,
            );
      }

  -- a number that was read
  module _ (v : List ℕ) (small : Octets v) (i : Index) (size : Size) (x : ℕ) (next : Index) (e : field_of v i size order ≡ Some (x, next)) where
    number-reach : next.0 ≡ i.0 + length (octets_from to i.0 (number_piece (octets size) x ∷ []))
    number-reach =
        let f = field-facts v i size order x next e in
        let l = ap length (one_from to i.0 (number_piece (octets size) x)) ∙ piece-length order i.0 (octets size) x in
        f.ends
        ∙ ap (λ (k : ℕ). i.0 + gap k (octets size) + octets size) (zero-add i.0)
        ∙ add_assoc i.0 (gap i.0 (octets size)) (octets size)
        ∙ ap (λ (k : ℕ). i.0 + k) (sym l)

    number-told : Stands order w i.0 (number_piece (octets size) x ∷ []) → field_of w i size order ≡ Some (x, next)
    unfolding writes
    number-told s =
        let f = field-facts v i size order x next e in
        let n : ℕ = octets size in
        let p : Piece = number_piece n x in
        let at : ℕ = behind_gap start i.0 n in
        let below : x < 256 ^ n =
        subst (λ (k : ℕ). k < 256 ^ n) (sym f.value) (number_small v at n order small (omega (arith, f.ends, f.fits))) in
        let all : w ≡ wrote to s.before p ++ s.more =
        s.all
        ∙ sym (append_assoc s.before (octets_from to i.0 (p ∷ [])) s.more)
        ∙ ap (λ (k : ℕ). (s.before ++ octets_from to k (p ∷ [])) ++ s.more) (sym s.index)
        ∙ ap (λ (l : List ℕ). l ++ s.more) (sym (writes-from to s.before (p ∷ []))) in
        let read : read_of w start i.0 size order ≡ Some (at, x) =
        ap (λ (l : List ℕ). read_of l start i.0 size order) all
        ∙ ap (λ (k : ℕ). read_of (wrote to s.before p ++ s.more) start k size order) (sym s.index)
        ∙ number-back to s.before s.more 0 0 size x below
        ∙ ap (λ (k : ℕ). (Some (behind_gap start k n, x))) s.index in
        field_is w i size order at x read ∙ ap (λ (k : ℕ). (Some (x, index_of k))) (sym f.ends)

    pub number-again : Again order w i next (number_piece (octets size) x ∷ []) (field_of w i size order ≡ Some (x, next))
    number-again = record { reach = number-reach; told = number-told }
