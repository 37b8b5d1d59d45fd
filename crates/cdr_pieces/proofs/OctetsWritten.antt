-- The octets of pieces from an index on, one after the other; what an output holds behind the writers of them.
use Rattle.std.specs.Prelude.{Option, Some, None}
use mathlib.Core.Path.{◌≡◌, refl, sym, ap, subst, ◌∙◌}
use mathlib.Core.List.{List, [], ◌∷◌, ◌++◌, append_assoc, append-nil}
use Prim.Native.Nat.{ℕ, ◌+◌}
use native.Mathlib.Nat.{add-zero, zero-add, add_assoc}
use native.Mathlib.Omega.{arith}
use lib.ListN.{length, replicate, length-append, length-replicate}
use lib.Seq.{sets, length-sets}
use Rattle.cdr.specs.declared.Order.{Order}
use Rattle.cdr.specs.Align.{octets, gap}
use Rattle.cdr.specs.Number.{octets_of}
use Rattle.cdr.proofs.NumbersGivenBack.{octets-length}
use Rattle.cdr_fields.specs.Encapsulation.{start}
use Rattle.cdr_write.specs.Pieces.{Piece, number, run, Target, target, wrote, writes}
use Rattle.cdr_write.specs.Write.{Stored, holding}
use Rattle.cdr_write.proofs.BufferHolds.{sets-append, stored-fits}
use Rattle.cdr_pieces.specs.PartPieces.{number_piece, run_piece, piece_octets, octets_from, Holds, Fills}

-- a number behind its gap
module _ (order : Order) (at n x : ℕ) where
  pub number-from : piece_octets (target order start) at (number_piece n x) ≡ replicate (gap at n) 0 ++ octets_of order n x
  unfolding piece_octets
  number-from = ap (λ (k : ℕ). replicate (gap k n) 0 ++ octets_of order n x) (zero-add at)

  pub piece-length : length (piece_octets (target order start) at (number_piece n x)) ≡ gap at n + n
  piece-length = ap length number-from ∙ simp (length-append, length-replicate, octets-length)

  pub piece-stored : (g : ℕ) → g ≡ gap at n → (out mid last : List ℕ) → mid ≡ sets out at (replicate g 0) → last ≡ sets mid (at + g) (octets_of order n x)
      → last ≡ sets out at (piece_octets (target order start) at (number_piece n x))
  piece-stored g e out mid last m l =
      let zeros : List ℕ = replicate g 0 in
      let these : List ℕ = octets_of order n x in
      l
      ∙ ap (λ (w : List ℕ). sets w (at + g) these) m
      ∙ ap (λ (k : ℕ). sets (sets out at zeros) (at + k) these) (sym (length-replicate g 0))
      ∙ sym (sets-append out at zeros these)
      ∙ ap (λ (k : ℕ). sets out at (replicate k 0 ++ these)) e
      ∙ ap (sets out at) (sym number-from)

-- pieces one after the other
module _ (to : Target) where
  pub one_from : (at : ℕ) (p : Piece) → octets_from to at (p ∷ []) ≡ piece_octets to at p
  unfolding octets_from
  one_from at p = append-nil (piece_octets to at p)

  pub from-append : (at : ℕ) (ps qs : List Piece)
      → octets_from to at (ps ++ qs) ≡ octets_from to at ps ++ octets_from to (at + length (octets_from to at ps)) qs
  unfolding octets_from
  from-append at [] qs = ap (λ (k : ℕ). octets_from to k qs) (sym (add-zero at))
  from-append at (p ∷ ps) qs =
      let xs : List ℕ = piece_octets to at p in
      let behind : ℕ = at + length xs in
      let e : behind + length (octets_from to behind ps) ≡ at + length (xs ++ octets_from to behind ps) =
      add_assoc at (length xs) (length (octets_from to behind ps)) ∙ ap (λ (k : ℕ). at + k) (sym (length-append xs (octets_from to behind ps))) in
      ap (λ (l : List ℕ). xs ++ l) (from-append behind ps qs)
      ∙ sym (append_assoc xs (octets_from to behind ps) (octets_from to (behind + length (octets_from to behind ps)) qs))
      ∙ ap (λ (k : ℕ). (xs ++ octets_from to behind ps) ++ octets_from to k qs) e

  wrote-from : (out : List ℕ) (p : Piece) → wrote to out p ≡ out ++ piece_octets to (length out) p
  unfolding wrote piece_octets
  wrote-from out (number before place size value) = refl
  wrote-from out (run place these) = refl

  -- what is written behind other octets are these octets
  pub writes-from : (out : List ℕ) (ps : List Piece) → writes to out ps ≡ out ++ octets_from to (length out) ps
  unfolding writes octets_from
  writes-from out [] = sym (append-nil out)
  writes-from out (p ∷ ps) =
      let xs : List ℕ = piece_octets to (length out) p in
      let e = wrote-from out p in
      let l : length (wrote to out p) ≡ length out + length xs = ap length e ∙ length-append out xs in
      writes-from (wrote to out p) ps
      ∙ ap (λ (k : ℕ). wrote to out p ++ octets_from to k ps) l
      ∙ ap (λ (w : List ℕ). w ++ octets_from to (length out + length xs) ps) e
      ∙ append_assoc out xs (octets_from to (length out + length xs) ps)

-- what an output holds
held-length : (r : Option ℕ) (out : List ℕ) (at : ℕ) (xs : List ℕ) → length (holding r out at xs) ≡ length out
held-length None out at xs = refl
held-length (Some e) out at xs = length-sets out at xs

pub stored-holds : (out : List ℕ) (at : ℕ) (xs : List ℕ) (r : Option ℕ) (last : List ℕ) → Stored out at xs r last → Holds out at xs last
stored-holds out at xs r last s = record {
  size = ap length s.contents ∙ held-length r out at xs;
  holds = λ h. stored-fits out at xs r last h s;
}

pub nothing-held : (out : List ℕ) (at : ℕ) → Holds out at [] out
nothing-held out at = record { size = refl; holds = λ h. refl }

pub holds-append : (out : List ℕ) (at : ℕ) (xs mid : List ℕ) → Holds out at xs mid → (ys last : List ℕ) → Holds mid (at + length xs) ys last
    → Holds out at (xs ++ ys) last
holds-append out at xs mid a ys last b = record {
  size = b.size ∙ a.size;
  holds = λ h.
      let l = length-append xs ys in
      b.holds (omega (arith, a.size, l, h)) ∙ ap (λ (m : List ℕ). sets m (at + length xs) ys) (a.holds (omega (arith, l, h)))
      ∙ sym (sets-append out at xs ys);
}

module _ (to : Target) (at : ℕ) (out : List ℕ) where
  pub fills-append : (ps : List Piece) (mid : List ℕ) → Fills to ps at out mid → (qs : List Piece) (last : List ℕ)
      → Fills to qs (at + length (octets_from to at ps)) mid last → Fills to (ps ++ qs) at out last
  fills-append ps mid a qs last b =
      subst (λ (l : List ℕ). Holds out at l last) (sym (from-append to at ps qs))
      (holds-append out at (octets_from to at ps) mid a (octets_from to (at + length (octets_from to at ps)) qs) last b)

  pub fills-none : Fills to [] at out out
  unfolding octets_from
  fills-none = nothing-held out at

  pub fills_one : (p : Piece) (last : List ℕ) → Holds out at (piece_octets to at p) last → Fills to (p ∷ []) at out last
  fills_one p last h = subst (λ (l : List ℕ). Holds out at l last) (sym (one_from to at p)) h

  pub fills-run : (these last : List ℕ) → Holds out at these last → Fills to (run_piece these ∷ []) at out last
  unfolding piece_octets
  fills-run these last h = fills_one (run_piece these) last h
