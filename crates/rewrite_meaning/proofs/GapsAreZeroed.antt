-- Written in its own order and from its own index, a reading is the used octets with gaps zeroed.
use mathlib.Core.Path.{◌≡◌, refl, sym, ap, subst, ◌∙◌}
use mathlib.Core.List.{List, [], ◌∷◌, ◌++◌, append_assoc, append-nil}
use mathlib.Core.Bool.{Bool}
use Prim.Native.Nat.{ℕ, ◌+◌, ◌-◌, ◌≤◌}
use native.Mathlib.Omega.{arith}
use lib.ListN.{length, take, drop, replicate, length-append, length-replicate}
use lib.Seq.{sets, sets-eq, take-append_seam, drop-append-add, drop_at, take-add, drop-drop}
use Rattle.cdr.specs.declared.Size.{Size}
use Rattle.cdr.specs.declared.Order.{Order}
use Rattle.cdr.specs.Align.{octets, gap, behind_gap}
use Rattle.cdr.specs.Number.{Octets, octets_of, number_at}
use Rattle.cdr.proofs.GapsBounded.{NumberRead}
use Rattle.cdr.proofs.NumbersGivenBack.{part-octets, octets-of-number}
use Rattle.value_meaning.specs.Sinks.{Source, Piece, number, run}
use Rattle.value_meaning.specs.Visit.{Checked}
use Rattle.value_meaning.specs.Reading.{reading}
use Rattle.rewrite_meaning.specs.Written.{wrote, writes, written, gap_zeroed, gaps_zeroed, used_zeroed}
use Rattle.rewrite_meaning.specs.RoundTrip.{first_target}
use Rattle.rewrite_meaning.proofs.PiecesKeep.{EachKeeps, reading-keeps}
use Rattle.cdr_write.proofs.PiecesWritten.{writes_more, writes-none, number-length}
use Rattle.rewrite_meaning.proofs.SameOctets.{part_length}

-- one piece more
gaps_zeroed-more : (v : List ℕ) (ps : List Piece) (p : Piece) → gaps_zeroed v (ps ++ (p ∷ [])) ≡ gap_zeroed (gaps_zeroed v ps) p
unfolding gaps_zeroed
gaps_zeroed-more v [] p = refl
gaps_zeroed-more v (q ∷ ps) p = gaps_zeroed-more (gap_zeroed v q) ps p

gaps_zeroed-none : (v : List ℕ) → gaps_zeroed v [] ≡ v
unfolding gaps_zeroed
gaps_zeroed-none v = refl

-- octets over as many others
sets_over : (w a b z : List ℕ) → length a ≡ length z → sets (w ++ (a ++ b)) (length w) z ≡ w ++ (z ++ b)
sets_over w a b z e =
    let fits : length w + length z ≤ length (w ++ (a ++ b)) =
    let c = length-append w (a ++ b) in let d = length-append a b in omega arith in
    sets-eq z (w ++ (a ++ b)) (length w) fits
    ∙ ap (λ (l : List ℕ). l ++ z ++ drop (length w + length z) (w ++ (a ++ b))) (take-append_seam w (a ++ b))
    ∙ ap (λ (l : List ℕ). w ++ z ++ l) (drop-append-add w (a ++ b) (length z) ∙ drop_at a b (length z) e)
    ∙ append_assoc w z b

-- the octets at a place are those of the number there
octets-at : (v : List ℕ) (at n : ℕ) (order : Order) → Octets v → at + n ≤ length v → octets_of order n (number_at v at n order) ≡ take n (drop at v)
unfolding number_at
octets-at v at n order ok h =
    subst (λ (k : ℕ). octets_of order k (number_at v at n order) ≡ take n (drop at v)) (part_length v at n h)
    (octets-of-number order (take n (drop at v)) (part-octets v at n ok))

-- the octets up to the end of a part behind a gap: those before the gap, the gap's and the part's
take-parts : (v : List ℕ) (at p n : ℕ) → at ≤ p → take (p + n) v ≡ take at v ++ (take (p - at) (drop at v) ++ take n (drop p v))
take-parts v at p n h =
    let a : p + n ≡ at + (p - at + n) = omega arith in
    let b : at + (p - at) ≡ p = omega arith in
    ap (λ (k : ℕ). take k v) a
    ∙ take-add at (p - at + n) v
    ∙ ap (λ (l : List ℕ). take at v ++ l) (take-add (p - at) n (drop at v))
    ∙ ap (λ (l : List ℕ). take at v ++ (take (p - at) (drop at v) ++ take n l)) (drop-drop (p - at) at v ∙ ap (λ (k : ℕ). drop k v) b)

module _ (x : Source) (ok : Octets x.octets) where
  -- as many octets as were used; and where other octets follow the used ones, they follow what is written
  record OwnOrder (at : ℕ) (ps : List Piece) : Type 0 where
    long : length (writes (first_target x) [] ps) ≡ at
    is : (rest : List ℕ) → gaps_zeroed (take at x.octets ++ rest) ps ≡ writes (first_target x) [] ps ++ rest

  -- with a number more, and with octets more
  module _ (size : Size) (at p n : ℕ) (ps : List Piece) (r : NumberRead x.octets x.start at size x.order p n) (h : OwnOrder at ps) where
    abbrev out : List ℕ
    out = writes (first_target x) [] ps

    abbrev piece : Piece
    piece = number (p - at) p (octets size) n

    abbrev before : List ℕ
    before = take (p - at) (drop at x.octets)

    abbrev zeros : List ℕ
    zeros = replicate (p - at) 0

    abbrev these : List ℕ
    these = take (octets size) (drop p x.octets)

    from_at : at ≤ p
    from_at = let a = r.place in omega arith

    own-number : writes (first_target x) [] (ps ++ (piece ∷ [])) ≡ out ++ (zeros ++ these)
    unfolding wrote
    own-number =
        let a = r.place in
        let g : gap (x.start.0 + at) (octets size) ≡ p - at = omega arith in
        writes_more (first_target x) [] ps piece
        ∙ ap (λ (k : ℕ). out ++ (replicate (gap (x.start.0 + k) (octets size)) 0 ++ octets_of x.order (octets size) n)) h.long
        ∙ ap (λ (k : ℕ). out ++ (replicate k 0 ++ octets_of x.order (octets size) n)) g
        ∙ ap (λ (l : List ℕ). out ++ (zeros ++ l))
        (ap (octets_of x.order (octets size)) r.value ∙ octets-at x.octets p (octets size) x.order ok r.fits)

    own-length : length (writes (first_target x) [] (ps ++ (piece ∷ []))) ≡ p + octets size
    own-length =
        ap length (writes_more (first_target x) [] ps piece)
        ∙ number-length (first_target x) out (p - at) p (octets size) n
        ∙ ap (λ (k : ℕ). behind_gap x.start k (octets size) + octets size) h.long
        ∙ ap (λ (k : ℕ). k + octets size) (sym r.place)

    gap_zeroed-so-far : (rest : List ℕ) → gaps_zeroed (take (p + octets size) x.octets ++ rest) ps ≡ out ++ (before ++ (these ++ rest))
    gap_zeroed-so-far rest =
        ap (λ (l : List ℕ). gaps_zeroed (l ++ rest) ps) (take-parts x.octets at p (octets size) from_at)
        ∙ ap (λ (l : List ℕ). gaps_zeroed l ps) (append_assoc (take at x.octets) (before ++ these) rest)
        ∙ h.is ((before ++ these) ++ rest)
        ∙ ap (λ (l : List ℕ). out ++ l) (append_assoc before these rest)

    before-length : length before ≡ length zeros
    before-length =
        let a = r.fits in
        let b = from_at in
        part_length x.octets at (p - at) (omega arith) ∙ sym (length-replicate (p - at) 0)

    own-gap_zeroed : (rest : List ℕ)
        → gaps_zeroed (take (p + octets size) x.octets ++ rest) (ps ++ (piece ∷ [])) ≡ writes (first_target x) [] (ps ++ (piece ∷ [])) ++ rest
    own-gap_zeroed rest =
        let a : p - (p - at) ≡ length out = let b = from_at in let c = h.long in omega arith in
        gaps_zeroed-more (take (p + octets size) x.octets ++ rest) ps piece
        ∙ ap (λ (l : List ℕ). sets l (p - (p - at)) zeros) (gap_zeroed-so-far rest)
        ∙ ap (λ (k : ℕ). sets (out ++ (before ++ (these ++ rest))) k zeros) a
        ∙ sets_over out before (these ++ rest) zeros before-length
        ∙ ap (λ (l : List ℕ). out ++ l) (sym (append_assoc zeros these rest))
        ∙ sym (append_assoc out (zeros ++ these) rest)
        ∙ ap (λ (l : List ℕ). l ++ rest) (sym own-number)

  own-run : (at n : ℕ) (ps : List Piece) → at + n ≤ length x.octets → OwnOrder at ps
      → OwnOrder (at + n) (ps ++ (run at (take n (drop at x.octets)) ∷ []))
  unfolding wrote
  own-run at n ps fits h =
      let out : List ℕ = writes (first_target x) [] ps in
      let these : List ℕ = take n (drop at x.octets) in
      let more : writes (first_target x) [] (ps ++ (run at these ∷ [])) ≡ out ++ these = writes_more (first_target x) [] ps (run at these) in
      record {
        long = let a = ap length more in let b = length-append out these in let c = part_length x.octets at n fits in let d = h.long in omega arith;
        is = λ rest.
            gaps_zeroed-more (take (at + n) x.octets ++ rest) ps (run at these)
            ∙ ap (λ (l : List ℕ). gaps_zeroed (l ++ rest) ps) (take-add at n x.octets)
            ∙ ap (λ (l : List ℕ). gaps_zeroed l ps) (append_assoc (take at x.octets) these rest)
            ∙ h.is (these ++ rest)
            ∙ sym (append_assoc out these rest)
            ∙ ap (λ (l : List ℕ). l ++ rest) (sym more);
      }

  own-none : OwnOrder 0 []
  own-none =
      let e = writes-none (first_target x) in
      record { long = ap length e; is = λ rest. gaps_zeroed-none rest ∙ ap (λ (l : List ℕ). l ++ rest) (sym e) }

  own-kept : EachKeeps x OwnOrder
  own-kept = record {
    number-keeps = λ size at p n ps r h. record { long = own-length size at p n ps r h; is = own-gap_zeroed size at p n ps r h };
    run-keeps = own-run;
  }

  module _ (full : ℕ → Bool) (t : Checked) where
    own-order : OwnOrder (reading full x t).at (reading full x t).kept.pieces
    own-order = reading-keeps full x OwnOrder own-kept own-none t

    pub own-octets : written (first_target x) (reading full x t) ≡ used_zeroed x (reading full x t)
    own-octets =
        let s = reading full x t in
        sym
        (ap (λ (l : List ℕ). gaps_zeroed l s.kept.pieces) (sym (append-nil (take s.at x.octets)))
        ∙ own-order.is []
        ∙ append-nil (written (first_target x) s))

    pub own-count : length (written (first_target x) (reading full x t)) ≡ (reading full x t).at
    own-count = own-order.long
