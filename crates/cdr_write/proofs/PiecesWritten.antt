-- What is written of pieces: one after the other; whatever their places and gaps are; of what length; read again; from indices equal modulo 8.
use Rattle.std.specs.Prelude.{Some}
use mathlib.Core.Path.{◌≡◌, refl, sym, ap, ◌∙◌}
use mathlib.Core.List.{List, [], ◌∷◌, ◌++◌, map, append_assoc}
use Prim.Native.Nat.{ℕ, ◌+◌, ◌<◌, ◌≤◌, ◌^◌, ◌%◌}
use native.Mathlib.Omega.{arith}
use lib.ListN.{length, take, drop, replicate, length-append, length-replicate}
use lib.Seq.{drop-append_seam, take_at}
use Rattle.cdr.specs.declared.Order.{Order}
use Rattle.cdr.specs.declared.Size.{Size}
use Rattle.cdr.specs.Align.{octets, gap, behind_gap, index_of}
use Rattle.cdr.specs.Number.{number_of, octets_of, number_at, read_of}
use Rattle.cdr.proofs.GapsBounded.{gap-modulo-8, read_number}
use Rattle.cdr.proofs.NumbersGivenBack.{octets-length, number-of-octets}
use Rattle.cdr_write.specs.Pieces.{Piece, number, run, Target, target, wrote, writes, bare}

-- pieces one after the other, and one more
pub writes-append : (to : Target) (out : List ℕ) (ps qs : List Piece) → writes to out (ps ++ qs) ≡ writes to (writes to out ps) qs
unfolding writes
writes-append to out [] qs = refl
writes-append to out (p ∷ ps) qs = writes-append to (wrote to out p) ps qs

pub writes_more : (to : Target) (out : List ℕ) (ps : List Piece) (p : Piece) → writes to out (ps ++ (p ∷ [])) ≡ wrote to (writes to out ps) p
unfolding writes
writes_more to out ps p = writes-append to out ps (p ∷ [])

pub writes-none : (to : Target) → writes to [] [] ≡ []
unfolding writes
writes-none to = refl

-- places and gaps of pieces change nothing
wrote-bare : (to : Target) (out : List ℕ) (p : Piece) → wrote to out (bare p) ≡ wrote to out p
unfolding wrote
wrote-bare to out (number before place size value) = refl
wrote-bare to out (run place these) = refl

pub writes-bare : (to : Target) (out : List ℕ) (ps : List Piece) → writes to out (map bare ps) ≡ writes to out ps
unfolding writes
writes-bare to out [] = refl
writes-bare to out (p ∷ ps) = ap (λ (l : List ℕ). writes to l (map bare ps)) (wrote-bare to out p) ∙ writes-bare to (wrote to out p) ps

-- how long it is with a number more, and with octets more
pub number-length : (to : Target) (out : List ℕ) (before place size value : ℕ)
    → length (wrote to out (number before place size value)) ≡ length out + gap (to.start.0 + length out) size + size
unfolding wrote
number-length to out before place size value = simp (length-append, length-replicate, octets-length) (omega arith)

pub run_length : (to : Target) (out : List ℕ) (place : ℕ) (these : List ℕ) → length (wrote to out (run place these)) ≡ length out + length these
unfolding wrote
run_length to out place these = length-append out these

-- octets in the middle
pub middle : (a b c : List ℕ) (n : ℕ) → length b ≡ n → take n (drop (length a) ((a ++ b) ++ c)) ≡ b
middle a b c n e =
    ap (λ (l : List ℕ). take n (drop (length a) l)) (append_assoc a b c) ∙ ap (take n) (drop-append_seam a (b ++ c)) ∙ take_at b c n e

-- a number that was written is read again, behind its gap
pub number-back : (to : Target) (out more : List ℕ) (before place : ℕ) (size : Size) (value : ℕ) → value < 256 ^ octets size
    → read_of (wrote to out (number before place (octets size) value) ++ more) to.start (length out) size to.order
    ≡ Some (behind_gap to.start (length out) (octets size), value)
unfolding wrote number_at
number-back to out more before place size value small =
    let n : ℕ = octets size in
    let zeros : List ℕ = replicate (gap (to.start.0 + length out) n) 0 in
    let these : List ℕ = octets_of to.order n value in
    let all : List ℕ = (out ++ (zeros ++ these)) ++ more in
    let at : length (out ++ zeros) ≡ behind_gap to.start (length out) n =
    length-append out zeros ∙ ap (λ (k : ℕ). length out + k) (length-replicate (gap (to.start.0 + length out) n) 0) in
    let part : take n (drop (behind_gap to.start (length out) n) all) ≡ these =
    ap (λ (k : ℕ). take n (drop k all)) (sym at)
    ∙ ap (λ (l : List ℕ). take n (drop (length (out ++ zeros)) (l ++ more))) (sym (append_assoc out zeros these))
    ∙ middle (out ++ zeros) these more n (octets-length to.order n value) in
    let fits : behind_gap to.start (length out) n + n ≤ length all =
    let a = length-append (out ++ (zeros ++ these)) more in let b = number-length to out before place n value in omega arith in
    read_number all to.start (length out) size to.order fits
    ∙ ap (λ (x : ℕ). Some (behind_gap to.start (length out) n, x)) (ap (number_of to.order) part ∙ number-of-octets to.order n value small)

-- the writing index is taken modulo 8
module _ (order : Order) (i j : ℕ) (alike : i % 8 ≡ j % 8) where
  abbrev first : Target
  first = target order (index_of i)

  abbrev second : Target
  second = target order (index_of j)

  pub number-alike : (out : List ℕ) (before place : ℕ) (size : Size) (value : ℕ)
      → wrote first out (number before place (octets size) value) ≡ wrote second out (number before place (octets size) value)
  unfolding wrote
  number-alike out before place size value =
      let e : gap (i + length out) (octets size) ≡ gap (j + length out) (octets size) =
      sym (gap-modulo-8 size i (length out)) ∙ ap (λ (k : ℕ). gap (k + length out) (octets size)) alike ∙ gap-modulo-8 size j (length out) in
      rw e

  pub run-alike : (out : List ℕ) (place : ℕ) (these : List ℕ) → wrote first out (run place these) ≡ wrote second out (run place these)
  unfolding wrote
  run-alike out place these = refl
