-- A result has at most 7 octets more than were used: aligning keeps an index at most another and some eights.
use mathlib.Core.Path.{ap}
use mathlib.Core.List.{List, []}
use mathlib.Core.Bool.{Bool}
use Prim.Native.Nat.{ℕ, ◌+◌, ◌-◌, ◌*◌, ◌≤◌, ◌/◌, ◌%◌}
use native.Mathlib.Omega.{arith}
use lib.ListN.{length, take, drop}
use Rattle.cdr.specs.declared.Size.{Size}
use Rattle.cdr.specs.declared.Size.TheVariants.{One, Two, Four, Eight}
use Rattle.cdr.specs.Align.{octets, aligned}
use Rattle.cdr.proofs.GapsBounded.{gap-modulo-8}
use Rattle.value_meaning.specs.Sinks.{Source, Piece, number, run}
use Rattle.value_meaning.specs.Visit.{Checked}
use Rattle.value_meaning.specs.Reading.{reading}
use Rattle.rewrite_meaning.specs.Written.{Target, writes, written}
use Rattle.rewrite_meaning.proofs.PiecesKeep.{EachKeeps, reading-keeps}
use Rattle.cdr_write.proofs.PiecesWritten.{writes_more, writes-none, number-length, run_length}
use Rattle.rewrite_meaning.proofs.SameOctets.{part_length}

-- an index at most another and some eights is so when both are aligned
aligned-near : (size : Size) (i j k : ℕ) → i ≤ j + 8 * k → aligned i (octets size) ≤ aligned j (octets size) + 8 * k
aligned-near One i j k h = omega arith
aligned-near Two i j k h = omega arith
aligned-near Four i j k h = omega arith
aligned-near Eight i j k h = omega arith

-- so every piece keeps the writing index at most the reading index and some eights
module _ (x : Source) (to : Target) (k : ℕ) where
  abbrev Near : ℕ → List Piece → Type 0
  Near at ps = to.start.0 % 8 + length (writes to [] ps) ≤ x.start.0 % 8 + at + 8 * k

  near-kept : EachKeeps x Near
  near-kept = record {
    number-keeps = λ size at p n ps r h.
        let out : List ℕ = writes to [] ps in
        let a = ap length (writes_more to [] ps (number (p - at) p (octets size) n)) in
        let b = number-length to out (p - at) p (octets size) n in
        let c = gap-modulo-8 size to.start.0 (length out) in
        let d = gap-modulo-8 size x.start.0 at in
        let e = aligned-near size (to.start.0 % 8 + length out) (x.start.0 % 8 + at) k h in
        let f = r.place in
        omega arith;
    run-keeps = λ at n ps l h.
        let out : List ℕ = writes to [] ps in
        let these : List ℕ = take n (drop at x.octets) in
        let a = ap length (writes_more to [] ps (run at these)) in
        let b = run_length to out at these in
        let c = part_length x.octets at n l in
        omega arith;
  }

-- the fewest eights that reach the writing index go beyond it by at most 7
pub written-near : (full : ℕ → Bool) (x : Source) (t : Checked) (to : Target)
    → length (written to (reading full x t)) ≤ (reading full x t).at + 7
written-near full x t to =
    let k : ℕ = (to.start.0 % 8 + 7 - x.start.0 % 8) / 8 in
    let none = ap length (writes-none to) in
    let near = reading-keeps full x (Near x to k) (near-kept x to k) (omega arith) t in
    omega arith
