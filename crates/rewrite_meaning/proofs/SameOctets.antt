-- What is written of a reading: whatever the places and gaps of its pieces are; from indices equal modulo 8.
use mathlib.Core.Path.{◌≡◌, sym, ap, ◌∙◌}
use mathlib.Core.List.{List, [], ◌∷◌, ◌++◌, map}
use mathlib.Core.Bool.{Bool}
use Prim.Native.Nat.{ℕ, ◌+◌, ◌-◌, ◌≤◌, ◌%◌}
use native.Mathlib.Omega.{arith}
use lib.ListN.{length, take, drop, length-drop}
use lib.Seq.{length-take-le}
use Rattle.cdr.specs.declared.Order.{Order}
use Rattle.cdr.specs.Align.{octets, index_of}
use Rattle.cdr_write.proofs.PiecesWritten.{writes_more, writes-none, writes-bare, number-alike, run-alike}
use Rattle.value_meaning.specs.Sinks.{Source, Piece, number, run, St}
use Rattle.value_meaning.specs.Visit.{Checked}
use Rattle.value_meaning.specs.Reading.{Log, reading}
use Rattle.rewrite_meaning.specs.Rewriting.{rewrite_of}
use Rattle.rewrite_meaning.specs.Written.{Target, target, wrote, writes, written, bare}
use Rattle.rewrite_meaning.proofs.PiecesKeep.{EachKeeps, reading-keeps}

-- places and gaps of pieces change nothing
pub same-octets : (to : Target) (s s' : St Log) → map bare s.kept.pieces ≡ map bare s'.kept.pieces → written to s ≡ written to s'
same-octets to s s' e = sym (writes-bare to [] s.kept.pieces) ∙ ap (writes to []) e ∙ writes-bare to [] s'.kept.pieces

pub same_answer : (to : Target) (s s' : St Log) → s.fault ≡ s'.fault → map bare s.kept.pieces ≡ map bare s'.kept.pieces
    → (room : ℕ) → rewrite_of s to room ≡ rewrite_of s' to room
unfolding rewrite_of
same_answer to s s' f e room = rw (f, same-octets to s s' e)

pub part_length : (v : List ℕ) (at n : ℕ) → at + n ≤ length v → length (take n (drop at v)) ≡ n
part_length v at n h = length-take-le n (drop at v) (simp length-drop (omega arith))

-- the writing index too is taken modulo 8
module _ (order : Order) (i j : ℕ) (alike : i % 8 ≡ j % 8) where
  abbrev first : Target
  first = target order (index_of i)

  abbrev second : Target
  second = target order (index_of j)

  abbrev Alike : ℕ → List Piece → Type 0
  Alike at ps = writes first [] ps ≡ writes second [] ps

  more-alike : (at next : ℕ) (ps : List Piece) (p : Piece) → ((out : List ℕ) → wrote first out p ≡ wrote second out p) → Alike at ps
      → Alike next (ps ++ (p ∷ []))
  more-alike at next ps p h e =
      writes_more first [] ps p ∙ h (writes first [] ps) ∙ ap (λ (l : List ℕ). wrote second l p) e ∙ sym (writes_more second [] ps p)

  alike-kept : (x : Source) → EachKeeps x Alike
  alike-kept x = record {
    number-keeps = λ size at p n ps r e.
        more-alike at (p + octets size) ps (number (p - at) p (octets size) n) (λ out. number-alike order i j alike out (p - at) p size n) e;
    run-keeps = λ at n ps l e.
        let these : List ℕ = take n (drop at x.octets) in
        more-alike at (at + n) ps (run at these) (λ out. run-alike order i j alike out at these) e;
  }

pub target-modulo-8 : (full : ℕ → Bool) (x : Source) (t : Checked) (order : Order) (i j : ℕ) → i % 8 ≡ j % 8
    → written (target order (index_of i)) (reading full x t) ≡ written (target order (index_of j)) (reading full x t)
target-modulo-8 full x t order i j e =
    reading-keeps full x (Alike order i j e) (alike-kept order i j e x)
    (writes-none (target order (index_of i)) ∙ sym (writes-none (target order (index_of j)))) t
