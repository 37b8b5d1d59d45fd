-- Of a line that has been begun, no more characters need be kept than a reader of lines sees.
use mathlib.Core.Path.{◌≡◌, sym, ap, ◌∙◌}
use mathlib.Core.List.{List, [], ◌∷◌, ◌++◌}
use Prim.Native.Nat.{ℕ, suc, ◌-◌, ◌<◌}
use native.Mathlib.Omega.{arith}
use lib.ListN.{take}
use lib.Seq.{take-take}
use Rattle.lines.specs.Lines.{up_to_lf, after_lf, last_line, lines_from, lines_of}
use Rattle.lines.proofs.LinesOfBlocks.{lines-first, lines_end, take-longer}

-- `f` sees no more than the first n characters of a first line
module _ {A : Type 0} (n : ℕ) (h : 0 < n) (f : List (List ℕ) → A)
    (first : (a b : List ℕ) (rest : List (List ℕ)) → take n a ≡ take n b → f (a ∷ rest) ≡ f (b ∷ rest))
  where
    last-cut : (l : List ℕ) (m : ℕ) → n ≡ suc m → f (last_line (take n l)) ≡ f (last_line l)
    last-cut [] m e = rw e
    last-cut (c ∷ l) m e =
        ap (λ (j : ℕ). f (last_line (take j (c ∷ l)))) e
        ∙ first (take (suc m) (c ∷ l)) (c ∷ l) []
        (ap (λ (j : ℕ). take n (take j (c ∷ l))) (sym e) ∙ take-take n n (c ∷ l) (omega arith))

    pub begun-cut : (l input : List ℕ) → f (lines_from (take n l) input) ≡ f (lines_from l input)
    begun-cut l [] =
        let e : n ≡ suc (n - 1) = omega arith in
        rw (lines_end (take n l), lines_end l) (last-cut l (n - 1) e)
    begun-cut l (c ∷ rest) =
        rw (lines-first (take n l) c rest, lines-first l c rest)
        (first (take n l ++ up_to_lf (c ∷ rest)) (l ++ up_to_lf (c ∷ rest)) (lines_of (after_lf (c ∷ rest))) (take-longer n l (up_to_lf (c ∷ rest))))
