-- The definitions at small inputs, computed.
use mathlib.Core.Path.{◌≡◌, refl}
use mathlib.Core.List.{[], ◌∷◌}
use mathlib.Core.Bool.{true, false}
use Prim.Native.Nat.{ℕ}
use Rattle.choices.specs.Branch.{choose}
use Rattle.lines.specs.Lines.{lf, up_to_lf, has_lf, lines_from, lines_of, taken_of, kept_into}

abbrev a : ℕ
a = 97

abbrev b : ℕ
b = 98

-- no line; one empty line; a last line without LF; an empty second line; one line without LF;
-- a block of which two characters fit, with its LF; a block without LF; a place beyond the block and more kept than there is room for
pub samples :
    (lines_of [] ≡ [])
    × (lines_of (lf ∷ []) ≡ [] ∷ [])
    × (lines_of (a ∷ b ∷ lf ∷ b ∷ a ∷ []) ≡ (a ∷ b ∷ []) ∷ (b ∷ a ∷ []) ∷ [])
    × (lines_of (a ∷ b ∷ lf ∷ lf ∷ []) ≡ (a ∷ b ∷ []) ∷ [] ∷ [])
    × (lines_of (a ∷ b ∷ []) ≡ (a ∷ b ∷ []) ∷ [])
    × (taken_of (b ∷ a ∷ b ∷ a ∷ lf ∷ b ∷ []) 1 3 1 ≡ record { next = 5; kept = 3; ended = true })
    × (kept_into (b ∷ a ∷ b ∷ a ∷ lf ∷ b ∷ []) 1 (7 ∷ 8 ∷ 9 ∷ []) 1 ≡ 7 ∷ a ∷ b ∷ [])
    × (taken_of (b ∷ a ∷ []) 1 3 1 ≡ record { next = 2; kept = 2; ended = false })
    × (kept_into (b ∷ a ∷ []) 1 (7 ∷ 8 ∷ 9 ∷ []) 1 ≡ 7 ∷ a ∷ 9 ∷ [])
    × (taken_of (b ∷ a ∷ []) 5 3 4 ≡ record { next = 2; kept = 3; ended = false })
    × (kept_into (b ∷ a ∷ []) 5 (7 ∷ 8 ∷ 9 ∷ []) 4 ≡ 7 ∷ 8 ∷ 9 ∷ [])
unfolding choose up_to_lf has_lf lines_from taken_of kept_into
samples = (refl, refl, refl, refl, refl, refl, refl, refl, refl, refl, refl)
