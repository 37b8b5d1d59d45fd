-- Where the first word of a line ends, and words compared.
use mathlib.Core.Path.{◌≡◌, refl, sym, ap, ◌∙◌}
use mathlib.Core.Bool.{Bool, not, cond, ◌&&◌}
use mathlib.Core.List.{List, [], ◌∷◌, ◌++◌, append_assoc, append-nil}
use Prim.Native.Nat.{ℕ, suc, ◌+◌, ◌<◌, ◌≤◌}
use native.Mathlib.Omega.{arith}
use lib.Dec.{eqb, ltb}
use lib.ListN.{length, take, drop}
use lib.Pointwise.{pointwise}
use lib.Seq.{length-take-le}
use borrow.Author.Tests.{ltb-true, ltb-false}
use Rattle.std.specs.Prelude.{Option, Some, None}
use Rattle.std.specs.List.{position_or_len}
use Rattle.std.specs.Option.{unwrap_or}
use Rattle.std.proofs.lemmas.List.Sums.{prefix_len-le-length}
use Rattle.choices.proofs.Choices.{by-test}
use Rattle.choices.specs.Branch.{choose}
use Rattle.ask_words.specs.Words.{space, words_from, words, same_word}
use Rattle.ask_words.specs.Found.{FirstWord}

-- the characters before the first space, which are the first word's
abbrev pub before : List ℕ → ℕ
before line = position_or_len (λ c. eqb c space) line

only-word : (begun s : List ℕ) → length s ≤ before s → words_from begun s ≡ (begun ++ s) ∷ []
unfolding words_from choose
only-word begun [] h = rw append-nil
only-word begun (c ∷ s) h =
    by-test (eqb c space)
    (λ e. absurd (omega (arith, rw e at h)))
    (λ e. rw e (only-word (begun ++ (c ∷ [])) s (omega (arith, rw e at h)) ∙ rw append_assoc))

more-words : (begun s : List ℕ) → before s < length s → words_from begun s ≡ (begun ++ take (before s) s) ∷ words (drop (before s + 1) s)
unfolding words_from choose
more-words begun [] h = absurd (omega arith)
more-words begun (c ∷ s) h =
    by-test (eqb c space)
    (λ e. rw (e, append-nil))
    (λ e.
    let n : 1 + before s ≡ suc (before s) = omega arith in
    let m : suc (before s) + 1 ≡ suc (before s + 1) = omega arith in
    rw (e, n, m) (more-words (begun ++ (c ∷ [])) s (omega (arith, rw e at h)) ∙ rw append_assoc))

before-within : (line : List ℕ) → before line ≤ length line
before-within line = prefix_len-le-length (λ c. not (eqb c space)) line

pub first-word : (line : List ℕ) → FirstWord line (before line)
first-word line =
    let w = before-within line in
    record {
      within = w;
      only = only-word [] line;
      more = more-words [] line;
      decided =
          by-test (ltb (before line) (length line))
          (λ t. rw (more-words [] line (ltb-true _ _ t)) (sym (length-take-le (before line) line w)))
          (λ t.
          let k : length line ≤ before line = ltb-false _ _ t in
          rw (only-word [] line k) (omega arith));
    }

-- the place that the search found, or the end of the line
pub first-found : (line : List ℕ) {r : Option ℕ} {n : ℕ} → r ≡ cond (ltb (before line) (length line)) (Some (before line)) None
    → n ≡ unwrap_or r (length line) → FirstWord line n
first-found line {r} {n} e f =
    let w = before-within line in
    by-test (ltb (before line) (length line))
    (λ t.
    let g : n ≡ before line = rw (f, e, t) in
    rw g (first-word line))
    (λ t.
    let k : length line ≤ before line = ltb-false _ _ t in
    let g : n ≡ length line = rw (f, e, t) in
    let m : n ≡ before line = omega arith in
    rw m (first-word line))

-- words compared character by character
pub same-characters : (a b : List ℕ) → pointwise eqb a b ≡ same_word a b
unfolding same_word
same-characters [] [] = refl
same-characters [] (d ∷ b) = refl
same-characters (c ∷ a) [] = refl
same-characters (c ∷ a) (d ∷ b) = ap (λ (t : Bool). eqb c d && t) (same-characters a b)

pub ruleset compared = same-characters
