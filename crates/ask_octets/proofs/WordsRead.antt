-- What a word stands for, by the steps of reading it.
use Rattle.std.specs.Prelude.{Option, Some, None, Result, Ok, Err}
use Rattle.std.specs.Result.{result_ok}
use mathlib.Core.Path.{◌≡◌, refl, sym, ap, ◌∙◌}
use mathlib.Core.Bool.{Bool, true, false, not, ◌&&◌}
use mathlib.Core.List.{List, [], ◌∷◌, ◌++◌}
use Prim.Native.Nat.{ℕ, ◌+◌, ◌/◌, ◌%◌, ◌<◌, ◌≤◌}
use native.Mathlib.Omega.{arith}
use lib.Dec.{eqb, ltb}
use lib.ListN.{length, take, drop}
use lib.Seq.{sets}
use borrow.Author.Tests.{ne_eqb, lt-ltb, le-ltb, ltb-true}
use Rattle.choices.proofs.Choices.{by-test, clash}
use Rattle.choices.specs.Branch.{choose}
use Rattle.hexline.specs.Decoding.{all_digits, line_octets, digits_decoded, Decodes}
use Rattle.hexline.proofs.Answers.{digits-accepted}
use Rattle.hexline.proofs.OctetsOfDigits.{octets-length}
use Rattle.ask_words.specs.Words.{space, words_from, words, same_word}
use Rattle.ask_words.specs.Found.{FirstWord}
use Rattle.ask_octets.specs.Octets.{none_word, are_octets, not_octets, octets_word, lone_octets, WordRead}
use Rattle.hexline.specs.declared.Undecoded.{Undecoded}

-- octets that there is room for, and those that there is none for
are-read : (v memory : List ℕ) (n : ℕ) → n ≡ length v → n ≤ length memory → WordRead (are_octets v) memory (Some n) (sets memory 0 v)
are-read v memory n e h =
    let f = le-ltb (length memory) (length v) (omega arith) in
    record { answer = rw f (ap Some e); output = rw f }

are-many : (v memory : List ℕ) → length memory < length v → WordRead (are_octets v) memory None memory
are-many v memory h = let f = lt-ltb (length memory) (length v) h in record { answer = rw f; output = rw f }

are-none : (memory : List ℕ) → WordRead not_octets memory None memory
are-none memory = record { answer = refl; output = refl }

-- a word as octets: `-`, no characters,
pub word-dash : (word memory : List ℕ) → same_word word none_word ≡ true → WordRead (octets_word word) memory (Some 0) memory
unfolding octets_word choose
word-dash word memory d = rw d (are-read [] memory 0 refl (omega arith))

module _ (word : List ℕ) (d : same_word word none_word ≡ false) where
  pub word-empty : (memory : List ℕ) → eqb (length word) 0 ≡ true → WordRead (octets_word word) memory None memory
  unfolding octets_word choose
  word-empty memory z = rw (d, z) (are-none memory)

  -- digits, and what has another character, an odd number of them, or no room
  module _ (z : eqb (length word) 0 ≡ false) (memory : List ℕ) (r : Result ℕ Undecoded) (last : List ℕ) (s : Decodes digits_decoded word memory r last) where
    stands_by : (odd all : Bool) → eqb (length word % 2) 1 ≡ odd → all_digits word ≡ all
        → octets_word word ≡ choose (not odd && all) (λ _. are_octets (line_octets word)) (λ _. not_octets)
    unfolding octets_word choose
    stands_by true all o a = rw (d, z, o)
    stands_by false true o a = rw (d, z, o, a)
    stands_by false false o a = rw (d, z, o, a)

    pub word-digits : (n : ℕ) → r ≡ Ok n → WordRead (octets_word word) memory (Some n) last
    unfolding choose
    word-digits n e =
        let a = digits-accepted word (length memory) n (sym s.answer ∙ e) in
        let l : last ≡ sets memory 0 (line_octets word) = rw (s.output, e) in
        rw (stands_by false true (ne_eqb (length word % 2) 1 (λ o. omega (arith, a.even))) a.digits, l)
        (are-read (line_octets word) memory n (a.count ∙ sym (octets-length word)) a.fits)

    other-by : (odd all lacks : Bool) → eqb (length word % 2) 1 ≡ odd → all_digits word ≡ all → ltb (length memory) (length word / 2) ≡ lacks
        → ((n : ℕ) → r ≡ Ok n → ⊥) → WordRead (octets_word word) memory None last
    unfolding choose digits_decoded
    other-by true all lacks o a l k =
        let m : last ≡ memory = rw (s.output, s.answer, o) in
        rw (stands_by true all o a, m) (are-none memory)
    other-by false false lacks o a l k =
        let m : last ≡ memory = rw (s.output, s.answer, o, a) in
        rw (stands_by false false o a, m) (are-none memory)
    other-by false true true o a l k =
        let m : last ≡ memory = rw (s.output, s.answer, o, a, l) in
        rw (stands_by false true o a, m)
        (are-many (line_octets word) memory (omega (arith, octets-length word, ltb-true (length memory) (length word / 2) l)))
    other-by false true false o a l k = absurd (k (length word / 2) (rw (s.answer, o, a, l)))

    pub word-other : (u : Undecoded) → r ≡ Err u → WordRead (octets_word word) memory None last
    word-other u e = other-by _ _ _ refl refl refl (λ n f. clash cc)

-- a word of digits or of other characters, by what decoding it says
pub word-decoded : (word : List ℕ) → same_word word none_word ≡ false → eqb (length word) 0 ≡ false → (memory : List ℕ) (r : Result ℕ Undecoded) (last : List ℕ)
    → Decodes digits_decoded word memory r last → WordRead (octets_word word) memory (result_ok r) last
word-decoded word d z memory (Ok n) last s = word-digits word d z memory (Ok n) last s n refl
word-decoded word d z memory (Err u) last s = word-other word d z memory (Err u) last s u refl

-- the only word: more than one stand for no octets,
more-words : (word begun s : List ℕ) → lone_octets (word ∷ words_from begun s) ≡ not_octets
unfolding words_from choose
more-words word begun [] = refl
more-words word begun (c ∷ s) = by-test (eqb c space) (λ e. rw e) (λ e. rw e (more-words word (begun ++ (c ∷ [])) s))

module _ (line : List ℕ) (end : ℕ) (f : FirstWord line end) (memory : List ℕ) where
  pub lone-and-more : end < length line → WordRead (lone_octets (words line)) memory None memory
  lone-and-more h =
      rw (f.more h) (rw (more-words (take end line) [] (drop (end + 1) line)) (are-none memory))

  -- and one for its own
  pub lone-read : length line ≤ end → (r : Option ℕ) (last : List ℕ)
      → WordRead (octets_word line) memory r last → WordRead (lone_octets (words line)) memory r last
  lone-read h r last w = rw (f.only h) w
