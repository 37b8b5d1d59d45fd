-- Octets that were read into a memory that has room for them.
use Rattle.std.specs.Prelude.{Option, Some, None}
use mathlib.Core.Path.{◌≡◌, refl, ap, ◌∙◌}
use mathlib.Core.List.{List, [], ◌∷◌, ◌++◌}
use Prim.Native.Nat.{ℕ, ◌+◌, ◌*◌, ◌≤◌}
use native.Mathlib.Omega.{arith}
use lib.Dec.{eqb}
use lib.ListN.{length, take, replicate, length-append, length-replicate}
use lib.Seq.{sets, length-sets}
use borrow.Author.Tests.{le-ltb}
use Rattle.choices.proofs.Choices.{by-test, clash}
use Rattle.choices.specs.Branch.{choose}
use Rattle.decimals.proofs.CharactersPut.{take-written}
use Rattle.hexline.proofs.OctetsOfDigits.{octets-length}
use Rattle.ask_words.specs.Words.{space, words, words_from, same_word}
use Rattle.ask_octets.specs.Octets.{line_most, none_word, WordOctets, are_octets, not_octets, is_octets, octets_word, lone_octets, on_octets, WordRead}

-- what was read, by the answer and the memory, and that it is within the memory
abbrev pub octets_in : Option ℕ → List ℕ → WordOctets
octets_in (Some n) memory = are_octets (take n memory)
octets_in None memory = not_octets

pub record Stands (o : WordOctets) (r : Option ℕ) (memory : List ℕ) : Type 0 where
  pub stands : octets_in r memory ≡ o
  pub within : (n : ℕ) → r ≡ Some n → n ≤ length memory

abbrev pub octet_count : WordOctets → ℕ
octet_count (are_octets v) = length v
octet_count not_octets = 0

-- where there is room, all of them are read
pub all_read : (o : WordOctets) {before : List ℕ} {r : (Option ℕ)} {after : List ℕ} → WordRead o before r after → octet_count o ≤ length before → Stands o r after
all_read (are_octets v) {before} {r} {after} w few =
    let f = le-ltb (length before) (length v) few in
    let e : r ≡ Some (length v) = rw f at w.answer in
    let s : after ≡ sets before 0 v = rw f at w.output in
    let l : length after ≡ length before = ap length s ∙ length-sets before 0 v in
    record {
      stands = rw (e, s) (ap are_octets (take-written before v (length v) refl few));
      within = λ n g. let k : n ≡ length v = cc in omega arith;
    }
all_read not_octets {before} {r} {after} w few = record { stands = rw w.answer; within = λ n g. let e = w.answer in clash cc }

-- a word has two digits an octet,
word-few : (word : List ℕ) (n : ℕ) → length word ≤ n * 2 → octet_count (octets_word word) ≤ n
unfolding octets_word choose
word-few word n h =
    by-test (same_word word none_word)
    (λ e. rw e (omega arith))
    (λ e. by-test (is_octets word)
    (λ f. rw (e, f) (omega (arith, octets-length word)))
    (λ f. rw (e, f) (omega arith)))

-- and so has the only one
more-few : (word begun s : List ℕ) → octet_count (lone_octets (word ∷ words_from begun s)) ≡ 0
unfolding words_from choose
more-few word begun [] = refl
more-few word begun (c ∷ s) = by-test (eqb c space) (λ e. rw e) (λ e. rw e (more-few word (begun ++ (c ∷ [])) s))

lone-few : (begun s : List ℕ) (n : ℕ) → length begun + length s ≤ n * 2 → octet_count (lone_octets (words_from begun s)) ≤ n
unfolding words_from choose
lone-few begun [] n h = word-few begun n (omega arith)
lone-few begun (c ∷ s) n h =
    by-test (eqb c space)
    (λ e. rw e (omega (arith, more-few begun [] s)))
    (λ e. rw e (lone-few (begun ++ (c ∷ [])) s n (omega (arith, length-append begun (c ∷ [])))))

pub word_read : (word : List ℕ) {before : List ℕ} {r : (Option ℕ)} {after : List ℕ} → WordRead (octets_word word) before r after
    → length word ≤ length before * 2 → Stands (octets_word word) r after
word_read word {before} w h = all_read (octets_word word) w (word-few word (length before) h)

line_read : (line : List ℕ) {before : List ℕ} {r : (Option ℕ)} {after : List ℕ} → WordRead (lone_octets (words line)) before r after
    → length line ≤ length before * 2 → Stands (lone_octets (words line)) r after
line_read line {before} w h = all_read (lone_octets (words line)) w (lone-few [] line (length before) (omega arith))

-- in memory that has room for any line's
message-length : length {A = ℕ} (replicate 65536 0) ≡ 65536
message-length = length-replicate {A = ℕ} 65536 0

pub lone-stands : (rest : List ℕ) {r : (Option ℕ)} {after : List ℕ} → length rest ≤ line_most → WordRead (lone_octets (words rest)) (replicate 65536 0) r after
    → Stands (lone_octets (words rest)) r after
lone-stands rest h o = line_read rest o (omega (arith, h, message-length))

pub word_stands : (word : List ℕ) {r : (Option ℕ)} {after : List ℕ} → length word ≤ line_most → WordRead (octets_word word) (replicate 65536 0) r after
    → Stands (octets_word word) r after
word_stands word h o = word_read word o (omega (arith, h, message-length))

-- what follows octets that were read: none, or so many within the memory
module _ {o : WordOctets} {r : (Option ℕ)} {memory : List ℕ} (w : Stands o r memory) where
  pub octets-not : r ≡ None → {A : Type 0} (a : A) (f : List ℕ → A) → on_octets o a f ≡ a
  octets-not e a f = rw (← w.stands, e)

  module _ (n : ℕ) (e : r ≡ Some n) where
    pub octets-are : {A : Type 0} (a : A) (f : List ℕ → A) → on_octets o a f ≡ f (take n memory)
    octets-are a f = rw (← w.stands, e)

    pub octets-within : n ≤ length memory
    octets-within = w.within n e
