-- What words stand for, as octets that were read.
use Rattle.std.specs.Prelude.{Option, Some, None}
use mathlib.Core.Path.{◌≡◌, refl}
use mathlib.Core.List.{List}
use Prim.Native.Nat.{ℕ, ◌-◌, ◌*◌, ◌≤◌}
use native.Mathlib.Omega.{arith}
use lib.ListN.{length, take, drop, replicate, length-drop}
use lib.Seq.{take_all}
use Rattle.ask_words.specs.Words.{words}
use Rattle.ask_octets.specs.Octets.{line_most, WordOctets, octets_word, lone_octets, WordRead}
use Rattle.ask_octets.proofs.OctetsStand.{Stands, word_read, word_stands, lone-stands}
use Rattle.ask_answers.specs.Questions.{Question, no_question, octets_question}
use Rattle.ask_answers.specs.Inner.{OctetsRead}

-- a part up to the end of a line
pub part-all : (v : List ℕ) (b : ℕ) → take (length v - b) (drop b v) ≡ drop b v
part-all v b = take_all (length v - b) (drop b v) (omega (arith, length-drop b v))

-- a word, and the only word of a line, as octets, where there is room for them
as-read : {o : WordOctets} (r : Option ℕ) {memory : List ℕ} → Stands o r memory → OctetsRead o r memory
as-read (Some n) s = record { stands = s.stands; within = s.within n refl }
as-read None s = record { stands = s.stands; within = omega arith }

pub word-read : (word : List ℕ) {before : List ℕ} {r : Option ℕ} {after : List ℕ} → length word ≤ length before * 2
    → WordRead (octets_word word) before r after → OctetsRead (octets_word word) r after
word-read word h w = as-read _ (word_read word w h)

pub word-held : (word : List ℕ) {r : Option ℕ} {after : List ℕ} → length word ≤ line_most
    → WordRead (octets_word word) (replicate 65536 0) r after → OctetsRead (octets_word word) r after
word-held word h w = as-read _ (word_stands word h w)

pub lone-held : (rest : List ℕ) {r : Option ℕ} {after : List ℕ} → length rest ≤ line_most
    → WordRead (lone_octets (words rest)) (replicate 65536 0) r after → OctetsRead (lone_octets (words rest)) r after
lone-held rest h w = as-read _ (lone-stands rest h w)

-- octets that were read: none, or so many within the memory
module _ {o : WordOctets} {r : (Option ℕ)} {memory : List ℕ} (w : OctetsRead o r memory) where
  pub octets-not : r ≡ None → (ask : List ℕ → Question) → octets_question o ask ≡ no_question
  octets-not e ask = rw (← w.stands, e)

  module _ (n : ℕ) (e : r ≡ Some n) where
    pub octets-asked : (ask : List ℕ → Question) → octets_question o ask ≡ ask (take n memory)
    octets-asked ask = rw (← w.stands, e)

    pub octets-within : n ≤ length memory
    octets-within = rw e at w.within
