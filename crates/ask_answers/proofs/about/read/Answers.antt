-- The octets of one word, then of the other.
use mathlib.Core.List.{List}
use Prim.Native.Nat.{ℕ, ◌*◌, ◌≤◌}
use native.Mathlib.Omega.{arith}
use lib.ListN.{length}
use Rattle.ask_words.specs.Inner.{part}
use Rattle.ask_octets.specs.Octets.{octets_word}
use Rattle.ask_answers.specs.Inner.{OctetsRead}
use Rattle.ask_answers.proofs.WordsStand.{word-read}
use Rattle.ask_answers.proofs.ItemsStand.{about-no-type, about-no-value, about-is, part-most}
use Rattle.ask_answers.proofs.about.read.Goals as goal

-- a word of a line that is within twice the memory
within : (rest memory : List ℕ) (from end : ℕ) → length rest ≤ length memory * 2 → length (part rest from end) ≤ length memory * 2
within rest memory from end h = omega (arith, part-most rest from end)

pub returns-in_err-type_count : goal.returns-in_err-type_count
returns-in_err-type_count c =
    let rest = c.args.rest.now in
    let s = c.args.subject in
    rw c.from_residual.ensures
    (about-no-type rest s _ _ (word-read (part rest s.typed.from s.typed.end) (within rest _ _ _ c.requires.1) c.read.ensures) _ c.in_err-type_count.was)

pub returns-in_err-value_count : goal.returns-in_err-value_count
returns-in_err-value_count c =
    let rest = c.args.rest.now in
    let s = c.args.subject in
    rw c.from_residual-in_err-value_count.ensures
    (about-no-value rest s _ _ (word-read (part rest s.typed.from s.typed.end) (within rest _ _ _ c.requires.1) c.read.ensures) _ c.in_ok-type_count.was
    _ _ (word-read (part rest s.value.from s.value.end) (within rest _ _ _ c.requires.2) c.read-2.ensures) c.in_err-value_count.was)

pub returns : goal.returns
returns c =
    let rest = c.args.rest.now in
    let s = c.args.subject in
    about-is rest s _ _ (word-read (part rest s.typed.from s.typed.end) (within rest _ _ _ c.requires.1) c.read.ensures) _ c.in_ok-type_count.was
    _ _ (word-read (part rest s.value.from s.value.end) (within rest _ _ _ c.requires.2) c.read-2.ensures) _ c.in_ok-value_count.was
