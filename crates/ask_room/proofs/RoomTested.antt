-- The test of the room for a line's answer: what it says, and what says it.
use mathlib.Core.Path.{◌≡◌}
use mathlib.Core.Bool.{true, false}
use Prim.Native.Nat.{ℕ, ◌+◌, ◌<◌, ◌≤◌}
use lib.Dec.{leb}
use borrow.Author.Tests.{le-leb, lt-leb, leb-true}
use Rattle.choices.proofs.Choices.{and-true}
use Rattle.ask_room.specs.Room.{table_room, answer_most, answer_room}

module _ (table out at : ℕ) where
  pub short-table : table < table_room → false ≡ answer_room table out at
  short-table h = rw (lt-leb table_room table h)

  pub short-output : table_room ≤ table → out < at + answer_most → false ≡ answer_room table out at
  short-output h k = rw (le-leb table_room table h, lt-leb (at + answer_most) out k)

  pub roomy : table_room ≤ table → at + answer_most ≤ out → true ≡ answer_room table out at
  roomy h k = rw (le-leb table_room table h, le-leb (at + answer_most) out k)

  pub table-enough : answer_room table out at ≡ true → table_room ≤ table
  table-enough e = leb-true table_room table (and-true (leb table_room table) (leb (at + answer_most) out) e).0

  pub output-enough : answer_room table out at ≡ true → at + answer_most ≤ out
  output-enough e = leb-true (at + answer_most) out (and-true (leb table_room table) (leb (at + answer_most) out) e).1
