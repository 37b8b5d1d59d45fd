-- The room left, by the characters that are left to count.
use mathlib.Core.Path.{◌≡◌}
use Prim.Native.Nat.{◌+◌, ◌-◌, ◌/◌, ◌≤◌}
use lib.ListN.{length}
use Rattle.ask_text.specs.Items.{items_of, joined}
use Rattle.ask_text.proofs.ItemsJoined.{left_of}
use Rattle.ask_text.proofs.items.fit_joined.Given as goal

abbrev pub invariant-loop-k : goal.invariant-loop-k
invariant-loop-k l = (l.k ≤ length l.items / 3) × (l.left + length (joined (items_of l.items)) ≡ l.room + length (left_of l.items l.k))
