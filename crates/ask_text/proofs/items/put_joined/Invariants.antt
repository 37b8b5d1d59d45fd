-- What is written so far, with what is left to write, is what is written in all.
use mathlib.Core.Path.{◌≡◌}
use Prim.Native.Nat.{◌+◌, ◌-◌, ◌/◌, ◌≤◌}
use lib.ListN.{length}
use lib.Seq.{sets}
use Rattle.ask_text.specs.Items.{items_of, joined}
use Rattle.ask_text.proofs.ItemsJoined.{left_of}
use Rattle.ask_text.proofs.items.put_joined.Given as goal

abbrev pub invariant-loop-k : goal.invariant-loop-k
invariant-loop-k l = (l.k ≤ length l.items / 3) × (length l.out ≡ length l.initial.out) × (l.end + length (left_of l.items l.k) ≡ l.at + length (joined (items_of l.items)))
    × (sets l.out l.end (left_of l.items l.k) ≡ sets l.initial.out l.at (joined (items_of l.items)))
