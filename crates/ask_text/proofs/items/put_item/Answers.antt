-- One number behind the other.
use mathlib.Core.Path.{subst}
use mathlib.Core.List.{List}
use Prim.Native.Nat.{ℕ, ◌+◌}
use native.Mathlib.Omega.{arith}
use lib.ListN.{get_or}
use Rattle.decimals.specs.Puts.{Put}
use Rattle.decimals.proofs.CharactersPut.{put_then}
use Rattle.ask_text.specs.Items.{item_from}
use Rattle.ask_text.proofs.ItemsJoined.{item-length as item-characters, item-text, number-length}
use Rattle.ask_text.proofs.items.put_item.Goals as goal

pub put_number-placed-requires : goal.put_number-placed-requires
put_number-placed-requires c =
    omega (arith, item-characters (item_from c.args.items.now c.args.j), number-length (get_or c.args.items.now c.args.j 0) 58, number-length (get_or c.args.items.now (c.args.j + 1) 0) 58, number-length (get_or c.args.items.now (c.args.j + 2) 0) c.args.behind, c.requires.1)

pub put_number-filled-requires : goal.put_number-filled-requires
put_number-filled-requires c =
    omega (arith, item-characters (item_from c.args.items.now c.args.j), number-length (get_or c.args.items.now c.args.j 0) 58, number-length (get_or c.args.items.now (c.args.j + 1) 0) 58, number-length (get_or c.args.items.now (c.args.j + 2) 0) c.args.behind, c.requires.1, c.put_number-placed.ensures.end, c.put_number-placed.auto.out)

pub put_number-requires : goal.put_number-requires
put_number-requires c =
    omega (arith, item-characters (item_from c.args.items.now c.args.j), number-length (get_or c.args.items.now c.args.j 0) 58, number-length (get_or c.args.items.now (c.args.j + 1) 0) 58, number-length (get_or c.args.items.now (c.args.j + 2) 0) c.args.behind, c.requires.1, c.put_number-placed.ensures.end, c.put_number-filled.ensures.end, c.put_number-placed.auto.out, c.put_number-filled.auto.out)

pub returns : goal.returns
returns c =
    subst (λ (xs : List ℕ). Put c.args.out.now c.args.at xs c.put_number.result c.put_number.new.out)
    (item-text (item_from c.args.items.now c.args.j) c.args.behind)
    (put_then c.put_number-placed.ensures (put_then c.put_number-filled.ensures c.put_number.ensures))
