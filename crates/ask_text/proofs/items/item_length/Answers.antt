-- Three numbers, two colons, and the character behind them.
use Prim.Native.Nat.{◌+◌}
use native.Mathlib.Omega.{arith}
use lib.ListN.{get_or}
use Rattle.decimals.proofs.DecimalIs.{decimal-most}
use Rattle.ask_text.specs.Items.{item_from}
use Rattle.ask_text.proofs.ItemsJoined.{item-length as item-characters}
use Rattle.ask_text.proofs.items.item_length.Goals as goal

pub overflow_add-result : goal.overflow_add-result
overflow_add-result c =
    omega (arith, decimal-most 20 (get_or c.args.items.now c.args.j 0), decimal-most 20 (get_or c.args.items.now (c.args.j + 1) 0), decimal-most 20 (get_or c.args.items.now (c.args.j + 2) 0), c.count_digits-kind.ensures, c.count_digits-place.ensures, c.count_digits-content.ensures)

pub overflow_add-result-2 : goal.overflow_add-result-2
overflow_add-result-2 c =
    omega (arith, decimal-most 20 (get_or c.args.items.now c.args.j 0), decimal-most 20 (get_or c.args.items.now (c.args.j + 1) 0), decimal-most 20 (get_or c.args.items.now (c.args.j + 2) 0), c.count_digits-kind.ensures, c.count_digits-place.ensures, c.count_digits-content.ensures)

pub overflow_add-result-3 : goal.overflow_add-result-3
overflow_add-result-3 c =
    omega (arith, decimal-most 20 (get_or c.args.items.now c.args.j 0), decimal-most 20 (get_or c.args.items.now (c.args.j + 1) 0), decimal-most 20 (get_or c.args.items.now (c.args.j + 2) 0), c.count_digits-kind.ensures, c.count_digits-place.ensures, c.count_digits-content.ensures)

pub returns : goal.returns
returns c =
    omega (arith, item-characters (item_from c.args.items.now c.args.j), c.count_digits-kind.ensures, c.count_digits-place.ensures, c.count_digits-content.ensures)
