-- The steps amount to what the definitions say, and what is kept fits.
use mathlib.Core.Path.{◌≡◌}
use Prim.Native.Nat.{◌+◌, ◌≤◌}
use native.Mathlib.Omega.{arith}
use lib.ListN.{length, take, drop}
use lib.Seq.{sets}
use Rattle.lines.proofs.TakenBySteps.{up-within, held_fits, count_fits, kept-as, steps-taken}
use Rattle.lines.proofs.take_line.Goals as goal

pub overflow_add-stop : goal.overflow_add-stop
overflow_add-stop c =
    omega (arith, up-within c.min-start.result c.args.block.now (omega arith))

pub slice_bounds-write_octets-end : goal.slice_bounds-write_octets-end
slice_bounds-write_octets-end c =
    omega (arith, up-within c.min-start.result c.args.block.now (omega arith))

pub returns : goal.returns
returns c =
    let stops : (c.min-start.result ≤ c.find_lf-stop.result) × (c.find_lf-stop.result ≤ length c.args.block.now) = let w = up-within c.min-start.result c.args.block.now (omega arith) in
    (omega (arith, c.find_lf-stop.ensures), omega (arith, c.find_lf-stop.ensures, w)) in
    let fits : (c.min-held.result + c.min-count.result ≤ length c.args.line.now) × (c.min-start.result + c.min-count.result ≤ length c.args.block.now) = let s = stops in (
      held_fits c.args.kept (length c.args.line.now) _ _ _ c.min-held.ensures c.min-count.ensures,
      count_fits c.min-start.result c.find_lf-stop.result (length c.args.block.now) _ _ s.0 s.1 c.min-count.ensures,
    ) in
    let kept-is : c.write_octets.new.out ≡ sets c.args.line.now c.min-held.result (take c.min-count.result (drop c.min-start.result c.args.block.now)) = kept-as c.args.block.now c.args.line.now c.min-start.result c.min-held.result c.min-count.result _ _ (fits).0 (fits).1 c.write_octets.ensures in
    rw (kept-is)
    (steps-taken c.args.block.now c.args.line.now c.args.from c.args.kept _ _ _ _ _ c.min-start.ensures c.min-held.ensures c.find_lf-stop.ensures c.min-next.ensures c.min-count.ensures)
