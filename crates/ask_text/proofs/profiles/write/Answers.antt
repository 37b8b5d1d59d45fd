-- The numbers are put into memory that has room for them, and written from there with host and key.
use mathlib.Core.Path.{sym, subst}
use mathlib.Core.List.{List, [], ◌∷◌, ◌++◌}
use Prim.Native.Nat.{ℕ}
use native.Mathlib.Omega.{arith}
use lib.Seq.{length-take-le}
use Rattle.decimals.specs.Decimal.{decimal}
use Rattle.decimals.proofs.CharactersPut.{put-taken, number-most}
use Rattle.cdr_write.specs.Write.{Stored}
use Rattle.ask_text.specs.Items.{lf}
use Rattle.ask_text.specs.Replies.{space}
use Rattle.ask_text.proofs.TextsFit.{said-parts}
use Rattle.ask_text.proofs.profiles.write.Goals as goal

pub put_number-n-requires : goal.put_number-n-requires
put_number-n-requires c =
    omega (arith, number-most c.args.said.port (space ∷ []))

pub slice_bounds-port-end : goal.slice_bounds-port-end
slice_bounds-port-end c =
    omega (arith, c.put_number-n.auto.out, c.put_number-n.ensures.end, number-most c.args.said.port (space ∷ []))

pub slice_bounds-write_parts-end : goal.slice_bounds-write_parts-end
slice_bounds-write_parts-end c =
    sym (length-take-le _ _ (omega (arith, c.put_number-n.auto.out, c.put_number-n.ensures.end, number-most c.args.said.port (space ∷ []))))

pub slice_bounds-counts-end : goal.slice_bounds-counts-end
slice_bounds-counts-end c =
    omega (arith, c.put_two-m.auto.out, c.put_two-m.ensures.end, number-most c.args.said.components (space ∷ (decimal c.args.said.extra ++ (lf ∷ []))), number-most c.args.said.extra (lf ∷ []))

pub slice_bounds-write_parts-end-2 : goal.slice_bounds-write_parts-end-2
slice_bounds-write_parts-end-2 c =
    sym (length-take-le _ _ (omega (arith, c.put_two-m.auto.out, c.put_two-m.ensures.end, number-most c.args.said.components (space ∷ (decimal c.args.said.extra ++ (lf ∷ []))), number-most c.args.said.extra (lf ∷ []))))

pub returns : goal.returns
returns c =
    let port-most = number-most c.args.said.port (space ∷ []) in
    let components-most = number-most c.args.said.components (space ∷ (decimal c.args.said.extra ++ (lf ∷ []))) in
    let extra-most = number-most c.args.said.extra (lf ∷ []) in
    subst (λ (xs : List ℕ). Stored c.args.out.now c.args.at xs c.write_parts.result c.write_parts.new.out)
    (said-parts c.args.head.now c.args.said c.args.body.now c.octets_in-host.ensures.octets c.octets_in-key.ensures.octets
    (put-taken c.put_number-n.ensures (omega (arith, c.put_number-n.auto.out, c.put_number-n.ensures.end, port-most)))
    (put-taken c.put_two-m.ensures (omega (arith, c.put_two-m.auto.out, c.put_two-m.ensures.end, components-most, extra-most))))
    c.write_parts.ensures
