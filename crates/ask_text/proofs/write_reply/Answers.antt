-- The text before the items or octets is put into memory that has room for it, and written from there, with what follows it.
use borrow.Enum.Refused.{opened}
use mathlib.Core.Path.{refl, sym, ap, subst, ◌∙◌}
use mathlib.Core.List.{List, ◌++◌}
use Prim.Native.Nat.{ℕ}
use native.Mathlib.Omega.{arith}
use lib.Seq.{length-take-le}
use Rattle.cdr_write.specs.Write.{Stored}
use Rattle.ask_text.specs.Items.{lf, items_of, items_text}
use Rattle.ask_text.specs.Replies.{octets_text, said_text, head_text}
use Rattle.ask_text.proofs.TextsFit.{head-end, head-is, read-text, rewritten-text, profiled-text, component-text, other_text}
use Rattle.ask_text.proofs.write_reply.Goals as goal

pub slice_bounds-head-end : goal.slice_bounds-head-end
slice_bounds-head-end c =
    omega (arith, c.put-end.auto.out, head-end c.args.reply _ refl _ _ c.put-end.ensures)

pub slice_bounds-write-end : goal.slice_bounds-write-end
slice_bounds-write-end c =
    sym (length-take-le _ _ (omega (arith, c.put-end.auto.out, head-end c.args.reply _ refl _ _ c.put-end.ensures)))

pub slice_bounds-head-end-in-Rewritten : goal.slice_bounds-head-end-in-Rewritten
slice_bounds-head-end-in-Rewritten c =
    omega (arith, c.put-end.auto.out, head-end c.args.reply _ refl _ _ c.put-end.ensures)

pub slice_bounds-write-end-in-Rewritten : goal.slice_bounds-write-end-in-Rewritten
slice_bounds-write-end-in-Rewritten c =
    sym (length-take-le _ _ (omega (arith, c.put-end.auto.out, head-end c.args.reply _ refl _ _ c.put-end.ensures)))

pub slice_bounds-head-end-in-Profiled : goal.slice_bounds-head-end-in-Profiled
slice_bounds-head-end-in-Profiled c =
    omega (arith, c.put-end.auto.out, head-end c.args.reply _ refl _ _ c.put-end.ensures)

pub slice_bounds-write-end-in-Profiled : goal.slice_bounds-write-end-in-Profiled
slice_bounds-write-end-in-Profiled c =
    sym (length-take-le _ _ (omega (arith, c.put-end.auto.out, head-end c.args.reply _ refl _ _ c.put-end.ensures)))

pub slice_bounds-head-end-in-Component : goal.slice_bounds-head-end-in-Component
slice_bounds-head-end-in-Component c =
    omega (arith, c.put-end.auto.out, head-end c.args.reply _ refl _ _ c.put-end.ensures)

pub slice_bounds-write-end-in-Component : goal.slice_bounds-write-end-in-Component
slice_bounds-write-end-in-Component c =
    sym (length-take-le _ _ (omega (arith, c.put-end.auto.out, head-end c.args.reply _ refl _ _ c.put-end.ensures)))

pub slice_bounds-head-end-in-Typed : goal.slice_bounds-head-end-in-Typed
slice_bounds-head-end-in-Typed c =
    omega (arith, c.put-end.auto.out, head-end c.args.reply _ refl _ _ c.put-end.ensures)

pub slice_bounds-write_octets-end : goal.slice_bounds-write_octets-end
slice_bounds-write_octets-end c =
    sym (length-take-le _ _ (omega (arith, c.put-end.auto.out, head-end c.args.reply _ refl _ _ c.put-end.ensures)))

pub returns-in-Read : goal.returns-in-Read
returns-in-Read c =
    subst (λ (xs : List ℕ). Stored c.args.out.now c.args.at xs c.write.result c.write.new.out)
    (ap (λ (xs : List ℕ). xs ++ items_text (items_of c.args.items.now)) (head-is c.args.reply _ refl _ _ c.put-end.ensures) ∙ read-text c.args.reply (items_of c.args.items.now) c.args.octets.now c.in-Read.in-Read-own.keys1)
    c.write.ensures

pub returns-in-Rewritten : goal.returns-in-Rewritten
returns-in-Rewritten c =
    subst (λ (xs : List ℕ). Stored c.args.out.now c.args.at xs c.write-in-Rewritten.result c.write-in-Rewritten.new.out)
    (ap (λ (xs : List ℕ). xs ++ octets_text c.args.octets.now lf) (head-is c.args.reply _ refl _ _ c.put-end.ensures) ∙ rewritten-text c.args.reply (items_of c.args.items.now) c.args.octets.now c.in-Rewritten.in-Rewritten-own.keys2)
    c.write-in-Rewritten.ensures

pub returns-in-Profiled : goal.returns-in-Profiled
returns-in-Profiled c =
    subst (λ (xs : List ℕ). Stored c.args.out.now c.args.at xs c.write-in-Profiled.result c.write-in-Profiled.new.out)
    (ap (λ (xs : List ℕ). xs ++ said_text c.in-Profiled.said c.args.octets.now) (head-is c.args.reply _ refl _ _ c.put-end.ensures) ∙ profiled-text c.args.reply (items_of c.args.items.now) c.args.octets.now _ _ c.in-Profiled.is)
    c.write-in-Profiled.ensures

pub returns-in-Component : goal.returns-in-Component
returns-in-Component c =
    subst (λ (xs : List ℕ). Stored c.args.out.now c.args.at xs c.write-in-Component.result c.write-in-Component.new.out)
    (ap (λ (xs : List ℕ). xs ++ octets_text c.octets_in.result.now lf) (head-is c.args.reply _ refl _ _ c.put-end.ensures) ∙ ap (λ (ys : List ℕ). head_text c.args.reply ++ octets_text ys lf) c.octets_in.ensures.octets ∙ component-text c.args.reply (items_of c.args.items.now) c.args.octets.now _ _ _ c.in-Component.is)
    c.write-in-Component.ensures

pub returns-in-Typed : goal.returns-in-Typed
returns-in-Typed c =
    subst (λ (xs : List ℕ). Stored c.args.out.now c.args.at xs c.write_octets.result c.write_octets.new.out)
    (head-is c.args.reply _ refl _ _ c.put-end.ensures ∙ other_text c.args.reply (items_of c.args.items.now) c.args.octets.now (opened c.in-Typed.in-Typed-own.keys5))
    c.write_octets.ensures
