-- Each part by what it is.
use mathlib.Core.Path.{sym, subst}
use Rattle.header_head.specs.Inner.{CopiesPart}
use Rattle.header_head.proofs.CopiedParts.{contexts-part, id-part, response-part, reserved-part, key-part, target-part, operation-part}
use Rattle.header_head.proofs.CopiedParts.{principal-part, status-part}
use Rattle.header_head.proofs.copies.part.Goals as goal

pub returns-in-Contexts : goal.returns-in-Contexts
returns-in-Contexts c =
    subst (CopiesPart c.args.s.now c.args.order c.args.at c.args.out.now _ _ c.args.minor) (sym c.in-Contexts.is)
    (contexts-part c.args.s.now c.args.order c.args.minor c.args.at c.args.out.now _ _ c.list.ensures)

pub returns-in-Id : goal.returns-in-Id
returns-in-Id c =
    subst (CopiesPart c.args.s.now c.args.order c.args.at c.args.out.now _ _ c.args.minor) (sym c.in-Id.is)
    (id-part c.args.s.now c.args.order c.args.minor c.args.at c.args.out.now _ _ c.number.ensures)

pub returns-in-Response : goal.returns-in-Response
returns-in-Response c =
    subst (CopiesPart c.args.s.now c.args.order c.args.at c.args.out.now _ _ c.args.minor) (sym c.in-Response.is)
    (response-part c.args.s.now c.args.order c.args.minor c.args.at c.args.out.now _ _ c.number-in-Response.ensures)

pub returns-in-Reserved : goal.returns-in-Reserved
returns-in-Reserved c =
    subst (CopiesPart c.args.s.now c.args.order c.args.at c.args.out.now _ _ c.args.minor) (sym c.in-Reserved.is)
    (reserved-part c.args.s.now c.args.order c.args.minor c.args.at c.args.out.now _ _ c.reserved.ensures)

pub returns-in-Key : goal.returns-in-Key
returns-in-Key c =
    subst (CopiesPart c.args.s.now c.args.order c.args.at c.args.out.now _ _ c.args.minor) (sym c.in-Key.is)
    (key-part c.args.s.now c.args.order c.args.minor c.args.at c.args.out.now _ _ c.counted.ensures)

pub returns-in-Target : goal.returns-in-Target
returns-in-Target c =
    subst (CopiesPart c.args.s.now c.args.order c.args.at c.args.out.now _ _ c.args.minor) (sym c.in-Target.is)
    (target-part c.args.s.now c.args.order c.args.minor c.args.at c.args.out.now _ _ c.target.ensures)

pub returns-in-Operation : goal.returns-in-Operation
returns-in-Operation c =
    subst (CopiesPart c.args.s.now c.args.order c.args.at c.args.out.now _ _ c.args.minor) (sym c.in-Operation.is)
    (operation-part c.args.s.now c.args.order c.args.minor c.args.at c.args.out.now _ _ c.counted-in-Operation.ensures)

pub returns-in-Principal : goal.returns-in-Principal
returns-in-Principal c =
    subst (CopiesPart c.args.s.now c.args.order c.args.at c.args.out.now _ _ c.args.minor) (sym c.in-Principal.is)
    (principal-part c.args.s.now c.args.order c.args.minor c.args.at c.args.out.now _ _ c.counted-in-Principal.ensures)

pub returns-in-Status : goal.returns-in-Status
returns-in-Status c =
    subst (CopiesPart c.args.s.now c.args.order c.args.at c.args.out.now _ _ c.args.minor) (sym c.in-Status.is)
    (status-part c.args.s.now c.args.order c.args.minor c.args.at c.args.out.now _ _ c.number-in-Status.ensures)
