-- No header, or that of the type.
use mathlib.Core.Path.{sym, ◌∙◌}
use Rattle.header.proofs.HeadersRead.{none-of-more, none-of-type, of-type}
use Rattle.header.proofs.header_in.Goals as goal
use Rattle.header.proofs.header_in.Goals.{then-h-via-then-h, then-h-via-else-h+then-h-gt-REPLY}

pub returns-then-h : goal.returns-then-h
returns-then-h c =
    elim c.then-h.branch [
      | then-h-via-then-h w ↦ sym (none-of-more c.args.s.now c.args.h w.if-h.true)
      | then-h-via-else-h+then-h-gt-REPLY w ↦ sym (none-of-type c.args.s.now c.args.h w.if-h.false w.if-h-gt-REPLY.true)
    ]

pub returns : goal.returns
returns c =
    c.by_type.ensures ∙ sym (of-type c.args.s.now c.args.h c.if-h.false c.if-h-gt-REPLY.false)
