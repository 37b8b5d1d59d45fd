-- An octet, or more.
use Rattle.rewrite_meaning.specs.Written.{target}
use Rattle.rewrite.proofs.ItemsWritten.{octet-ends, octet-octets}
use Rattle.rewrite.proofs.rows.write_item.Goals as goal

pub returns-then-is_octet : goal.returns-then-is_octet
returns-then-is_octet c = (
  octet-ends c.args.index c.args.at c.args.kind c.args.content (c.is_octet.ensures c.if-is_octet.true),
  octet-octets (target c.args.order c.args.index) c.args.value.now c.args.out.now c.args.at c.args.kind c.args.place c.args.content
      (c.is_octet.ensures c.if-is_octet.true),
)
