-- By what the writer of the joined message answers; a place that is open has a header.
use Rattle.std.specs.Prelude.{Err}
use mathlib.Core.Path.{ap, ◌∙◌}
use Rattle.joining.proofs.JoinedTakes.{written-whole, written-not, has-header}
use Rattle.joining.proofs.complete.Goals as goal

pub returns-in-Ok : goal.returns-in-Ok
returns-in-Ok c =
    written-whole c.args.octets.now c.args.before c.args.places.now c.args.i c.requires c.args.out.now _ _
    c.write_joined.ensures c.in-Ok.n c.in-Ok.is c.closed-freed.result c.closed-freed.ensures

pub returns-in-Err-NoRoom : goal.returns-in-Err-NoRoom
returns-in-Err-NoRoom c =
    written-not c.args.octets.now c.args.before c.args.places.now c.args.i c.requires c.args.out.now _ _
    c.write_joined.ensures c.refused.result (c.in-Err-NoRoom.is ∙ ap Err c.in-Err-NoRoom.field-0-is) c.refused.ensures

pub returns-in-Err-NoHeader : goal.returns-in-Err-NoHeader
returns-in-Err-NoHeader c =
    absurd
    (has-header c.args.octets.now c.args.before c.args.places.now c.args.i c.requires c.args.out.now _ _ c.write_joined.ensures (c.in-Err-NoHeader.is ∙ ap Err c.in-Err-NoHeader.field-0-is))
