-- From within the octets as many fit as are left; past the end nothing does.
use mathlib.Core.Path.{sym, ◌∙◌}
use native.Mathlib.Omega.{arith}
use borrow.Author.Tests.{lt-leb}
use Rattle.cdr.proofs.RoomFits.{room-lacks, fits-left}
use Rattle.cdr.proofs.fits.Goals as goal

pub returns-then-at-len : goal.returns-then-at-len
returns-then-at-len c = fits-left c.args.len c.args.at c.args.count c.if-at-len.true

pub returns-else-at-len : goal.returns-else-at-len
returns-else-at-len c =
    lt-leb c.args.at c.args.len c.if-at-len.false ∙ sym (room-lacks c.args.len c.args.at c.args.count (omega (arith, c.if-at-len.false)))
