-- Kinds of one octet.
use native.Mathlib.Omega.{arith}
use Rattle.rewrite.proofs.ItemsWritten.{octet-kind}
use Rattle.rewrite.proofs.rows.is_octet.Goals as goal

pub returns-in-8 : goal.returns-in-8
returns-in-8 c = λ e. octet-kind c.args.kind (omega arith) (omega arith)
