-- A size that its type allows has room for the request id.
use mathlib.Core.Path.{◌≡◌, sym, ap, ◌∙◌}
use Prim.Native.Nat.{◌-◌}
use native.Mathlib.Omega.{arith}
use lib.ListN.{length}
use Rattle.cdr.specs.Number.{number_at}
use Rattle.frame.specs.Header.{header_size, minor_at, message_type_at, size_at}
use Rattle.frame.specs.Frames.{size_allowed}
use Rattle.frame.proofs.RowsPassed.{id-there}
use Rattle.frame.proofs.sized.Goals as goal

pub request_id-id-requires : goal.request_id-id-requires
request_id-id-requires c =
    let size_is : c.word-size.result ≡ size_at c.args.octets.now = c.word-size.ensures ∙ ap (number_at c.args.octets.now 8 4) c.order_flag-order.ensures in
    let equal : size_at c.args.octets.now ≡ length c.args.octets.now - header_size = let e = size_is in omega arith in
    let size-fits-is = c.size_allowed-size_fits.ensures ∙ ap (size_allowed (minor_at c.args.octets.now) (message_type_at c.args.octets.now)) size_is in
    id-there c.args.octets.now equal (sym size-fits-is ∙ c.if-not-size_fits.false) c.requires
