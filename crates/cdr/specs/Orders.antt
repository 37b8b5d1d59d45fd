-- "An order octet (0 big, 1 little)."
--   order_octet    the octet of an order
--   order_of       the order that an octet names, if it is 0 or 1
--   order_of_flag   the order that a flag of the C interface says: little-endian, or not
use Rattle.std.specs.Prelude.{ℕ, Bool, cond, eqb, Option, Some, None}
use Rattle.cdr.specs.declared.Order.{Order}
use Rattle.cdr.specs.declared.Order.TheVariants.{Big, Little}

abbrev pub order_octet : Order → ℕ
order_octet Big = 0
order_octet Little = 1

abbrev pub order_of : ℕ → Option Order
order_of octet = cond (eqb octet 0) (Some Big) (cond (eqb octet 1) (Some Little) None)

abbrev pub order_of_flag : Bool → Order
order_of_flag little = cond little Little Big
