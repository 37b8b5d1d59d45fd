-- "Checked type as a struct with arrays of places, starts and orders": which list of kinds the struct stands for. What its entries hold past
-- its count says nothing, and no function reads them.
--   order_in      the order that an entry says
--   entry_at      the kind that the entries at a position say
--   kinds_from    n kinds from a position on
--   kinds_held    how many kinds the struct stands for: its count, of which its arrays have room for the most
--   kinds_met     the list that the struct stands for
--   no_kinds      the struct of no kind
--   entry_limit   the places that an entry can hold are below this
--   kind_fits     there is room for one more kind, at a place and in an encapsulation that the entries can hold, as every one of a type of at
--                most 16,384 octets is
--   added        the struct with one more kind
use Rattle.std.specs.Prelude.{◌+◌, ◌^◌, ◌∷◌, ◌&&◌}
use Rattle.choices.specs.{ℕ, zero, suc, min, List, [], Bool, cond, ltb, eqb, get_or, set, replicate}
use Rattle.cdr.specs.{Place, Order, Big, Little, Orders.order_octet}
use Rattle.type_kinds.specs.{Kind, place_of, written_at}
use Rattle.type_list.specs.{declared.Met.Met}
use Rattle.type_numbers.specs.{kinds_limit}

abbrev pub order_in : ℕ → Order
order_in octet = cond (eqb octet 1) Little Big

abbrev pub entry_at : Met → ℕ → Kind
entry_at m j = written_at (place_of (get_or m.places j 0)) (place_of (get_or m.starts j 0)) (order_in (get_or m.orders j 0))

unfoldable pub kinds_from : Met → ℕ → ℕ → List Kind
kinds_from m zero i = []
kinds_from m (suc n) i = entry_at m i ∷ kinds_from m n (i + 1)

abbrev pub kinds_held : Met → ℕ
kinds_held m = min m.count kinds_limit

unfoldable pub kinds_met : Met → List Kind
kinds_met m = kinds_from m (kinds_held m) 0

abbrev pub no_kinds : Met
no_kinds = record { places = replicate kinds_limit 0; starts = replicate kinds_limit 0; orders = replicate kinds_limit 0; count = 0 }

abbrev pub entry_limit : ℕ
entry_limit = 2 ^ 16

abbrev pub kind_fits : Met → Place → Place → Bool
kind_fits m p b = ltb m.count kinds_limit && (ltb p.0 entry_limit && ltb b.0 entry_limit)

unfoldable pub added : Met → Place → Place → Order → Met
added m p b order =
    cond (kind_fits m p b)
    (record {
      places = set m.places m.count p.0;
      starts = set m.starts m.count b.0;
      orders = set m.orders m.count (order_octet order);
      count = m.count + 1;
    })
    m
