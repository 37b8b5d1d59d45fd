-- Where a walk over a value is, as a state of the reading.
--   sink_of      the sink of a walk's mode
--   source_of    the value's octets in a walk's mode
--   state_of     a cursor with the table as a state of the reading
--   cursor_start  the cursor before the first octet
--   leaf_visit   a visit of a kind without parameters
use Rattle.choices.specs.{ℕ, List}
use Rattle.value_meaning.specs.{Source, source, Sink, St, st, begun, Visit.leaf_at}
use Rattle.value_cursor.specs.{declared.Mode.Mode, declared.Cursor.Cursor, Lent.Lent, Lent.lent_of, Lent.lent_sink}

abbrev pub sink_of : Mode → Sink Lent
sink_of m = lent_sink m.limited m.fill m.first

abbrev pub source_of : Mode → List ℕ → Source
source_of m v = source v m.order m.start

abbrev pub state_of : Cursor → List ℕ → St Lent
state_of c table = st c.at c.fault c.last (lent_of c.visits c.items table)

abbrev pub cursor_start : Cursor
cursor_start = record { at = 0; visits = 0; items = 0; fault = 0; last = 0 }

abbrev pub leaf_visit : Mode → List ℕ → ℕ → St Lent → St Lent
leaf_visit m v kind s = leaf_at (sink_of m) (source_of m v) kind (begun (sink_of m) s)
