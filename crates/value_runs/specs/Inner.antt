-- What private functions promise each other; nothing that a caller is told rests on these names.
--   Plain    visits that may go at once: of numbers that are not tested, few enough that no place wraps, and nothing is refused yet
--   Row      plain visits of n numbers of a size, the first at p, of which k fit the octets
--   Into     n items go into the table, from its start on, and have room
--   Fits     n octets from a cursor on fit the octets, and their items the table
--   OctetsInto  plain visits of n octets that go into the table as they are
--   value_of  a number that was read, or 0
use Rattle.std.specs.Prelude.{◌≡◌, ◌+◌, ◌*◌, ◌≤◌, ◌<◌, Option, Some, None}
use Rattle.choices.specs.{true, List, ℕ, length}
use Rattle.cdr.specs.{octets_limit, Size, One, octets, behind_gap}
use Rattle.type_numbers.specs.Kinds.{short_kind, boolean_kind}
use Rattle.value_meaning.specs.{Visit.size_of, Visit.content_of, Value.room_in}
use Rattle.value_cursor.specs.{declared.Mode.Mode, declared.Cursor.Cursor}

pub record Plain (kind count fault : ℕ) : Type 0 where
  pub primitive : short_kind ≤ kind
  pub other : kind ≡ boolean_kind → ⊥
  pub some : 0 < count
  pub few : count ≤ octets_limit
  pub fine : fault ≡ 0

pub record Row (v : List ℕ) (m : Mode) (kind : ℕ) (size : Size) (n p : ℕ) (c : Cursor) (k : ℕ) : Type 0 where
  pub plain : Plain kind n c.fault
  pub sized : size ≡ size_of kind
  pub place : p ≡ behind_gap m.start c.at (octets size)
  pub fits : p + k * octets size ≤ length v

pub record Into (m : Mode) (n : ℕ) (c : Cursor) (table : List ℕ) : Type 0 where
  pub fill : m.fill ≡ true
  pub first : m.first ≡ 0
  pub room : c.items + n ≤ room_in table

pub record Fits (v : List ℕ) (n : ℕ) (c : Cursor) (table : List ℕ) : Type 0 where
  pub octets : c.at + n ≤ length v
  pub room : c.items + n ≤ room_in table

pub record OctetsInto (m : Mode) (kind n : ℕ) (c : Cursor) : Type 0 where
  pub plain : Plain kind n c.fault
  pub sized : One ≡ size_of kind
  pub same : (x : ℕ) → content_of kind x ≡ x
  pub fill : m.fill ≡ true
  pub first : m.first ≡ 0

abbrev pub value_of : Option (ℕ × ℕ) → ℕ
value_of (Some (p, x)) = x
value_of None = 0
