-- The text of a value's items: "ITEMS is `KIND:PLACE:CONTENT` joined by commas, each an unsigned 64-bit decimal, or `-`".
--   colon, comma  the characters between an item's numbers, and between items
--   item_from      the item whose three numbers stand from a place on
--   items_of       the items of numbers, three each
--   item_text      `KIND:PLACE:CONTENT`
--   item_separator       the character behind an item: a comma, or the answer's LF behind the last
--   joined        items, each with the character behind it
--   items_text     ITEMS and the answer's LF
use Rattle.std.specs.Prelude.{List, [], ◌∷◌, ◌++◌, ℕ, ◌+◌, get_or}
use Rattle.value_items.specs.Rows.{Item, item}
use Rattle.decimals.specs.Decimal.{decimal}
pub use Rattle.lines.specs.Lines.{lf, hyphen}

abbrev pub colon : ℕ
colon = 58

abbrev pub comma : ℕ
comma = 44

abbrev pub item_from : List ℕ → ℕ → Item
item_from numbers j = item (get_or numbers j 0) (get_or numbers (j + 1) 0) (get_or numbers (j + 2) 0)

unfoldable pub items_of : List ℕ → List Item
items_of [] = []
items_of (kind ∷ []) = []
items_of (kind ∷ place ∷ []) = []
items_of (kind ∷ place ∷ content ∷ rest) = item kind place content ∷ items_of rest

unfoldable pub item_text : Item → List ℕ
item_text i = decimal i.kind ++ (colon ∷ (decimal i.place ++ (colon ∷ decimal i.content)))

abbrev pub item_separator : List Item → ℕ
item_separator [] = lf
item_separator (i ∷ is) = comma

unfoldable pub joined : List Item → List ℕ
joined [] = []
joined (i ∷ is) = item_text i ++ (item_separator is ∷ joined is)

abbrev pub items_text : List Item → List ℕ
items_text [] = hyphen ∷ lf ∷ []
items_text (i ∷ is) = joined (i ∷ is)
