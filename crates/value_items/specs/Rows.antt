-- "Items are three 64-bit numbers: kind, place, content."
--   Item       an item; `item` the same from its parts
--   item_rows   items as numbers, three each
use Rattle.std.specs.Prelude.{ℕ, List, [], ◌∷◌}

pub record Item : Type 0 where
  pub kind : ℕ
  pub place : ℕ
  pub content : ℕ

abbrev pub item : ℕ → ℕ → ℕ → Item
item kind place content = record { kind = kind; place = place; content = content }

unfoldable pub item_rows : List Item → List ℕ
item_rows [] = []
item_rows (i ∷ is) = i.kind ∷ i.place ∷ i.content ∷ item_rows is
