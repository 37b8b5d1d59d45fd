-- What private functions promise each other; nothing that a caller is told rests on these names. An accepted reading's
-- octets are those of its items: a number, and behind a text's or a run's length its octets as they are.
--   width_of      the size of an item's number: lengths, counts, tags and enums have four octets
--   head_of       the number that stands for an item: a text's length counts its final zero
--   tail_of       how many octets stand behind the number as they are
--   Octet        an item that is an octet by itself
--   item_end      where an item ends that is written from `at` on, the first octet having the index `start`
--   item_octets   an item's octets from `at` on, its gap among them; v is the value that was read
--   up_to         the octets of the first n items, one after the other
--   reach        how many they are
--   row_of        the item in a row of a table
--   Sized        a table whose first n rows are items with no more octets than a value has
--   Rows         a table whose first n rows are items of a value
--   Readable     a value that is not too long, under an accepted type: a machine word holds its visits, it has no more items than octets,
--                and kinds without parameters are null, void and primitives
--   RoomForItems  a table with room for as many items as a value has octets
--   Rewrites     an answer and an output that are those of a reading
use Rattle.std.specs.Prelude.{◌≡◌, ◌||◌, ◌++◌, ◌+◌, ◌*◌, ◌≤◌, ◌<◌}
use Rattle.choices.specs.{Bool, cond, List, [], ℕ, zero, suc, eqb, length, get_or, take, drop}
use Rattle.choices.specs.{replicate}
use Rattle.cdr.specs.{Index, Size, One, Four, octets, gap, behind_gap, octets_of, octets_limit}
use Rattle.type_kinds.specs.{Plain, Inner, Leaf, Forms.form_of}
use Rattle.type_unions.specs.{flat}
use Rattle.type_numbers.specs.Kinds.{enum_kind, string_kind, sequence_kind, run_kind}
use Rattle.value_meaning.specs.{Source, Item, item, any_room, reading, Visit.Checked, Visit.size_of}
use Rattle.value_typed.specs.Typed.{FitsWords}
use Rattle.rewrite_meaning.specs.{declared.RewriteAnswer.RewriteAnswer, Written.Target, Written.written, Rewriting.rewrite_of, Rewriting.written_by}

unfoldable pub width_of : ℕ → Size
width_of kind = cond (eqb kind enum_kind || (eqb kind string_kind || (eqb kind sequence_kind || eqb kind run_kind))) Four (size_of kind)

unfoldable pub head_of : ℕ → ℕ → ℕ
head_of kind content = cond (eqb kind string_kind) (content + 1) content

unfoldable pub tail_of : ℕ → ℕ → ℕ
tail_of kind content = cond (eqb kind string_kind) (content + 1) (cond (eqb kind run_kind) content 0)

pub record Octet (kind : ℕ) : Type 0 where
  pub width : width_of kind ≡ One
  pub head : (content : ℕ) → head_of kind content ≡ content
  pub tail : (content : ℕ) → tail_of kind content ≡ 0

abbrev pub item_end : Index → ℕ → ℕ → ℕ → ℕ
item_end start at kind content = behind_gap start at (octets (width_of kind)) + octets (width_of kind) + tail_of kind content

abbrev pub item_octets : Target → List ℕ → ℕ → Item → List ℕ
item_octets to v at i =
    replicate (gap (to.start.0 + at) (octets (width_of i.kind))) 0
    ++ (octets_of to.order (octets (width_of i.kind)) (head_of i.kind i.content)
    ++ take (tail_of i.kind i.content) (drop i.place v))

unfoldable pub up_to : Target → List ℕ → (ℕ → Item) → ℕ → List ℕ
up_to to v items zero = []
up_to to v items (suc n) = up_to to v items n ++ item_octets to v (length (up_to to v items n)) (items n)

unfoldable pub reach : Index → (ℕ → Item) → ℕ → ℕ
reach start items zero = 0
reach start items (suc n) = item_end start (reach start items n) (items n).kind (items n).content

abbrev pub row_of : List ℕ → ℕ → Item
row_of rows k = item (get_or rows (k * 3) 0) (get_or rows (k * 3 + 1) 0) (get_or rows (k * 3 + 2) 0)

pub record Sized (rows : List ℕ) (n : ℕ) : Type 0 where
  pub few : n ≤ octets_limit
  pub there : n * 3 ≤ length rows
  pub tails : (k : ℕ) → k < n → tail_of (row_of rows k).kind (row_of rows k).content ≤ octets_limit

pub record Rows (v rows : List ℕ) (n : ℕ) : Type 0 where
  pub sized : Sized rows n
  pub inside : (k : ℕ) → k < n → (row_of rows k).place + tail_of (row_of rows k).kind (row_of rows k).content ≤ length v

pub record Readable (t : Checked) (x : Source) : Type 0 where
  pub bounded : FitsWords t x
  pub short : length x.octets ≤ octets_limit
  pub few : (full : ℕ → Bool) → length (reading full x t).kept.items ≤ length x.octets
  pub plain : (y : Inner) (kind : ℕ) → t.look y ≡ flat (Leaf kind) → form_of kind ≡ Plain

abbrev pub RoomForItems : List ℕ → List ℕ → Type 0
RoomForItems table v = length v * 3 ≤ length table

pub record Rewrites (t : Checked) (x : Source) (to : Target) (out : List ℕ) (r : RewriteAnswer) (last : List ℕ) : Type 0 where
  pub answer : r ≡ rewrite_of (reading any_room x t) to (length out)
  pub output : last ≡ written_by r out (written to (reading any_room x t))
