-- "A single item asked for by number comes as a signed, unsigned, single or double value, the floats with exactly the recorded bits."
--   signed_kind     short, long and long long: "signed content is sign-extended"
--   signed_of       the number whose two's complement of 64 bits the content is
--   complement_of   the two's complement of 64 bits of a number
--   single_of       the float of the content's last 32 bits, beside these; a NaN's pattern gives `nan`
--   double_of       the same of all 64 bits
--   item_of         the item of a kind and a content: "kinds 8, 9, 10 and 17, texts, counts, tags and runs are unsigned"
--   item_case       0 signed, 1 unsigned, 2 single, 3 double
--   bits_of         the content's 64 bits
--   case_and_bits    an item as numbers: its case and its bits
use Rattle.std.specs.Prelude.{ℕ, suc, ◌-◌, ◌%◌, ◌^◌, Bool, cond, ◌||◌, List, [], ◌∷◌, ltb, eqb, ℤ, pos, negsuc}
use Rattle.std.specs.Float.{binary32, binary64}
use Rattle.std.specs.Float.Ieee.{of_bits}
use Rattle.type_numbers.specs.Kinds.{short_kind, long_kind, long_long_kind, float_kind, double_kind}
use Rattle.value_items.specs.declared.ItemValue.{ItemValue}
use Rattle.value_items.specs.declared.ItemValue.TheVariants.{Signed, Unsigned, Single, Double}

abbrev pub signed_kind : ℕ → Bool
signed_kind kind = eqb kind short_kind || eqb kind long_kind || eqb kind long_long_kind

abbrev pub signed_of : ℕ → ℤ
signed_of content = cond (ltb content (2 ^ 63)) (pos content) (negsuc (2 ^ 64 - 1 - content))

abbrev pub complement_of : ℤ → ℕ
complement_of (pos n) = n
complement_of (negsuc n) = 2 ^ 64 - suc n

abbrev pub single_of : ℕ → ItemValue
single_of content = Single (content % 2 ^ 32) (of_bits binary32 (content % 2 ^ 32))

abbrev pub double_of : ℕ → ItemValue
double_of content = Double content (of_bits binary64 content)

unfoldable pub item_of : ℕ → ℕ → ItemValue
item_of kind content =
    cond (signed_kind kind) (Signed (signed_of content))
    (cond (eqb kind float_kind) (single_of content)
    (cond (eqb kind double_kind) (double_of content)
    (Unsigned content)))

abbrev pub item_case : ItemValue → ℕ
item_case (Signed x) = 0
item_case (Unsigned x) = 1
item_case (Single bits x) = 2
item_case (Double bits x) = 3

abbrev pub bits_of : ItemValue → ℕ
bits_of (Signed x) = complement_of x
bits_of (Unsigned x) = x
bits_of (Single bits x) = bits
bits_of (Double bits x) = bits

abbrev pub case_and_bits : ItemValue → List ℕ
case_and_bits item = item_case item ∷ bits_of item ∷ []
