-- The text of some answers, computed.
use mathlib.Core.Path.{◌≡◌, refl}
use mathlib.Core.List.{List, [], ◌∷◌}
use Prim.Native.Nat.{ℕ}
use Rattle.choices.specs.Branch.{choose}
use Rattle.cdr.specs.declared.Order.TheVariants.{Big, Little}
use Rattle.cdr.specs.Align.{index_of}
use Rattle.cdr.specs.Number.{little_octets, octets_of}
use Rattle.decimals.specs.Decimal.{decimal_within}
use Rattle.hexline.specs.Digit.{upper_digit}
use Rattle.hexline.specs.Encoding.{octet_digits}
use Rattle.profile.specs.declared.Profile.{Profile}
use Rattle.cdr_fields.specs.Extents.{extent, extent_octets}
use Rattle.value_items.specs.Rows.{item}
use Rattle.ask_text.specs.declared.Reply.TheVariants.{Typed, Read, Refused, Unread, Signed, Unsigned, Single, Double, Rewritten, Profiled, Component, NoQuestion}
use Rattle.ask_text.specs.Items.{item_text, joined}
use Rattle.ask_text.specs.Replies.{signed_text, said_text, reply_text}

-- `ok 20 2`, `no 39`, `?`; `ok 8 3 2 9:0:1,3:4:20`, `ok 0 1 0 -`, `no 50 2`; `ok signed 5`, `ok signed -1`, `ok unsigned 7`,
-- `ok single 7FC00001`, `ok double 00000000000000AF`; `ok 2 0AF9`, `ok 0 -`
pub texts :
    (reply_text (Typed 20 2) [] [] ≡ 111 ∷ 107 ∷ 32 ∷ 50 ∷ 48 ∷ 32 ∷ 50 ∷ 10 ∷ [])
    × (reply_text (Refused 39) [] [] ≡ 110 ∷ 111 ∷ 32 ∷ 51 ∷ 57 ∷ 10 ∷ [])
    × (reply_text NoQuestion [] [] ≡ 63 ∷ 10 ∷ [])
    × (reply_text (Read 8 3 2) (item 9 0 1 ∷ item 3 4 20 ∷ []) []
    ≡ 111 ∷ 107 ∷ 32 ∷ 56 ∷ 32 ∷ 51 ∷ 32 ∷ 50 ∷ 32 ∷ 57 ∷ 58 ∷ 48 ∷ 58 ∷ 49 ∷ 44 ∷ 51 ∷ 58 ∷ 52 ∷ 58 ∷ 50 ∷ 48 ∷ 10 ∷ [])
    × (reply_text (Read 0 1 0) [] [] ≡ 111 ∷ 107 ∷ 32 ∷ 48 ∷ 32 ∷ 49 ∷ 32 ∷ 48 ∷ 32 ∷ 45 ∷ 10 ∷ [])
    × (reply_text (Unread 50 2) [] [] ≡ 110 ∷ 111 ∷ 32 ∷ 53 ∷ 48 ∷ 32 ∷ 50 ∷ 10 ∷ [])
    × (reply_text (Signed 5) [] [] ≡ 111 ∷ 107 ∷ 32 ∷ 115 ∷ 105 ∷ 103 ∷ 110 ∷ 101 ∷ 100 ∷ 32 ∷ 53 ∷ 10 ∷ [])
    × (reply_text (Signed 18446744073709551615) [] [] ≡ 111 ∷ 107 ∷ 32 ∷ 115 ∷ 105 ∷ 103 ∷ 110 ∷ 101 ∷ 100 ∷ 32 ∷ 45 ∷ 49 ∷ 10 ∷ [])
    × (reply_text (Unsigned 7) [] [] ≡ 111 ∷ 107 ∷ 32 ∷ 117 ∷ 110 ∷ 115 ∷ 105 ∷ 103 ∷ 110 ∷ 101 ∷ 100 ∷ 32 ∷ 55 ∷ 10 ∷ [])
    × (reply_text (Single 0x7FC00001) [] []
    ≡ 111 ∷ 107 ∷ 32 ∷ 115 ∷ 105 ∷ 110 ∷ 103 ∷ 108 ∷ 101 ∷ 32 ∷ 55 ∷ 70 ∷ 67 ∷ 48 ∷ 48 ∷ 48 ∷ 48 ∷ 49 ∷ 10 ∷ [])
    × (reply_text (Double 0xAF) [] []
    ≡ 111 ∷ 107 ∷ 32 ∷ 100 ∷ 111 ∷ 117 ∷ 98 ∷ 108 ∷ 101 ∷ 32 ∷ 48 ∷ 48 ∷ 48 ∷ 48 ∷ 48 ∷ 48 ∷ 48 ∷ 48 ∷ 48 ∷ 48 ∷ 48 ∷ 48 ∷ 48 ∷ 48 ∷ 65 ∷ 70 ∷ 10 ∷ [])
    × (reply_text (Rewritten 2) [] (10 ∷ 249 ∷ []) ≡ 111 ∷ 107 ∷ 32 ∷ 50 ∷ 32 ∷ 48 ∷ 65 ∷ 70 ∷ 57 ∷ 10 ∷ [])
    × (reply_text (Rewritten 0) [] [] ≡ 111 ∷ 107 ∷ 32 ∷ 48 ∷ 32 ∷ 45 ∷ 10 ∷ [])
unfolding choose decimal_within little_octets octets_of upper_digit octet_digits item_text joined signed_text reply_text
texts = (refl, refl, refl, refl, refl, refl, refl, refl, refl, refl, refl, refl, refl)

-- a body's octets that are a host of two and a key of one; what it says, without the key, and with it
abbrev body : List ℕ
body = 104 ∷ 105 ∷ 175 ∷ []

abbrev keyless : Profile
keyless =
    record {
      head = record { order = Little; major = 1; minor = 2 };
      host = extent (index_of 0) 2;
      port = 80;
      key = extent (index_of 2) 0;
      components = 3;
      first = index_of 0;
      extra = 4;
    }

abbrev hostless : Profile
hostless =
    record {
      head = record { order = Big; major = 1; minor = 0 };
      host = extent (index_of 0) 0;
      port = 0;
      key = extent (index_of 2) 1;
      components = 0;
      first = index_of 0;
      extra = 0;
    }

-- `ok little 1 2 6869 80 - 3 4`, `ok big 1 0 - 0 AF 0 0`; `ok 7 AF`, `ok 0 -`
pub profiles :
    (reply_text (Profiled keyless 3) [] body ≡ 111 ∷ 107 ∷ 32 ∷ 108 ∷ 105 ∷ 116 ∷ 116 ∷ 108 ∷ 101 ∷ 32 ∷ 49 ∷ 32 ∷ 50 ∷ 32 ∷ 54 ∷ 56 ∷ 54 ∷ 57 ∷ 32 ∷ 56 ∷ 48 ∷ 32 ∷ 45 ∷ 32 ∷ 51 ∷ 32 ∷ 52 ∷ 10 ∷ [])
    × (reply_text (Profiled hostless 3) [] body ≡ 111 ∷ 107 ∷ 32 ∷ 98 ∷ 105 ∷ 103 ∷ 32 ∷ 49 ∷ 32 ∷ 48 ∷ 32 ∷ 45 ∷ 32 ∷ 48 ∷ 32 ∷ 65 ∷ 70 ∷ 32 ∷ 48 ∷ 32 ∷ 48 ∷ 10 ∷ [])
    × (reply_text (Component 7 (extent (index_of 2) 1) 3) [] body ≡ 111 ∷ 107 ∷ 32 ∷ 55 ∷ 32 ∷ 65 ∷ 70 ∷ 10 ∷ [])
    × (reply_text (Component 0 (extent (index_of 3) 0) 3) [] body ≡ 111 ∷ 107 ∷ 32 ∷ 48 ∷ 32 ∷ 45 ∷ 10 ∷ [])
unfolding choose decimal_within upper_digit octet_digits extent_octets said_text reply_text
profiles = (refl, refl, refl, refl)
