-- The text of an answer, its LF included.
--   ok_text, no_text                      `ok` and `no`, and what stands behind them
--   signed_text                          "X is a signed (`-` before the digits) decimal": a number of 64 bits in two's complement
--   bits_text                            "BITS 8 or 16 upper-case hexadecimal digits": those of so many octets, the most significant first
--   octets_text                          OCTETS, "output digits are upper case", `-` for none, and the character behind it
--   signed_word .. double_word            the words before an item
--   order_text                           "ORDER is written `big` or `little`"
--   version_text                         `ORDER MAJOR MINOR` and a space
--   said_text                            `HOST PORT KEY COMPONENTS EXTRA` and the answer's LF; v are the body's octets
--   head_text                            the text of an answer, but for what follows
--   tail_text                            a value's items, a rewritten value's octets, what a profile body says behind its version, a component's
--                                       octets, and nothing behind other answers
--   reply_text                           the text of an answer; the items are a value's, the octets a rewritten value's or a profile body's
use Rattle.std.specs.Prelude.{List, [], ◌∷◌, ◌++◌, ℕ, ◌-◌, ◌^◌, ltb}
use Rattle.choices.specs.Branch.{choose}
use Rattle.cdr.specs.declared.Order.{Order}
use Rattle.cdr.specs.declared.Order.TheVariants.{Big, Little}
use Rattle.cdr.specs.Number.{octets_of}
use Rattle.decimals.specs.Decimal.{decimal}
use Rattle.hexline.specs.Encoding.{octet_digits}
pub use Rattle.lines.specs.Lines.{space}
use Rattle.profile.specs.declared.Head.{Head}
use Rattle.profile.specs.declared.Profile.{Profile}
use Rattle.cdr_fields.specs.Extents.{extent_octets}
use Rattle.value_items.specs.Rows.{Item}
use Rattle.ask_words.specs.Words.{big_word, little_word}
use Rattle.ask_text.specs.declared.Reply.{Reply}
use Rattle.ask_text.specs.declared.Reply.TheVariants.{Typed, Read, Refused, Unread, Signed, Unsigned, Single, Double}
use Rattle.ask_text.specs.declared.Reply.TheVariants.{Rewritten, Profiled, Component, NoQuestion}
use Rattle.ask_text.specs.Items.{hyphen, lf, items_text}

abbrev pub ok_text : List ℕ → List ℕ
ok_text rest = 111 ∷ 107 ∷ space ∷ rest

abbrev pub no_text : List ℕ → List ℕ
no_text rest = 110 ∷ 111 ∷ space ∷ rest

unfoldable pub signed_text : ℕ → List ℕ
signed_text x = choose (ltb x (2 ^ 63)) (λ _. decimal x) (λ _. hyphen ∷ decimal (2 ^ 64 - x))

abbrev pub bits_text : ℕ → ℕ → List ℕ
bits_text n x = octet_digits (octets_of Big n x)

abbrev pub octets_text : List ℕ → ℕ → List ℕ
octets_text [] behind = hyphen ∷ behind ∷ []
octets_text (x ∷ xs) behind = octet_digits (x ∷ xs) ++ (behind ∷ [])

abbrev pub signed_word : List ℕ
signed_word = 115 ∷ 105 ∷ 103 ∷ 110 ∷ 101 ∷ 100 ∷ []

abbrev pub unsigned_word : List ℕ
unsigned_word = 117 ∷ 110 ∷ signed_word

abbrev pub single_word : List ℕ
single_word = 115 ∷ 105 ∷ 110 ∷ 103 ∷ 108 ∷ 101 ∷ []

abbrev pub double_word : List ℕ
double_word = 100 ∷ 111 ∷ 117 ∷ 98 ∷ 108 ∷ 101 ∷ []

abbrev pub order_text : Order → List ℕ
order_text Big = big_word
order_text Little = little_word

abbrev pub version_text : Head → List ℕ
version_text head = order_text head.order ++ (space ∷ (decimal head.major ++ (space ∷ (decimal head.minor ++ (space ∷ [])))))

unfoldable pub said_text : Profile → List ℕ → List ℕ
said_text said v =
    octets_text (extent_octets v said.host) space
    ++ (decimal said.port ++ (space ∷ (octets_text (extent_octets v said.key) space
    ++ (decimal said.components ++ (space ∷ (decimal said.extra ++ (lf ∷ [])))))))

abbrev pub head_text : Reply → List ℕ
head_text (Typed used kinds) = ok_text (decimal used ++ (space ∷ (decimal kinds ++ (lf ∷ []))))
head_text (Read used visits count) = ok_text (decimal used ++ (space ∷ (decimal visits ++ (space ∷ (decimal count ++ (space ∷ []))))))
head_text (Refused number) = no_text (decimal number ++ (lf ∷ []))
head_text (Unread number visits) = no_text (decimal number ++ (space ∷ (decimal visits ++ (lf ∷ []))))
head_text (Signed x) = ok_text (signed_word ++ (space ∷ (signed_text x ++ (lf ∷ []))))
head_text (Unsigned x) = ok_text (unsigned_word ++ (space ∷ (decimal x ++ (lf ∷ []))))
head_text (Single x) = ok_text (single_word ++ (space ∷ (bits_text 4 x ++ (lf ∷ []))))
head_text (Double x) = ok_text (double_word ++ (space ∷ (bits_text 8 x ++ (lf ∷ []))))
head_text (Rewritten count) = ok_text (decimal count ++ (space ∷ []))
head_text (Profiled said body) = ok_text (version_text said.head)
head_text (Component tag part body) = ok_text (decimal tag ++ (space ∷ []))
head_text NoQuestion = 63 ∷ lf ∷ []

abbrev pub tail_text : Reply → List Item → List ℕ → List ℕ
tail_text (Read used visits count) is octets = items_text is
tail_text (Rewritten count) is octets = octets_text octets lf
tail_text (Profiled said body) is octets = said_text said octets
tail_text (Component tag part body) is octets = octets_text (extent_octets octets part) lf
tail_text (Typed used kinds) is octets = []
tail_text (Refused number) is octets = []
tail_text (Unread number visits) is octets = []
tail_text (Signed x) is octets = []
tail_text (Unsigned x) is octets = []
tail_text (Single x) is octets = []
tail_text (Double x) is octets = []
tail_text NoQuestion is octets = []

unfoldable pub reply_text : Reply → List Item → List ℕ → List ℕ
reply_text reply is octets = head_text reply ++ tail_text reply is octets
