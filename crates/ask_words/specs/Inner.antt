-- Words by their places in a line, as the functions of the crate promise each other, and what the words of a question are read as.
--   left            the words from a place on; behind the last word there is a place more than the line has characters, and none are left
--   part            the characters from a place up to another
--   words_at         the words from a place on, by the end of the first
--   InLine          a word's place and end are within the line
--   WithinWord      the same of the word that an answer has
--   WordAt          the word at a place was found, and is within the line
--   Passed          from a place on there is a word, and those behind it are those from another place on
--   order_found      an order that was read, and the words behind it
--   PassedOrder     the order's word was passed
--   OrderRead       a word that names an order was read
--   coded_word       an order and a word, by the word's place and end
--   pair_at          what the words at a place are, by the answer
--   WithinPair      the word that the answer has is within the line
--   PassedPair      ORDER was passed, and the word behind it
--   CodedRead       ORDER and the word behind it were read
--   number_found     a number that was read, and the words behind it
--   subject_words    the value that is asked about, by the places of its words
--   WithinSubject   its two words are within the line
--   subject_at       the first words of a question, by the answer, and those behind them
--   WithinAbout     the two words that the answer has are within the line
--   Placed          TYPE and VALUE stand where the words of number 1 and 3 do
--   PlacedAbout     so do the two words that the answer has
--   SubjectRead     the first words of a question were read
--   fields_at        the words of a question, by the answer
--   WithinFields    the two words that the answer has are within the line
--   FieldsRead      the words behind `value` or `item` were read, and the answer is `fields_in`
--   rewrite_at       the words behind `rewrite`, by the answer
--   WithinRewrite   the two words that the answer has are within the line
--   RewriteRead     they were read, and the answer is `rewrite_fields_in`
--   numbered_at      the words behind `component`, by the answer
--   WithinNumbered  the first of them is within the line
--   NumberedRead    they were read, and the answer is `numbered_in`
use Rattle.std.specs.Prelude.{◌≡◌, List, [], ◌∷◌, ℕ, ◌+◌, ◌-◌, ◌<◌, ◌≤◌, ltb, length, take, drop, Option, Some, None}
use Rattle.choices.specs.Branch.{choose}
use Rattle.cdr.specs.declared.Order.{Order}
use Rattle.ask_words.specs.declared.Coded.{Coded}
use Rattle.ask_words.specs.declared.Subject.{Subject}
use Rattle.ask_words.specs.Words.{words}
use Rattle.ask_words.specs.Places.{word_place, fields_in, rewrite_fields_in, numbered_in}
use Rattle.ask_words.specs.Fields.{First, first_is, none, order_first, WordIn, word_in, coded_first, SubjectOf, subject_of, subject_first}
use Rattle.ask_words.specs.Fields.{FieldsOf, are, not_fields, value_fields, RewriteFields, rewrites, not_rewrite, rewrite_fields_of}
use Rattle.ask_words.specs.Fields.{NumberedFields, numbered, not_numbered, numbered_fields_of}
use Rattle.ask_words.specs.declared.Asked.{Asked}
use Rattle.ask_words.specs.declared.Chosen.{Chosen}

unfoldable pub left : List ℕ → ℕ → List (List ℕ)
left line from = choose (ltb (length line) from) (λ _. []) (λ _. words (drop from line))

abbrev pub part : List ℕ → ℕ → ℕ → List ℕ
part line from end = take (end - from) (drop from line)

abbrev pub words_at : Option ℕ → List ℕ → ℕ → List (List ℕ)
words_at (Some end) line from = part line from end ∷ left line (end + 1)
words_at None line from = []

pub record InLine (line : List ℕ) (from end : ℕ) : Type 0 where
  pub forward : from ≤ end
  pub inside : end ≤ length line

abbrev pub WithinWord : Option ℕ → List ℕ → ℕ → Type 0
WithinWord (Some end) line from = InLine line from end
WithinWord None line from = Unit {0}

pub record WordAt (line : List ℕ) (from : ℕ) (r : Option ℕ) : Type 0 where
  pub found : left line from ≡ words_at r line from
  pub within : WithinWord r line from

pub record Passed (line : List ℕ) (from next : ℕ) : Type 0 where
  pub on : from < next
  pub inside : next ≤ length line + 1
  pub found : left line from ≡ part line from (next - 1) ∷ left line next

abbrev pub order_found : Option (Order × ℕ) → List ℕ → First Order
order_found (Some (order, next)) line = first_is order (left line next)
order_found None line = none

abbrev pub PassedOrder : Option (Order × ℕ) → List ℕ → ℕ → Type 0
PassedOrder (Some (order, next)) line from = Passed line from next
PassedOrder None line from = Unit {0}

pub record OrderRead (line : List ℕ) (from : ℕ) (r : Option (Order × ℕ)) : Type 0 where
  pub read : order_found r line ≡ order_first (left line from)
  pub passed : PassedOrder r line from

abbrev pub coded_word : Coded → List ℕ → WordIn
coded_word c line = word_in c.order (part line c.from c.end)

abbrev pub pair_at : Option Coded → List ℕ → First WordIn
pair_at (Some c) line = first_is (coded_word c line) (left line (c.end + 1))
pair_at None line = none

abbrev pub WithinPair : Option Coded → List ℕ → Type 0
WithinPair (Some c) line = InLine line c.from c.end
WithinPair None line = Unit {0}

abbrev pub PassedPair : Option Coded → List ℕ → ℕ → Type 0
PassedPair (Some c) line from = Passed line from c.from × Passed line c.from (c.end + 1)
PassedPair None line from = Unit {0}

pub record CodedRead (line : List ℕ) (from : ℕ) (r : Option Coded) : Type 0 where
  pub read : pair_at r line ≡ coded_first (left line from)
  pub within : WithinPair r line
  pub passed : PassedPair r line from

abbrev pub number_found : Option (ℕ × ℕ) → List ℕ → First ℕ
number_found (Some (number, next)) line = first_is number (left line next)
number_found None line = none

abbrev pub subject_words : Subject → List ℕ → SubjectOf
subject_words s line = subject_of (coded_word s.typed line) (coded_word s.value line) s.start

abbrev pub WithinSubject : Subject → List ℕ → Type 0
WithinSubject s line = InLine line s.typed.from s.typed.end × InLine line s.value.from s.value.end

abbrev pub subject_at : Option (Subject × ℕ) → List ℕ → First SubjectOf
subject_at (Some (s, next)) line = first_is (subject_words s line) (left line next)
subject_at None line = none

abbrev pub WithinAbout : Option (Subject × ℕ) → List ℕ → Type 0
WithinAbout (Some (s, next)) line = WithinSubject s line
WithinAbout None line = Unit {0}

pub record Placed (line : List ℕ) (s : Subject) : Type 0 where
  pub typed : s.typed.from ≡ word_place 1 (words line)
  pub value : s.value.from ≡ word_place 3 (words line)

abbrev pub PlacedAbout : Option (Subject × ℕ) → List ℕ → Type 0
PlacedAbout (Some (s, next)) line = Placed line s
PlacedAbout None line = Unit {0}

pub record SubjectRead (line : List ℕ) (r : Option (Subject × ℕ)) : Type 0 where
  pub read : subject_at r line ≡ subject_first (words line)
  pub within : WithinAbout r line
  pub placed : PlacedAbout r line

abbrev pub fields_at : Option Asked → List ℕ → FieldsOf
fields_at (Some a) line = are (subject_words a.subject line) a.number
fields_at None line = not_fields

abbrev pub WithinFields : Option Asked → List ℕ → Type 0
WithinFields (Some a) line = WithinSubject a.subject line
WithinFields None line = Unit {0}

pub record FieldsRead (line : List ℕ) (r : Option Asked) : Type 0 where
  pub read : fields_at r line ≡ value_fields (words line)
  pub within : WithinFields r line
  pub decided : r ≡ fields_in line

abbrev pub rewrite_at : Option Chosen → List ℕ → RewriteFields
rewrite_at (Some c) line = rewrites (subject_words c.subject line) c.order c.index c.room
rewrite_at None line = not_rewrite

abbrev pub WithinRewrite : Option Chosen → List ℕ → Type 0
WithinRewrite (Some c) line = WithinSubject c.subject line
WithinRewrite None line = Unit {0}

pub record RewriteRead (line : List ℕ) (r : Option Chosen) : Type 0 where
  pub read : rewrite_at r line ≡ rewrite_fields_of (words line)
  pub within : WithinRewrite r line
  pub decided : r ≡ rewrite_fields_in line

abbrev pub numbered_at : Option (ℕ × ℕ) → List ℕ → NumberedFields
numbered_at (Some (end, number)) line = numbered (take end line) number
numbered_at None line = not_numbered

abbrev pub WithinNumbered : Option (ℕ × ℕ) → List ℕ → Type 0
WithinNumbered (Some (end, number)) line = end ≤ length line
WithinNumbered None line = Unit {0}

pub record NumberedRead (line : List ℕ) (r : Option (ℕ × ℕ)) : Type 0 where
  pub read : numbered_at r line ≡ numbered_fields_of (words line)
  pub within : WithinNumbered r line
  pub decided : r ≡ numbered_in line
