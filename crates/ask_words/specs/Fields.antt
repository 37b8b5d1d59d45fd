-- The words of a question about a value: "ORDER TYPE ORDER VALUE START" and ROOM, NUMBER, or "ORDER START ROOM"; and of one about a component:
-- "OCTETS NUMBER".
--   First             what the first words stand for, and the words behind them; or that they do not stand for it
--   on_first           what follows where they do
--   word_first         any word
--   order_in_word       the order that a word names
--   order_first        a word that names an order
--   number_is          the number that a word is
--   number_first       a word that is a decimal number of 64 bits
--   WordIn            an order, and a word whose octets are in that order
--   word_in            the same, by the two
--   coded_first        ORDER, and the word behind it
--   SubjectOf         the value that is asked about: its type's order and word, its own, and START
--   subject_of         the same, by the three
--   subject_first      ORDER TYPE ORDER VALUE START
--   no_more            what the words are where they end, and where more follow
--   FieldsOf          a value, and ROOM or NUMBER; or that the words are others
--   value_fields       by the words behind `value` or `item`
--   RewriteFields     a value, the chosen order and index, and ROOM; or that the words are others
--   rewrite_fields_of   by the words behind `rewrite`
--   NumberedFields    a word, and NUMBER; or that the words are others
--   numbered_fields_of  by the words behind `component`
use Rattle.std.specs.Prelude.{List, [], ◌∷◌, ℕ, Option, Some, None}
use Rattle.cdr.specs.declared.Order.{Order}
use Rattle.decimals.specs.Numerals.{number_word}
use Rattle.ask_words.specs.Words.{order_word}

pub data First (A : Type 0) : Type 0 where
  first_is : A → List (List ℕ) → First A
  none : First A

abbrev pub on_first : {A B : Type 0} → First A → B → (A → List (List ℕ) → B) → B
on_first (first_is x rest) b f = f x rest
on_first none b f = b

abbrev pub word_first : List (List ℕ) → First (List ℕ)
word_first [] = none
word_first (word ∷ rest) = first_is word rest

abbrev pub order_in_word : Option Order → List (List ℕ) → First Order
order_in_word (Some order) rest = first_is order rest
order_in_word None rest = none

abbrev pub order_first : List (List ℕ) → First Order
order_first ws = on_first (word_first ws) none (λ word rest. order_in_word (order_word word) rest)

abbrev pub number_is : Option ℕ → List (List ℕ) → First ℕ
number_is (Some x) rest = first_is x rest
number_is None rest = none

abbrev pub number_first : List (List ℕ) → First ℕ
number_first ws = on_first (word_first ws) none (λ word rest. number_is (number_word word) rest)

pub record WordIn : Type 0 where
  pub order : Order
  pub word : List ℕ

abbrev pub word_in : Order → List ℕ → WordIn
word_in order word = record { order = order; word = word }

unfoldable pub coded_first : List (List ℕ) → First WordIn
coded_first ws = on_first (order_first ws) none (λ order rest. on_first (word_first rest) none (λ word more. first_is (word_in order word) more))

pub record SubjectOf : Type 0 where
  pub typed : WordIn
  pub value : WordIn
  pub start : ℕ

abbrev pub subject_of : WordIn → WordIn → ℕ → SubjectOf
subject_of typed value start = record { typed = typed; value = value; start = start }

unfoldable pub subject_first : List (List ℕ) → First SubjectOf
subject_first ws =
    on_first (coded_first ws) none
    (λ typed behind_type. on_first (coded_first behind_type) none
    (λ value behind_value. on_first (number_first behind_value) none
    (λ start behind_start. first_is (subject_of typed value start) behind_start)))

abbrev pub no_more : {A : Type 0} → List (List ℕ) → A → A → A
no_more [] ended more = ended
no_more (word ∷ rest) ended more = more

pub data FieldsOf : Type 0 where
  are : SubjectOf → (number : ℕ) → FieldsOf
  not_fields : FieldsOf

unfoldable pub value_fields : List (List ℕ) → FieldsOf
value_fields ws =
    on_first (subject_first ws) not_fields
    (λ subject behind_subject. on_first (number_first behind_subject) not_fields
    (λ number behind_number. no_more behind_number (are subject number) not_fields))

pub data RewriteFields : Type 0 where
  rewrites : SubjectOf → Order → (index room : ℕ) → RewriteFields
  not_rewrite : RewriteFields

unfoldable pub rewrite_fields_of : List (List ℕ) → RewriteFields
rewrite_fields_of ws =
    on_first (subject_first ws) not_rewrite
    (λ subject behind_subject. on_first (order_first behind_subject) not_rewrite
    (λ order behind_order. on_first (number_first behind_order) not_rewrite
    (λ index behind_index. on_first (number_first behind_index) not_rewrite
    (λ room behind_room. no_more behind_room (rewrites subject order index room) not_rewrite))))

pub data NumberedFields : Type 0 where
  numbered : (word : List ℕ) (number : ℕ) → NumberedFields
  not_numbered : NumberedFields

unfoldable pub numbered_fields_of : List (List ℕ) → NumberedFields
numbered_fields_of ws =
    on_first (word_first ws) not_numbered
    (λ word behind_word. on_first (number_first behind_word) not_numbered
    (λ number behind_number. no_more behind_number (numbered word number) not_numbered))
