-- What a line asks: "each input line is a question".
--   type_word .. component_word  the words `type`, `value`, `item`, `rewrite`, `profile` and `component`
--   Question                   the check of octets as a type in a byte order; the reading of a value under a type, with room for so many items;
--                              an item of it by number; the value rewritten in a chosen order and index, with room for so many octets; the
--                              reading of octets as a profile body; a component of it by number; or no question
--   octets_question             the question by the octets that a word stands for
--   ordered_type                by the words behind ORDER: TYPE, and no more
--   named_type                  by the order that ORDER names
--   type_question               by the words behind `type`: ORDER and those behind it
--   About                      a type's order and octets, and a value; or that TYPE or VALUE stands for no octets
--   about_octets                what follows octets that a word stands for
--   about_of                    by the words of a value: what TYPE and VALUE stand for, START the index of the value's first octet
--   on_about                    the question about a value
--   about_question              by the words behind `value` or `item`: about a value, with ROOM or NUMBER
--   rewrite_question            by the words behind `rewrite`: about a value, with the chosen order, START the chosen index, and ROOM
--   profile_question            by the words behind `profile`: OCTETS, and no more
--   component_question          by the words behind `component`: about OCTETS, with NUMBER
--   word_question               by the first word of a line, which says what is asked, and those behind it
--   question_from               by the words of a line
--   question_of                 by a line; one of more characters than a line may have is no question
use Rattle.std.specs.Prelude.{List, [], ◌∷◌, ℕ, ltb, length, Option, Some, None}
use Rattle.choices.specs.Branch.{choose}
use Rattle.cdr.specs.declared.Order.{Order}
use Rattle.cdr.specs.Align.{index_of}
use Rattle.value_meaning.specs.Sinks.{Source, source}
use Rattle.ask_words.specs.Words.{words, same_word, order_word}
use Rattle.ask_words.specs.Fields.{SubjectOf, FieldsOf, are, not_fields, value_fields, RewriteFields, rewrites, not_rewrite, rewrite_fields_of}
use Rattle.ask_words.specs.Fields.{NumberedFields, numbered, not_numbered, numbered_fields_of}
use Rattle.rewrite_meaning.specs.Written.{Target, target}
use Rattle.ask_octets.specs.Octets.{line_most, WordOctets, are_octets, not_octets, octets_word, lone_octets}

abbrev pub type_word : List ℕ
type_word = 116 ∷ 121 ∷ 112 ∷ 101 ∷ []

abbrev pub value_word : List ℕ
value_word = 118 ∷ 97 ∷ 108 ∷ 117 ∷ 101 ∷ []

abbrev pub item_word : List ℕ
item_word = 105 ∷ 116 ∷ 101 ∷ 109 ∷ []

abbrev pub rewrite_word : List ℕ
rewrite_word = 114 ∷ 101 ∷ 119 ∷ 114 ∷ 105 ∷ 116 ∷ 101 ∷ []

abbrev pub profile_word : List ℕ
profile_word = 112 ∷ 114 ∷ 111 ∷ 102 ∷ 105 ∷ 108 ∷ 101 ∷ []

abbrev pub component_word : List ℕ
component_word = 99 ∷ 111 ∷ 109 ∷ 112 ∷ 111 ∷ 110 ∷ 101 ∷ 110 ∷ 116 ∷ []

pub data Question : Type 0 where
  type_asked : Order → List ℕ → Question
  value_asked : Order → List ℕ → Source → (room : ℕ) → Question
  item_asked : Order → List ℕ → Source → (number : ℕ) → Question
  rewrite_asked : Order → List ℕ → Source → Target → (room : ℕ) → Question
  profile_asked : List ℕ → Question
  component_asked : List ℕ → (number : ℕ) → Question
  no_question : Question

abbrev pub octets_question : WordOctets → (List ℕ → Question) → Question
octets_question (are_octets v) ask = ask v
octets_question not_octets ask = no_question

abbrev pub ordered_type : Order → List (List ℕ) → Question
ordered_type order rest = octets_question (lone_octets rest) (λ v. type_asked order v)

abbrev pub named_type : Option Order → List (List ℕ) → Question
named_type (Some order) rest = ordered_type order rest
named_type None rest = no_question

abbrev pub type_question : List (List ℕ) → Question
type_question [] = no_question
type_question (order ∷ rest) = named_type (order_word order) rest

pub data About : Type 0 where
  about : Order → List ℕ → Source → About
  not_about : About

abbrev pub about_octets : WordOctets → (List ℕ → About) → About
about_octets (are_octets v) f = f v
about_octets not_octets f = not_about

unfoldable pub about_of : SubjectOf → About
about_of s =
    about_octets (octets_word s.typed.word)
    (λ t. about_octets (octets_word s.value.word)
    (λ v. about s.typed.order t (source v s.value.order (index_of s.start))))

abbrev pub on_about : About → (Order → List ℕ → Source → Question) → Question
on_about (about order t x) ask = ask order t x
on_about not_about ask = no_question

abbrev pub about_question : (Order → List ℕ → Source → ℕ → Question) → FieldsOf → Question
about_question ask (are subject number) = on_about (about_of subject) (λ order t x. ask order t x number)
about_question ask not_fields = no_question

abbrev pub rewrite_question : RewriteFields → Question
rewrite_question (rewrites subject chosen index room) =
    on_about (about_of subject) (λ order t x. rewrite_asked order t x (target chosen (index_of index)) room)
rewrite_question not_rewrite = no_question

abbrev pub profile_question : List (List ℕ) → Question
profile_question rest = octets_question (lone_octets rest) (λ v. profile_asked v)

abbrev pub component_question : NumberedFields → Question
component_question (numbered word number) = octets_question (octets_word word) (λ v. component_asked v number)
component_question not_numbered = no_question

unfoldable pub word_question : List ℕ → List (List ℕ) → Question
word_question word rest =
    choose (same_word word type_word) (λ _. type_question rest)
    (λ _. choose (same_word word value_word) (λ _. about_question value_asked (value_fields rest))
    (λ _. choose (same_word word item_word) (λ _. about_question item_asked (value_fields rest))
    (λ _. choose (same_word word rewrite_word) (λ _. rewrite_question (rewrite_fields_of rest))
    (λ _. choose (same_word word profile_word) (λ _. profile_question rest)
    (λ _. choose (same_word word component_word) (λ _. component_question (numbered_fields_of rest))
    (λ _. no_question))))))

abbrev pub question_from : List (List ℕ) → Question
question_from [] = no_question
question_from (word ∷ rest) = word_question word rest

unfoldable pub question_of : List ℕ → Question
question_of line = choose (ltb line_most (length line)) (λ _. no_question) (λ _. question_from (words line))
