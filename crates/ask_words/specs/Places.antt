-- What the words of a question are answered, and where in the line they stand.
--   word_place        the place of the word of a number, counted from 0: behind each word before it there is a space
--   coded_in          an order, and the place and the end of the word of a number
--   subject_in        the value that is asked about: TYPE is the word of number 1, VALUE that of number 3
--   fields_from       by what the words behind `value` or `item` are
--   fields_in         the answer, by the line
--   rewrite_from      by what the words behind `rewrite` are
--   rewrite_fields_in  the answer, by the line
--   numbered_from     by what the words behind `component` are: the end of OCTETS, which stands first, and NUMBER
--   numbered_in       the answer, by the line
use Rattle.std.specs.Prelude.{List, [], ◌∷◌, ℕ, zero, suc, ◌+◌, length, Option, Some, None}
use Rattle.ask_words.specs.declared.Coded.{Coded}
use Rattle.ask_words.specs.declared.Subject.{Subject}
use Rattle.ask_words.specs.Words.{words}
use Rattle.ask_words.specs.Fields.{WordIn, SubjectOf, FieldsOf, are, not_fields, value_fields, RewriteFields, rewrites, not_rewrite}
use Rattle.ask_words.specs.Fields.{rewrite_fields_of, NumberedFields, numbered, not_numbered, numbered_fields_of}
use Rattle.ask_words.specs.declared.Asked.{Asked}
use Rattle.ask_words.specs.declared.Chosen.{Chosen}

unfoldable pub word_place : ℕ → List (List ℕ) → ℕ
word_place zero ws = 0
word_place (suc k) [] = 0
word_place (suc k) (word ∷ rest) = length word + 1 + word_place k rest

abbrev pub coded_in : ℕ → List (List ℕ) → WordIn → Coded
coded_in k ws w = record { order = w.order; from = word_place k ws; end = word_place k ws + length w.word }

abbrev pub subject_in : List (List ℕ) → SubjectOf → Subject
subject_in ws s = record { typed = coded_in 1 ws s.typed; value = coded_in 3 ws s.value; start = s.start }

abbrev pub fields_from : List (List ℕ) → FieldsOf → Option Asked
fields_from ws (are subject number) = Some (record { subject = subject_in ws subject; number = number })
fields_from ws not_fields = None

unfoldable pub fields_in : List ℕ → Option Asked
fields_in line = fields_from (words line) (value_fields (words line))

abbrev pub rewrite_from : List (List ℕ) → RewriteFields → Option Chosen
rewrite_from ws (rewrites subject order index room) =
    Some (record { subject = subject_in ws subject; order = order; index = index; room = room })
rewrite_from ws not_rewrite = None

unfoldable pub rewrite_fields_in : List ℕ → Option Chosen
rewrite_fields_in line = rewrite_from (words line) (rewrite_fields_of (words line))

abbrev pub numbered_from : NumberedFields → Option (ℕ × ℕ)
numbered_from (numbered word number) = Some (length word, number)
numbered_from not_numbered = None

unfoldable pub numbered_in : List ℕ → Option (ℕ × ℕ)
numbered_in line = numbered_from (numbered_fields_of (words line))
