-- What private functions promise each other; nothing that a caller is told rests on these names.
--   octets_read     what a word is as octets, by the answer and the memory that they were written into
--   count_of        how many octets are written
--   OctetsRead     octets that words stand for, or that they stand for none, were read and are within the memory
--   about_read      the value that is asked about, by the answer and the memory that the octets were written into
--   type_count      how many octets of the type are written
--   value_count     how many octets of the value are written
--   AboutRead      the words of a value were read, and the octets are within the memory
--   reply_numbers   how many numbers of the table an answer has
--   Replied        a question's answer was found, its items are in the table, and the table's other numbers are as they were
--   rewritten_most  the most octets of a rewritten value, seven more than a value or a profile body may have
--   reply_octets    how many octets of the memory an answer has
--   OctetsHeld     a question's answer was found, and its octets are in the memory
use Rattle.std.specs.Prelude.{◌≡◌, List, ℕ, ◌+◌, ◌*◌, ◌≤◌, length, take, Option, Some, None}
use Rattle.cdr.specs.Align.{index_of}
use Rattle.cdr.specs.Limit.{octets_limit}
use Rattle.value_meaning.specs.Sinks.{source}
use Rattle.ask_words.specs.declared.Subject.{Subject}
use Rattle.ask_words.specs.Inner.{subject_words}
use Rattle.ask_text.specs.declared.Reply.{Reply}
use Rattle.ask_text.specs.declared.Reply.TheVariants.{Typed, Read, Refused, Unread, Signed, Unsigned, Single, Double}
use Rattle.ask_text.specs.declared.Reply.TheVariants.{Rewritten, Profiled, Component, NoQuestion}
use Rattle.ask_text.specs.Items.{items_of}
use Rattle.ask_answers.specs.declared.about.About.{About}
use Rattle.ask_octets.specs.Octets.{WordOctets, are_octets, not_octets}
use Rattle.ask_answers.specs.Questions.{Question, About as AboutOf, about, not_about, about_of}
use Rattle.ask_answers.specs.Replies.{reply_to, items_in, answer_octets}
use Rattle.ask_answers.specs.Answers.{table_for}

abbrev pub octets_read : Option ℕ → List ℕ → WordOctets
octets_read (Some n) memory = are_octets (take n memory)
octets_read None memory = not_octets

abbrev pub count_of : Option ℕ → ℕ
count_of (Some n) = n
count_of None = 0

pub record OctetsRead (o : WordOctets) (r : Option ℕ) (memory : List ℕ) : Type 0 where
  pub stands : octets_read r memory ≡ o
  pub within : count_of r ≤ length memory

abbrev pub about_read : Option About → List ℕ → List ℕ → AboutOf
about_read (Some a) t v = about a.typed (take a.type_count t) (source (take a.value_count v) a.order (index_of a.start))
about_read None t v = not_about

abbrev pub type_count : Option About → ℕ
type_count (Some a) = a.type_count
type_count None = 0

abbrev pub value_count : Option About → ℕ
value_count (Some a) = a.value_count
value_count None = 0

pub record AboutRead (rest : List ℕ) (s : Subject) (r : Option About) (t v : List ℕ) : Type 0 where
  pub stands : about_read r t v ≡ about_of (subject_words s rest)
  pub typed : type_count r ≤ length t
  pub valued : value_count r ≤ length v

abbrev pub reply_numbers : Reply → ℕ
reply_numbers (Read used visits count) = count * 3
reply_numbers (Typed used kinds) = 0
reply_numbers (Refused number) = 0
reply_numbers (Unread number visits) = 0
reply_numbers (Signed x) = 0
reply_numbers (Unsigned x) = 0
reply_numbers (Single x) = 0
reply_numbers (Double x) = 0
reply_numbers (Rewritten count) = 0
reply_numbers (Profiled said count) = 0
reply_numbers (Component tag part count) = 0
reply_numbers NoQuestion = 0

pub record Replied (q : Question) (before : List ℕ) (r : Reply) (table : List ℕ) : Type 0 where
  pub reply : r ≡ reply_to q
  pub items : items_of (take (reply_numbers r) table) ≡ items_in q
  pub within : reply_numbers r ≤ length table
  pub filled : table ≡ table_for q before

abbrev pub rewritten_most : ℕ
rewritten_most = octets_limit + 7

abbrev pub reply_octets : Reply → ℕ
reply_octets (Rewritten count) = count
reply_octets (Profiled said count) = count
reply_octets (Component tag part count) = count
reply_octets (Typed used kinds) = 0
reply_octets (Read used visits count) = 0
reply_octets (Refused number) = 0
reply_octets (Unread number visits) = 0
reply_octets (Signed x) = 0
reply_octets (Unsigned x) = 0
reply_octets (Single x) = 0
reply_octets (Double x) = 0
reply_octets NoQuestion = 0

pub record OctetsHeld (q : Question) (r : Reply) (memory : List ℕ) : Type 0 where
  pub reply : r ≡ reply_to q
  pub octets : take (reply_octets r) memory ≡ answer_octets q
  pub within : reply_octets r ≤ length memory
