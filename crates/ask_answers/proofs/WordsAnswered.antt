-- A line by its first word, and how long an answer is.
use mathlib.Core.Path.{◌≡◌, refl}
use mathlib.Core.Bool.{true, false}
use mathlib.Core.List.{List, []}
use Prim.Native.Nat.{ℕ, ◌+◌, ◌-◌, ◌<◌, ◌≤◌}
use native.Mathlib.Omega.{arith}
use lib.ListN.{length, take, drop}
use borrow.Author.Tests.{lt-ltb, le-ltb}
use Rattle.choices.proofs.Choices.{by-test}
use Rattle.choices.specs.Branch.{choose}
use Rattle.typecode.specs.TypeCode.{checked_type}
use Rattle.value_meaning.specs.declared.ValueAnswer.{ValueAnswer}
use Rattle.value_meaning.specs.declared.ValueAnswer.TheVariants.{Accepted, Refused}
use Rattle.value_meaning.specs.Sinks.{Item}
use Rattle.value_meaning.specs.Visit.{checked}
use Rattle.value_meaning.specs.Value.{value_answer, reading_of}
use Rattle.value_meaning.proofs.EnoughRoom.{room-kept}
use Rattle.profile.specs.Profile.{profile_of, component_of}
use Rattle.rewrite_meaning.specs.Rewriting.{rewrite_answer}
use Rattle.ask_words.specs.Words.{words, same_word}
use Rattle.ask_words.specs.Found.{FirstWord}
use Rattle.ask_words.specs.Fields.{coded_first, subject_first, value_fields, rewrite_fields_of, numbered_fields_of}
use Rattle.ask_text.specs.declared.Reply.{Reply}
use Rattle.ask_text.specs.declared.Reply.TheVariants.{NoQuestion}
use Rattle.ask_text.specs.Items.{items_of}
use Rattle.ask_text.specs.Replies.{reply_text}
use Rattle.ask_text.proofs.TextsFit.{text-most}
use Rattle.ask_octets.specs.Octets.{line_most}
use Rattle.ask_answers.specs.Questions.{type_word, value_word, item_word, rewrite_word, profile_word, component_word, Question, type_asked, value_asked, item_asked, rewrite_asked, profile_asked, component_asked, no_question, type_question, about_question, rewrite_question, profile_question, component_question, word_question, question_of}
use Rattle.ask_answers.specs.Replies.{room_of, reply_to, items_given, items_in, answer_octets, answer_line}
use Rattle.ask_room.specs.Room.{most_items, answer_most}
use Rattle.ask_answers.specs.Inner.{reply_numbers, Replied, rewritten_most, reply_octets, OctetsHeld}
use Rattle.ask_answers.proofs.WordsStand.{part-all}
use Rattle.ask_answers.proofs.RoomEnough.{octets-few}
use Rattle.ask_answers.proofs.BodiesHeld.{body-few, found-few}
use Rattle.ask_answers.proofs.NothingHeld.{NoItems, NoOctets, replied-none, held_none, type-bare, item-bare, value-no-octets, rewrite-no-items, profile-no-items, component-no-items}

-- the items of an answer are within its room
given-few : (a : ValueAnswer) (is : List Item) (n : ℕ) → length is ≤ n → length (items_given a is) ≤ n
given-few (Accepted used items visits) is n h = h
given-few (Refused number visits) is n h = omega arith

items-few : (q : Question) → length (items_in q) ≤ most_items
unfolding reading_of
items-few (type_asked order v) = omega arith
items-few (value_asked order t x room) =
    given-few (value_answer t order x (room_of room)) _ most_items (omega (arith, room-kept (room_of room) x (checked t (checked_type t order).kinds)))
items-few (item_asked order t x number) = omega arith
items-few (rewrite_asked order t x to room) = omega arith
items-few (profile_asked v) = omega arith
items-few (component_asked v number) = omega arith
items-few no_question = omega arith

octets-within : (q : Question) → length (answer_octets q) ≤ rewritten_most
octets-within (type_asked order v) = omega arith
octets-within (value_asked order t x room) = omega arith
octets-within (item_asked order t x number) = omega arith
octets-within (rewrite_asked order t x to room) = octets-few t order x to room (rewrite_answer t order x to room) refl
octets-within (profile_asked v) = body-few v (profile_of v) refl
octets-within (component_asked v number) = found-few v number (component_of v number) refl
octets-within no_question = omega arith

pub answer-most : (line : List ℕ) → length (answer_line line) ≤ answer_most
unfolding answer_line
answer-most line =
    let q : Question = question_of line in
    omega (arith, text-most (reply_to q) (items_in q) (answer_octets q) most_items (items-few q) (omega (arith, octets-within q)))

-- what a question is answered, with its items in the table and its octets in the memory
abbrev Answered : Question → List ℕ → Reply → List ℕ → List ℕ → Type 0
Answered q before r table memory = Replied q before r table × OctetsHeld q r memory

bare-answered : (q : Question) (r : Reply) (table memory : List ℕ) → NoItems q × NoOctets q → r ≡ reply_to q → Answered q table r table memory
bare-answered q r table memory n e = (replied-none q r e n.0 table, held_none q r e n.1 memory)

pub replied-text : (line before : List ℕ) (r : Reply) (table memory : List ℕ) → Replied (question_of line) before r table → OctetsHeld (question_of line) r memory
    → reply_text r (items_of (take (reply_numbers r) table)) (take (reply_octets r) memory) ≡ answer_line line
unfolding answer_line
replied-text line before r table memory p h = rw (p.items, h.octets, p.reply)

-- the first word of a line, and those behind it
module _ (word : List ℕ) (ws : List (List ℕ)) (r : Reply) (table memory : List ℕ) where
  abbrev Done : Type 0
  Done = Answered (word_question word ws) table r table memory

  pub word-type : true ≡ same_word word type_word → r ≡ reply_to (type_question ws) → Done
  unfolding word_question choose
  word-type e a = rw (← e) (bare-answered (type_question ws) r table memory (type-bare ws) a)

  module _ (t : false ≡ same_word word type_word) where
    pub word_value : true ≡ same_word word value_word → (before : List ℕ) → Replied (about_question value_asked (value_fields ws)) before r table
        → Answered (word_question word ws) before r table memory
    unfolding word_question choose
    word_value e before a =
        rw (← t, ← e) (a, held_none (about_question value_asked (value_fields ws)) r a.reply (value-no-octets (value_fields ws)) memory)

    module _ (v : false ≡ same_word word value_word) where
      pub word-item : true ≡ same_word word item_word → r ≡ reply_to (about_question item_asked (value_fields ws)) → Done
      unfolding word_question choose
      word-item e a = rw (← t, ← v, ← e) (bare-answered (about_question item_asked (value_fields ws)) r table memory (item-bare (value_fields ws)) a)

      module _ (i : false ≡ same_word word item_word) where
        pub word-rewrite : true ≡ same_word word rewrite_word → OctetsHeld (rewrite_question (rewrite_fields_of ws)) r memory → Done
        unfolding word_question choose
        word-rewrite e a =
            rw (← t, ← v, ← i, ← e)
            (replied-none (rewrite_question (rewrite_fields_of ws)) r a.reply (rewrite-no-items (rewrite_fields_of ws)) table, a)

        module _ (w : false ≡ same_word word rewrite_word) where
          pub word-profile : true ≡ same_word word profile_word → OctetsHeld (profile_question ws) r memory → Done
          unfolding word_question choose
          word-profile e a = rw (← t, ← v, ← i, ← w, ← e) (replied-none (profile_question ws) r a.reply (profile-no-items ws) table, a)

          module _ (p : false ≡ same_word word profile_word) where
            pub word-component : true ≡ same_word word component_word → OctetsHeld (component_question (numbered_fields_of ws)) r memory → Done
            unfolding word_question choose
            word-component e a =
                rw (← t, ← v, ← i, ← w, ← p, ← e)
                (replied-none (component_question (numbered_fields_of ws)) r a.reply (component-no-items (numbered_fields_of ws)) table, a)

            pub word-other : false ≡ same_word word component_word → r ≡ NoQuestion → Done
            unfolding word_question choose
            word-other e n = rw (← t, ← v, ← i, ← w, ← p, ← e) (bare-answered no_question r table memory (tt, tt) n)

-- a word alone asks nothing
word-alone : (word : List ℕ) → word_question word [] ≡ no_question
unfolding word_question value_fields rewrite_fields_of numbered_fields_of subject_first coded_first choose
word-alone word =
    by-test (same_word word type_word) (λ t. rw t)
    (λ t. rw t (by-test (same_word word value_word) (λ v. rw v)
    (λ v. rw v (by-test (same_word word item_word) (λ i. rw i)
    (λ i. rw i (by-test (same_word word rewrite_word) (λ w. rw w)
    (λ w. rw w (by-test (same_word word profile_word) (λ p. rw p)
    (λ p. rw p (by-test (same_word word component_word) (λ c. rw c) (λ c. rw c)))))))))))

-- a line
module _ (line : List ℕ) (r : Reply) (table memory : List ℕ) where
  asks : (q : Question) (before : List ℕ) → question_of line ≡ q → Answered q before r table memory → Answered (question_of line) before r table memory
  asks q before e a = rw e a

  no-question : question_of line ≡ no_question → r ≡ NoQuestion → Answered (question_of line) table r table memory
  no-question e n = asks no_question table e (bare-answered no_question r table memory (tt, tt) n)

  pub line-over : line_most < length line → r ≡ NoQuestion → Answered (question_of line) table r table memory
  unfolding question_of choose
  line-over h = no-question (rw (lt-ltb line_most (length line) h))

  module _ (l : length line ≤ line_most) (end : ℕ) (f : FirstWord line end) where
    pub line-alone : length line ≤ end → r ≡ NoQuestion → Answered (question_of line) table r table memory
    unfolding question_of choose
    line-alone h = no-question (rw (le-ltb line_most (length line) l, f.only h) (word-alone line))

    pub line-words : end < length line → (before : List ℕ)
        → Answered (word_question (take end line) (words (take (length line - (end + 1)) (drop (end + 1) line)))) before r table memory
        → Answered (question_of line) before r table memory
    unfolding question_of choose
    line-words h before a = asks _ before (rw (part-all line (end + 1), le-ltb line_most (length line) l, f.more h)) a
