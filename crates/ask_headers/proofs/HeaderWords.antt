-- What the steps of answering a line about a header amount to.
use Rattle.std.specs.Prelude.{Option, Some, None}
use mathlib.Core.Path.{◌≡◌, ap, ◌∙◌}
use mathlib.Core.Bool.{true, false}
use mathlib.Core.List.{List, []}
use Prim.Native.Nat.{ℕ, ◌+◌, ◌-◌, ◌*◌, ◌<◌, ◌≤◌}
use native.Mathlib.Omega.{arith}
use lib.ListN.{length, take, drop, length-drop}
use lib.Seq.{take_all, length-take-le}
use lib.Dec.{ltb}
use borrow.Author.Tests.{lt-ltb, le-ltb, ltb-true, ltb-false}
use Rattle.choices.proofs.Choices.{by-test}
use Rattle.choices.specs.Branch.{choose}
use Rattle.ask_words.specs.Words.{words, same_word}
use Rattle.ask_words.specs.Found.{FirstWord}
use Rattle.ask_words.specs.Fields.{numbered_fields_of}
use Rattle.ask_words.specs.Inner.{NumberedRead}
use Rattle.ask_octets.specs.Octets.{line_most, octets_word, WordRead}
use Rattle.ask_octets.proofs.OctetsStand.{Stands, word_read, octets-not, octets-are, octets-within}
use Rattle.ask_headers.specs.HeaderQuestions.{header_word, context_word, target_word, head_word, HeaderQuestion, context_asked, target_asked, head_asked, no_header_question, header_question, numbered_question, header_word_question, header_question_of, is_header_word, asks_header}
use Rattle.ask_headers.specs.HeaderReplies.{header_reply_text, header_line}
use Rattle.ask_headers.specs.Inner.{NumberedOctetsRead}

-- a line by its first word: an over-long one, one without more, and one with those behind it
module _ (line : List ℕ) where
  pub line-over : line_most < length line → header_line line ≡ header_reply_text no_header_question
  unfolding header_line header_question_of choose
  line-over h = rw (lt-ltb line_most (length line) h)

  pub over-asks : line_most < length line → false ≡ asks_header line
  unfolding asks_header
  over-asks h = rw (lt-ltb line_most (length line) h)

  module _ (h : length line ≤ line_most) (end : ℕ) (f : FirstWord line end) where
    word_none : (word : List ℕ) → header_word_question word [] ≡ no_header_question
    unfolding header_word_question choose numbered_fields_of
    word_none word =
        by-test (same_word word header_word)
        (λ a. rw a)
        (λ a. by-test (same_word word context_word)
        (λ b. rw (a, b))
        (λ b. by-test (same_word word target_word)
        (λ c. rw (a, b, c))
        (λ c. by-test (same_word word head_word)
        (λ d. rw (a, b, c, d))
        (λ d. rw (a, b, c, d)))))

    pub line-alone : length line ≤ end → header_line line ≡ header_reply_text no_header_question
    unfolding header_line header_question_of choose
    line-alone k = rw (le-ltb line_most (length line) h, f.only k) (ap header_reply_text (word_none line))

    pub line-words : end < length line
        → header_line line ≡ header_reply_text (header_word_question (take end line) (words (take (length line - (end + 1)) (drop (end + 1) line))))
    unfolding header_line header_question_of choose
    line-words k =
        rw (
          take_all (length line - (end + 1)) (drop (end + 1) line) (omega (arith, length-drop (end + 1) line)),
          le-ltb line_most (length line) h,
          f.more k,
        )

    pub line-asks : is_header_word (take end line) ≡ asks_header line
    unfolding asks_header
    line-asks =
        by-test (ltb end (length line))
        (λ e. rw (le-ltb line_most (length line) h, f.more (ltb-true end (length line) e)))
        (λ e.
        let k = ltb-false end (length line) e in
        rw (le-ltb line_most (length line) h, f.only k) (ap is_header_word (take_all end line k)))

-- by the first word
module _ (word : List ℕ) (rest : List (List ℕ)) where
  pub word-header : true ≡ same_word word header_word → header_word_question word rest ≡ header_question rest
  unfolding header_word_question choose
  word-header a = rw (← a)

  module _ (a : false ≡ same_word word header_word) where
    pub word-context : true ≡ same_word word context_word → header_word_question word rest ≡ numbered_question context_asked (numbered_fields_of rest)
    unfolding header_word_question choose
    word-context b = rw (← a, ← b)

    module _ (b : false ≡ same_word word context_word) where
      pub word-target : true ≡ same_word word target_word → header_word_question word rest ≡ numbered_question target_asked (numbered_fields_of rest)
      unfolding header_word_question choose
      word-target c = rw (← a, ← b, ← c)

      module _ (c : false ≡ same_word word target_word) where
        pub word-head : true ≡ same_word word head_word → header_word_question word rest ≡ numbered_question head_asked (numbered_fields_of rest)
        unfolding header_word_question choose
        word-head d = rw (← a, ← b, ← c, ← d)

        pub word-other : false ≡ same_word word head_word → header_word_question word rest ≡ no_header_question
        unfolding header_word_question choose
        word-other d = rw (← a, ← b, ← c, ← d)

-- whether a word asks
module _ (word : List ℕ) where
  pub header-asks : true ≡ same_word word header_word → true ≡ is_header_word word
  unfolding is_header_word
  header-asks a = rw (← a)

  module _ (a : false ≡ same_word word header_word) where
    pub context-asks : true ≡ same_word word context_word → true ≡ is_header_word word
    unfolding is_header_word
    context-asks b = rw (← a, ← b)

    module _ (b : false ≡ same_word word context_word) where
      pub target-asks : true ≡ same_word word target_word → true ≡ is_header_word word
      unfolding is_header_word
      target-asks c = rw (← a, ← b, ← c)

      pub head-asks : false ≡ same_word word target_word → same_word word head_word ≡ is_header_word word
      unfolding is_header_word
      head-asks c = rw (← a, ← b, ← c)

-- OCTETS and NUMBER
module _ (rest : List ℕ) (f : Option (ℕ × ℕ)) (p : NumberedRead rest f) where
  pub subject-none : f ≡ None → (memory : List ℕ) → NumberedOctetsRead (numbered_fields_of (words rest)) None memory
  subject-none e memory = record { asked = λ ask. rw (← p.read, e); within = omega arith }

  module _ (end number : ℕ) (e : f ≡ Some (end, number)) where
    pub numbered_within : end ≤ length rest
    numbered_within = rw e at p.within

    module _ (before : List ℕ) (h : length rest ≤ length before * 2) (r : Option ℕ) (after : List ℕ) (o : WordRead (octets_word (take end rest)) before r after) where
      octets : Stands (octets_word (take end rest)) r after
      octets = let k = numbered_within in word_read (take end rest) o (omega (arith, h, length-take-le end rest k))

      pub subject-not : r ≡ None → NumberedOctetsRead (numbered_fields_of (words rest)) None after
      subject-not g = record { asked = λ ask. rw (← p.read, e) (octets-not octets g no_header_question (λ v. ask v number)); within = omega arith }

      pub subject-is : (n : ℕ) → r ≡ Some n → NumberedOctetsRead (numbered_fields_of (words rest)) (Some (n, number)) after
      subject-is n g = record { asked = λ ask. rw (← p.read, e) (octets-are octets n g no_header_question (λ v. ask v number)); within = octets-within octets n g }

-- a question by what was read
module _ (rest : List ℕ) (r : Option (ℕ × ℕ)) (memory : List ℕ) (s : NumberedOctetsRead (numbered_fields_of (words rest)) r memory) (ask : List ℕ → ℕ → HeaderQuestion) where
  pub asked-not : r ≡ None → numbered_question ask (numbered_fields_of (words rest)) ≡ no_header_question
  asked-not e = s.asked ask ∙ rw e

  pub asked_is : (count number : ℕ) → r ≡ Some (count, number) → numbered_question ask (numbered_fields_of (words rest)) ≡ ask (take count memory) number
  asked_is count number e = s.asked ask ∙ rw e

  pub asked-within : (count number : ℕ) → r ≡ Some (count, number) → count ≤ length memory
  asked-within count number e = rw e at s.within
