-- Where the words of a question stand in the line, and that the answers are those that their words and places give.
use Rattle.std.specs.Prelude.{Some, None}
use mathlib.Core.Path.{◌≡◌, sym, ap, ◌∙◌}
use mathlib.Core.List.{List}
use Prim.Native.Nat.{ℕ, suc, ◌+◌, ◌-◌, ◌≤◌}
use native.Mathlib.Omega.{arith}
use lib.ListN.{length, take, drop, length-drop}
use lib.Seq.{length-take-le}
use Rattle.cdr.specs.declared.Order.{Order}
use Rattle.ask_words.specs.declared.Coded.{Coded}
use Rattle.ask_words.specs.declared.Subject.{Subject}
use Rattle.ask_words.specs.Words.{words}
use Rattle.ask_words.specs.Fields.{are, not_fields, value_fields, rewrites, not_rewrite, rewrite_fields_of, numbered, not_numbered, numbered_fields_of}
use Rattle.ask_words.specs.Places.{word_place, coded_in, subject_in, fields_in, rewrite_fields_in, numbered_in}
use Rattle.ask_words.specs.Inner.{left, part, InLine, Passed, coded_word, subject_words, WithinSubject, Placed, FieldsRead, RewriteRead, NumberedRead}
use Rattle.ask_words.proofs.WordsLeft.{all_left}

-- a part has as many characters as its places say
part_length : (line : List ℕ) (from end : ℕ) → from ≤ end → end ≤ length line → length (part line from end) ≡ end - from
part_length line from end h k = length-take-le (end - from) (drop from line) (omega (arith, length-drop from line))

-- past a word, the words behind it stand by so many characters further
passed-place : (line : List ℕ) (from next : ℕ) → Passed line from next → (k : ℕ) → from + word_place (suc k) (left line from) ≡ next + word_place k (left line next)
unfolding word_place
passed-place line from next p k =
    let o = p.on in
    let i = p.inside in
    rw p.found (omega (arith, part_length line from (next - 1) (omega arith) (omega arith)))

-- ORDER TYPE ORDER VALUE: TYPE has one word before it, VALUE three
module _ (line : List ℕ) (t v : Coded) (a : Passed line 0 t.from) (b : Passed line t.from (t.end + 1)) (c : Passed line (t.end + 1) v.from) where
  from_start : (k : ℕ) → word_place k (left line 0) ≡ word_place k (words line)
  from_start k = ap (word_place k) (all_left line)

  pub subject-placed : (start : ℕ) → Placed line (record { typed = t; value = v; start = start })
  unfolding word_place
  subject-placed start =
      record {
        typed = omega (arith, from_start 1, passed-place line 0 t.from a 0);
        value = omega (
          arith,
          from_start 3,
          passed-place line 0 t.from a 2,
          passed-place line t.from (t.end + 1) b 1,
          passed-place line (t.end + 1) v.from c 0,
        );
      }

-- a word's place, and its characters, give back where it is
coded-is : (line : List ℕ) (k : ℕ) (c : Coded) → c.from ≡ word_place k (words line) → InLine line c.from c.end
    → c ≡ coded_in k (words line) (coded_word c line)
coded-is line k c e w =
    let n : c.end ≡ word_place k (words line) + length (part line c.from c.end) =
    omega (arith, e, w.forward, part_length line c.from c.end w.forward w.inside)
    in
    ap (λ (x : ℕ). record { order = c.order; from = x; end = c.end }) e
    ∙ ap (λ (x : ℕ). record { order = c.order; from = word_place k (words line); end = x }) n

module _ (line : List ℕ) (s : Subject) (p : Placed line s) (w : WithinSubject s line) where
  subject-is : s ≡ subject_in (words line) (subject_words s line)
  subject-is =
      ap (λ (c : Coded). record { typed = c; value = s.value; start = s.start }) (coded-is line 1 s.typed p.typed w.0)
      ∙ ap (λ (c : Coded). record { typed = coded_in 1 (words line) (coded_word s.typed line); value = c; start = s.start })
      (coded-is line 3 s.value p.value w.1)

  pub fields_read : (number : ℕ) → are (subject_words s line) number ≡ value_fields (words line)
      → FieldsRead line (Some (record { subject = s; number = number }))
  unfolding fields_in
  fields_read number e =
      record { read = e; within = w; decided = rw (← e) (ap (λ (x : Subject). (Some (record { subject = x; number = number }))) subject-is) }

  pub rewrite-read : (order : Order) (index room : ℕ) → rewrites (subject_words s line) order index room ≡ rewrite_fields_of (words line)
      → RewriteRead line (Some (record { subject = s; order = order; index = index; room = room }))
  unfolding rewrite_fields_in
  rewrite-read order index room e =
      record {
        read = e;
        within = w;
        decided = rw (← e) (ap (λ (x : Subject). (Some (record { subject = x; order = order; index = index; room = room }))) subject-is);
      }

module _ (line : List ℕ) where
  pub numbered-read : (end number : ℕ) → end ≤ length line → numbered (take end line) number ≡ numbered_fields_of (words line)
      → NumberedRead line (Some (end, number))
  unfolding numbered_in
  numbered-read end number h e =
      record { read = e; within = h; decided = rw (← e) (ap (λ (n : ℕ). (Some (n, number))) (sym (length-take-le end line h))) }

  -- words that are others have one answer
  pub fields-not : not_fields ≡ value_fields (words line) → FieldsRead line None
  unfolding fields_in
  fields-not e = record { read = e; within = tt; decided = rw (← e) }

  pub rewrite-not : not_rewrite ≡ rewrite_fields_of (words line) → RewriteRead line None
  unfolding rewrite_fields_in
  rewrite-not e = record { read = e; within = tt; decided = rw (← e) }

  pub numbered-not : not_numbered ≡ numbered_fields_of (words line) → NumberedRead line None
  unfolding numbered_in
  numbered-not e = record { read = e; within = tt; decided = rw (← e) }
