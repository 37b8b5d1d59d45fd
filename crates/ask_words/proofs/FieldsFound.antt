-- The words of the questions about a value or a component, one after the other.
use Rattle.std.specs.Prelude.{Option, Some, None}
use mathlib.Core.Path.{◌≡◌}
use mathlib.Core.List.{List}
use Prim.Native.Nat.{ℕ, ◌+◌, ◌-◌, ◌<◌, ◌≤◌}
use native.Mathlib.Omega.{arith}
use lib.ListN.{length}
use Rattle.cdr.specs.declared.Order.{Order}
use Rattle.ask_words.specs.declared.Coded.{Coded}
use Rattle.ask_words.specs.declared.Subject.{Subject}
use Rattle.ask_words.specs.Fields.{number_first, subject_first, value_fields, rewrite_fields_of, numbered_fields_of}
use Rattle.ask_words.specs.Inner.{left, WordAt, OrderRead, CodedRead, number_found, WithinSubject, Placed, SubjectRead, FieldsRead, RewriteRead, NumberedRead}
use Rattle.ask_words.proofs.WordsLeft.{none_left, all_left, word-within, coded-within, coded-passed, more_left}
use Rattle.ask_words.proofs.AnswersDecided.{subject-placed, fields_read, rewrite-read, numbered-read, fields-not, rewrite-not, numbered-not}

-- the words of a value
module _ (line : List ℕ) (a : Option Coded) (p : CodedRead line 0 a) where
  pub no-type : a ≡ None → SubjectRead line None
  unfolding subject_first
  no-type e = record { read = rw (← all_left line, ← p.read, e); within = tt; placed = tt }

  module _ (t : Coded) (e : a ≡ Some t) (b : Option Coded) (q : CodedRead line (t.end + 1) b) where
    pub no_value : b ≡ None → SubjectRead line None
    unfolding subject_first
    no_value f = record { read = rw (← all_left line, ← p.read, e, ← q.read, f); within = tt; placed = tt }

    module _ (v : Coded) (f : b ≡ Some v) (n : Option (ℕ × ℕ)) (r : number_found n line ≡ number_first (left line (v.end + 1))) where
      pub no_start : n ≡ None → SubjectRead line None
      unfolding subject_first
      no_start g = record { read = rw (← all_left line, ← p.read, e, ← q.read, f, ← r, g); within = tt; placed = tt }

      pub subject-is : (start next : ℕ) → n ≡ Some (start, next) → SubjectRead line (Some (record { typed = t; value = v; start = start }, next))
      unfolding subject_first
      subject-is start next g =
          record {
            read = rw (← all_left line, ← p.read, e, ← q.read, f, ← r, g);
            within = (coded-within p t e, coded-within q v f);
            placed = subject-placed line t v (coded-passed p t e).0 (coded-passed p t e).1 (coded-passed q v f).0 start;
          }

-- and those behind them: of `value` and `item`
module _ (line : List ℕ) (a : Option (Subject × ℕ)) (p : SubjectRead line a) where
  pub fields-none : a ≡ None → FieldsRead line None
  unfolding value_fields
  fields-none e = fields-not line (rw (← p.read, e))

  pub rewrite-none : a ≡ None → RewriteRead line None
  unfolding rewrite_fields_of
  rewrite-none e = rewrite-not line (rw (← p.read, e))

  module _ (s : Subject) (next : ℕ) (e : a ≡ Some (s, next)) where
    subject-within : WithinSubject s line
    subject-within = rw e at p.within

    subject-at : Placed line s
    subject-at = rw e at p.placed

    module _ (n : Option (ℕ × ℕ)) (q : number_found n line ≡ number_first (left line next)) where
      pub no_number : n ≡ None → FieldsRead line None
      unfolding value_fields
      no_number f = fields-not line (rw (← p.read, e, ← q, f))

      module _ (number last : ℕ) (f : n ≡ Some (number, last)) where
        pub fields-more : last ≤ length line → FieldsRead line None
        unfolding value_fields
        fields-more k = fields-not line (rw (← p.read, e, ← q, f) (more_left line last _ _ k))

        pub fields-are : length line < last → FieldsRead line (Some (record { subject = s; number = number }))
        unfolding value_fields
        fields-are k = fields_read line s subject-at subject-within number (rw (← p.read, e, ← q, f, none_left line last k))

    -- of `rewrite`
    module _ (o : Option (Order × ℕ)) (q : OrderRead line next o) where
      pub no-order : o ≡ None → RewriteRead line None
      unfolding rewrite_fields_of
      no-order f = rewrite-not line (rw (← p.read, e, ← q.read, f))

      module _ (order : Order) (behind : ℕ) (f : o ≡ Some (order, behind)) (n : Option (ℕ × ℕ)) (r : number_found n line ≡ number_first (left line behind)) where
        pub no_index : n ≡ None → RewriteRead line None
        unfolding rewrite_fields_of
        no_index g = rewrite-not line (rw (← p.read, e, ← q.read, f, ← r, g))

        module _ (index later : ℕ) (g : n ≡ Some (index, later)) (m : Option (ℕ × ℕ)) (t : number_found m line ≡ number_first (left line later)) where
          pub no_room : m ≡ None → RewriteRead line None
          unfolding rewrite_fields_of
          no_room h = rewrite-not line (rw (← p.read, e, ← q.read, f, ← r, g, ← t, h))

          module _ (room end : ℕ) (h : m ≡ Some (room, end)) where
            pub rewrite-more : end ≤ length line → RewriteRead line None
            unfolding rewrite_fields_of
            rewrite-more k = rewrite-not line (rw (← p.read, e, ← q.read, f, ← r, g, ← t, h) (more_left line end _ _ k))

            pub rewrite-asks : length line < end → RewriteRead line (Some (record { subject = s; order = order; index = index; room = room }))
            unfolding rewrite_fields_of
            rewrite-asks k =
                rewrite-read line s subject-at subject-within order index room
                (rw (← p.read, e, ← q.read, f, ← r, g, ← t, h, none_left line end k))

-- those behind `component`
module _ (line : List ℕ) (w : Option ℕ) (p : WordAt line 0 w) where
  pub numbered-none : w ≡ None → NumberedRead line None
  unfolding numbered_fields_of
  numbered-none e = numbered-not line (rw (← all_left line, p.found, e))

  module _ (end : ℕ) (e : w ≡ Some end) (n : Option (ℕ × ℕ)) (q : number_found n line ≡ number_first (left line (end + 1))) where
    pub word-alone : n ≡ None → NumberedRead line None
    unfolding numbered_fields_of
    word-alone f = numbered-not line (rw (← all_left line, p.found, e, ← q, f))

    module _ (number next : ℕ) (f : n ≡ Some (number, next)) where
      pub numbered_more : next ≤ length line → NumberedRead line None
      unfolding numbered_fields_of
      numbered_more k = numbered-not line (rw (← all_left line, p.found, e, ← q, f) (more_left line next _ _ k))

      pub numbered_is : length line < next → NumberedRead line (Some (end, number))
      unfolding numbered_fields_of
      numbered_is k =
          let z : end - 0 ≡ end = omega arith in
          numbered-read line end number (word-within p end e).inside (rw (← all_left line, p.found, e, ← q, f, none_left line next k, z))
