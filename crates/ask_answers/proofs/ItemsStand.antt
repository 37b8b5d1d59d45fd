-- Questions about a value or a component: their words read, and the items of a value left in the table.
use Rattle.std.specs.Prelude.{Option, Some, None, Result, Ok, Err}
use mathlib.Core.Path.{◌≡◌, refl, sym, ap, ◌∙◌}
use mathlib.Core.List.{List, [], ◌∷◌, ◌++◌, append_assoc}
use Prim.Native.Nat.{ℕ, ◌+◌, ◌*◌, ◌/◌, ◌≤◌}
use native.Mathlib.Omega.{arith}
use lib.Dec.{eqb}
use lib.ListN.{length, take, drop, length-append, length-drop, length-take, take-append-drop}
use lib.Seq.{sets, sets-eq, length-sets, length-take-le, take-append-le, drop-append-le}
use Rattle.choices.proofs.Choices.{by-test, clash}
use Rattle.choices.specs.Branch.{choose}
use Rattle.cdr.specs.declared.Order.{Order}
use Rattle.cdr.specs.Align.{index_of}
use Rattle.decimals.proofs.CharactersPut.{take-written}
use Rattle.ask_text.specs.declared.Reply.TheVariants.{Read, Unread}
use Rattle.ask_text.specs.Items.{items_of}
use Rattle.ask_text.proofs.ItemsJoined.{items-flat}
use Rattle.value_meaning.specs.declared.ValueAnswer.{ValueAnswer}
use Rattle.value_meaning.specs.declared.ValueAnswer.TheVariants.{Accepted, Refused}
use Rattle.value_meaning.specs.Sinks.{Source, source, Item, St}
use Rattle.value_meaning.specs.Reading.{Log, room_for}
use Rattle.value_meaning.specs.Visit.{checked}
use Rattle.value_meaning.specs.Value.{reading_answer, overlong, on_type, value_answer, reading_of, item_rows, table_after}
use Rattle.value_meaning.proofs.EnoughRoom.{room-kept}
use Rattle.typecode.specs.TypeCode.{checked_type}
use Rattle.ask_words.specs.declared.Asked.{Asked}
use Rattle.ask_words.specs.declared.Subject.{Subject}
use Rattle.ask_words.specs.declared.Chosen.{Chosen}
use Rattle.ask_words.specs.Words.{words}
use Rattle.ask_words.specs.Fields.{value_fields, rewrite_fields_of, numbered_fields_of}
use Rattle.ask_words.specs.Inner.{part, subject_words, WithinSubject, FieldsRead, RewriteRead, NumberedRead}
use Rattle.rewrite_meaning.specs.Written.{target}
use Rattle.ask_answers.specs.declared.about.About.{About}
use Rattle.ask_octets.specs.Octets.{octets_word}
use Rattle.ask_answers.specs.Questions.{Question, value_asked, rewrite_asked, component_asked, no_question, octets_question, about_of, on_about, about_question, rewrite_question, component_question}
use Rattle.ask_answers.specs.Replies.{room_of}
use Rattle.ask_answers.specs.Answers.{table_for}
use Rattle.ask_answers.specs.Inner.{OctetsRead, AboutRead, Replied}
use Rattle.typecode.specs.declared.NoType.TheVariants.{Loop, Refused}
use Rattle.typecode.specs.declared.NoType.{NoType}

-- the words of a value are within the line,
module _ (rest : List ℕ) (f : Option Asked) (p : FieldsRead rest f) where
  pub fields_within : (a : Asked) → f ≡ Some a → WithinSubject a.subject rest
  fields_within a e = rw e at p.within

  -- and behind `value` or `item` they are the question
  pub fields-none : (ask : Order → List ℕ → Source → ℕ → Question) → f ≡ None → about_question ask (value_fields (words rest)) ≡ no_question
  fields-none ask e = rw (← p.read, e)

  pub fields-about : (ask : Order → List ℕ → Source → ℕ → Question) (a : Asked) → f ≡ Some a
      → about_question ask (value_fields (words rest)) ≡ on_about (about_of (subject_words a.subject rest)) (λ order t x. ask order t x a.number)
  fields-about ask a e = rw (← p.read, e)

-- the same behind `rewrite`
module _ (rest : List ℕ) (f : Option Chosen) (p : RewriteRead rest f) where
  pub rewrite-within : (c : Chosen) → f ≡ Some c → WithinSubject c.subject rest
  rewrite-within c e = rw e at p.within

  pub rewrite-none : f ≡ None → rewrite_question (rewrite_fields_of (words rest)) ≡ no_question
  rewrite-none e = rw (← p.read, e)

  pub rewrite-about : (c : Chosen) → f ≡ Some c → rewrite_question (rewrite_fields_of (words rest))
      ≡ on_about (about_of (subject_words c.subject rest)) (λ order t x. rewrite_asked order t x (target c.order (index_of c.index)) c.room)
  rewrite-about c e = rw (← p.read, e)

-- and behind `component`
module _ (rest : List ℕ) (f : Option (ℕ × ℕ)) (p : NumberedRead rest f) where
  pub numbered-none : f ≡ None → component_question (numbered_fields_of (words rest)) ≡ no_question
  numbered-none e = rw (← p.read, e)

  module _ (end number : ℕ) (e : f ≡ Some (end, number)) where
    pub numbered_within : end ≤ length rest
    numbered_within = rw e at p.within

    pub numbered-fits : (n : ℕ) → length rest ≤ n → length (take end rest) ≤ n
    numbered-fits n h = let k = numbered_within in omega (arith, length-take-le end rest k)

    pub numbered-about : component_question (numbered_fields_of (words rest)) ≡ octets_question (octets_word (take end rest)) (λ v. component_asked v number)
    numbered-about = rw (← p.read, e)

-- the octets of two of the words
module _ (rest : List ℕ) (a : Subject) (o : Option ℕ) (t : List ℕ) (q : OctetsRead (octets_word (part rest a.typed.from a.typed.end)) o t) where
  pub about-no-type : (v : List ℕ) → o ≡ None → AboutRead rest a None t v
  unfolding about_of
  about-no-type v g = record { stands = rw (← q.stands, g); typed = omega arith; valued = omega arith }

  module _ (types : ℕ) (g : o ≡ Some types) (w : Option ℕ) (v : List ℕ) (s : OctetsRead (octets_word (part rest a.value.from a.value.end)) w v) where
    pub about-no-value : w ≡ None → AboutRead rest a None t v
    unfolding about_of
    about-no-value h = record { stands = rw (← q.stands, g, ← s.stands, h); typed = omega arith; valued = omega arith }

    pub about-is : (values : ℕ) → w ≡ Some values → AboutRead rest a (Some (record { typed = a.typed.order; type_count = types; order = a.value.order; value_count = values; start = a.start })) t v
    unfolding about_of
    about-is values h =
        record { stands = rw (← q.stands, g, ← s.stands, h); typed = rw g at q.within; valued = rw h at s.within }

-- a word has no more characters than the line
pub part-most : (rest : List ℕ) (from end : ℕ) → length (part rest from end) ≤ length rest
part-most rest from end = rw length-take (omega (arith, length-drop from rest))

-- what is read of a value is within the memory, and is what is asked about
module _ {rest : List ℕ} {a : Subject} {r : Option About} {t v : List ℕ} (p : AboutRead rest a r t v) where
  pub about-nothing : (ask : Order → List ℕ → Source → Question) → r ≡ None → on_about (about_of (subject_words a rest)) ask ≡ no_question
  about-nothing ask e = rw (← p.stands, e)

  module _ (b : About) (e : r ≡ Some b) where
    pub types-within : b.type_count ≤ length t
    types-within = rw e at p.typed

    pub values-within : b.value_count ≤ length v
    values-within = rw e at p.valued

    pub about-asks : (ask : Order → List ℕ → Source → Question)
        → ask b.typed (take b.type_count t) (source (take b.value_count v) b.order (index_of b.start)) ≡ on_about (about_of (subject_words a rest)) ask
    about-asks ask = rw (← p.stands, e)

-- an accepted value has as many items as it says
flat-length : (is : List Item) → length (item_rows is) ≡ length is * 3
unfolding item_rows
flat-length [] = refl
flat-length (i ∷ is) = let e = flat-length is in omega arith

module _ (s : St Log) (used n visits : ℕ) where
  answer-count : reading_answer s ≡ Accepted used n visits → n ≡ length s.kept.items
  unfolding choose
  answer-count e =
      by-test (eqb s.fault 0)
      (λ z. let f : Accepted s.at (length s.kept.items) s.kept.visits ≡ Accepted used n visits = rw z at e in cc)
      (λ z. let f = rw z at e in clash cc)

  type-count : (a : Result (ℕ × ℕ) NoType) → on_type a (λ _. reading_answer s) (λ m. Refused m 0) ≡ Accepted used n visits → n ≡ length s.kept.items
  type-count (Ok (u, k)) e = answer-count e
  type-count (Err (Refused why)) e = clash cc
  type-count (Err Loop) e = clash cc

module _ (t : List ℕ) (order : Order) (x : Source) (room : ℕ) where
  abbrev items : List Item
  items = (reading_of (room_for room) t order x).kept.items

  items_kept : length items ≤ room
  unfolding reading_of
  items_kept = room-kept room x (checked t (checked_type t order).kinds)

  items-count : (used n visits : ℕ) → value_answer t order x room ≡ Accepted used n visits → n ≡ length items
  unfolding value_answer choose
  items-count used n visits e =
      by-test (overlong t x)
      (λ o. let f = rw o at e in clash cc)
      (λ o. type-count (reading_of (room_for room) t order x) used n visits (checked_type t order).answer (rw o at e))

-- what is stored at the start of a part stands at the start of the whole
stored-front : (xs l : List ℕ) (k : ℕ) → length xs ≤ k → k ≤ length l → sets (take k l) 0 xs ++ drop k l ≡ sets l 0 xs
stored-front xs l k h g =
    let n = length-take-le k l g in
    ap (λ (a : List ℕ). a ++ drop k l) (sets-eq xs (take k l) 0 (omega arith))
    ∙ append_assoc xs (drop (0 + length xs) (take k l)) (drop k l)
    ∙ ap (λ (a : List ℕ). xs ++ a)
    (sym (drop-append-le (0 + length xs) (take k l) (drop k l) (omega arith)) ∙ ap (drop (0 + length xs)) (take-append-drop k l))
    ∙ sym (sets-eq xs l 0 (omega arith))

-- the items of a value stand at the table's start
module _ (t : List ℕ) (order : Order) (x : Source) (room : ℕ) (table : List ℕ) (m : ℕ) (k : m ≡ room_of room) (h : m * 3 ≤ length table) where
  abbrev lent : List ℕ
  lent = take (m * 3) table

  lent_length : length lent ≡ m * 3
  lent_length = length-take-le (m * 3) table h

  lent-room : length lent / 3 ≡ room_of room
  lent-room = omega (arith, lent_length, k)

  module _ (a : ValueAnswer) (e : a ≡ value_answer t order x (length lent / 3)) where
    answered : a ≡ value_answer t order x (room_of room)
    answered = rw lent-room at e

    pub value-refused : (number visits : ℕ) → a ≡ Refused number visits → (last : List ℕ) → last ≡ table_after t order x lent
        → Replied (value_asked order t x room) table (Unread number visits) (last ++ drop (m * 3) table)
    unfolding items_of table_after table_for item_rows
    value-refused number visits g last f =
        let same : last ≡ lent = f ∙ rw (lent-room, ← answered, g) in
        record {
          reply = rw (← answered, g);
          items = rw (← answered, g);
          within = omega arith;
          filled = rw (← answered, g) (ap (λ (l : List ℕ). l ++ drop (m * 3) table) same ∙ take-append-drop (m * 3) table);
        }

    module _ (used n visits : ℕ) (g : a ≡ Accepted used n visits) (last : List ℕ) (f : last ≡ table_after t order x lent) where
      count-is : n ≡ length (items t order x (room_of room))
      count-is = items-count t order x (room_of room) used n visits (sym answered ∙ g)

      count_fits : n * 3 ≤ length lent
      count_fits = omega (arith, k, count-is, items_kept t order x (room_of room), lent_length)

      last-is : last ≡ sets lent 0 (item_rows (items t order x (room_of room)))
      unfolding table_after
      last-is = f ∙ rw (lent-room, ← answered, g)

      pub value-accepted : Replied (value_asked order t x room) table (Read used visits n) (last ++ drop (m * 3) table)
      unfolding table_for
      value-accepted =
          let l : length last ≡ length lent = ap length last-is ∙ length-sets lent 0 (item_rows (items t order x (room_of room))) in
          let c = count_fits in
          record {
            reply = rw (← answered, g);
            items = rw (← answered, g)
                (ap items_of
                (take-append-le (n * 3) last (drop (m * 3) table) (omega arith)
                ∙ ap (take (n * 3)) last-is
                ∙ take-written lent (item_rows (items t order x (room_of room))) (n * 3) (omega (arith, count-is, flat-length (items t order x (room_of room)))) count_fits)
                ∙ items-flat (items t order x (room_of room)));
            within = rw length-append (omega arith);
            filled = rw (← answered, g)
                (ap (λ (l : List ℕ). l ++ drop (m * 3) table) last-is
                ∙ stored-front (item_rows (items t order x (room_of room))) table (m * 3)
                (omega (arith, k, flat-length (items t order x (room_of room)), items_kept t order x (room_of room))) h);
          }
