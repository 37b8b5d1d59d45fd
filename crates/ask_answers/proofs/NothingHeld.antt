-- Which questions have answers without items, and which without octets.
use Rattle.std.specs.Prelude.{Option, Some, None, Result, Ok, Err}
use mathlib.Core.Path.{◌≡◌, refl}
use mathlib.Core.List.{List, [], ◌∷◌}
use Prim.Native.Nat.{ℕ}
use native.Mathlib.Omega.{arith}
use lib.ListN.{length}
use Rattle.cdr.specs.declared.Order.{Order}
use Rattle.cdr.specs.Align.{index_of}
use Rattle.value_items.specs.declared.ItemValue.{ItemValue}
use Rattle.value_items.specs.declared.ItemValue.TheVariants.{Signed, Unsigned, Single, Double}
use Rattle.typecode.specs.TypeCode.{checked_type}
use Rattle.profile.specs.Profile.{profile_of, component_of}
use Rattle.value_meaning.specs.declared.ValueAnswer.{ValueAnswer}
use Rattle.value_meaning.specs.declared.ValueAnswer.TheVariants.{Accepted, Refused}
use Rattle.value_meaning.specs.Value.{value_answer, item_rows}
use Rattle.value.specs.Single.{item_answer}
use Rattle.rewrite_meaning.specs.declared.RewriteAnswer.{RewriteAnswer}
use Rattle.rewrite_meaning.specs.declared.RewriteAnswer.TheVariants.{Accepted as written_to, Refused as not_written}
use Rattle.rewrite_meaning.specs.Written.{Target, target}
use Rattle.rewrite_meaning.specs.Rewriting.{rewrite_answer}
use Rattle.ask_words.specs.Words.{order_word}
use Rattle.ask_words.specs.Fields.{FieldsOf, are, not_fields, RewriteFields, rewrites, not_rewrite, NumberedFields, numbered, not_numbered}
use Rattle.ask_text.specs.declared.Reply.{Reply}
use Rattle.ask_text.specs.declared.Reply.TheVariants.{NoQuestion}
use Rattle.ask_text.specs.Items.{items_of}
use Rattle.ask_octets.specs.Octets.{WordOctets, are_octets, not_octets, octets_word, lone_octets}
use Rattle.ask_answers.specs.Questions.{Question, type_asked, value_asked, item_asked, rewrite_asked, profile_asked, component_asked, no_question, octets_question, named_type, type_question, About, about, not_about, about_of, on_about, about_question, rewrite_question, profile_question, component_question}
use Rattle.ask_answers.specs.Replies.{type_reply, value_reply, item_reply, rewrite_reply, profile_reply, component_reply, room_of, reply_to, items_in, answer_octets}
use Rattle.ask_answers.specs.Answers.{table_for}
use Rattle.ask_answers.specs.Inner.{reply_numbers, Replied, reply_octets, OctetsHeld}
use Rattle.cdr_fields.specs.declared.Extent.{Extent}
use Rattle.profile.specs.declared.Profile.{Profile}
use Rattle.profile_parts.specs.declared.Refusal.{Refusal}
use Rattle.typecode.specs.declared.NoType.TheVariants.{Loop, Refused}
use Rattle.typecode.specs.declared.NoType.{NoType}

-- by the question: only a value has items, and only a value that is rewritten and a profile body have octets
abbrev pub NoItems : Question → Type 0
NoItems (type_asked order v) = Unit {0}
NoItems (value_asked order t x room) = ⊥
NoItems (item_asked order t x number) = Unit {0}
NoItems (rewrite_asked order t x to room) = Unit {0}
NoItems (profile_asked v) = Unit {0}
NoItems (component_asked v number) = Unit {0}
NoItems no_question = Unit {0}

abbrev pub NoOctets : Question → Type 0
NoOctets (type_asked order v) = Unit {0}
NoOctets (value_asked order t x room) = Unit {0}
NoOctets (item_asked order t x number) = Unit {0}
NoOctets (rewrite_asked order t x to room) = ⊥
NoOctets (profile_asked v) = ⊥
NoOctets (component_asked v number) = ⊥
NoOctets no_question = Unit {0}

-- none stand in the answer
type-none : (a : Result (ℕ × ℕ) NoType) → (reply_numbers (type_reply a) ≡ 0) × (reply_octets (type_reply a) ≡ 0)
type-none (Ok (used, kinds)) = (refl, refl)
type-none (Err (Refused why)) = (refl, refl)
type-none (Err Loop) = (refl, refl)

item-none : (a : Result ItemValue ℕ) → (reply_numbers (item_reply a) ≡ 0) × (reply_octets (item_reply a) ≡ 0)
item-none (Ok (Signed x)) = (refl, refl)
item-none (Ok (Unsigned x)) = (refl, refl)
item-none (Ok (Single bits x)) = (refl, refl)
item-none (Ok (Double bits x)) = (refl, refl)
item-none (Err number) = (refl, refl)

value_none : (a : ValueAnswer) → reply_octets (value_reply a) ≡ 0
value_none (Accepted used items visits) = refl
value_none (Refused number visits) = refl

rewrite-none : (a : RewriteAnswer) → reply_numbers (rewrite_reply a) ≡ 0
rewrite-none (written_to count) = refl
rewrite-none (not_written number) = refl

profile-none : (a : Result Profile Refusal) (n : ℕ) → reply_numbers (profile_reply a n) ≡ 0
profile-none (Ok p) n = refl
profile-none (Err why) n = refl

component-none : (a : Result (ℕ × Extent) Refusal) (n : ℕ) → reply_numbers (component_reply a n) ≡ 0
component-none (Ok (tag, part)) n = refl
component-none (Err why) n = refl

no_items : (q : Question) → NoItems q → (reply_numbers (reply_to q) ≡ 0) × (items_in q ≡ [])
no_items (type_asked order v) n = ((type-none (checked_type v order).answer).0, refl)
no_items (value_asked order t x room) n = absurd n
no_items (item_asked order t x number) n = ((item-none (item_answer t order x number)).0, refl)
no_items (rewrite_asked order t x to room) n = (rewrite-none (rewrite_answer t order x to room), refl)
no_items (profile_asked v) n = (profile-none (profile_of v) (length v), refl)
no_items (component_asked v number) n = (component-none (component_of v number) (length v), refl)
no_items no_question n = (refl, refl)

no-octets : (q : Question) → NoOctets q → (reply_octets (reply_to q) ≡ 0) × (answer_octets q ≡ [])
no-octets (type_asked order v) n = ((type-none (checked_type v order).answer).1, refl)
no-octets (value_asked order t x room) n = (value_none (value_answer t order x (room_of room)), refl)
no-octets (item_asked order t x number) n = ((item-none (item_answer t order x number)).1, refl)
no-octets (rewrite_asked order t x to room) n = absurd n
no-octets (profile_asked v) n = absurd n
no-octets (component_asked v number) n = absurd n
no-octets no_question n = (refl, refl)

module _ (q : Question) (r : Reply) (e : r ≡ reply_to q) where
  pub replied-none : NoItems q → (table : List ℕ) → Replied q table r table
  unfolding items_of table_for item_rows
  replied-none n table =
      let a = no_items q n in record { reply = e; items = rw (e, a.0, a.1); within = rw (e, a.0) (omega arith); filled = rw a.1 }

  pub held_none : NoOctets q → (memory : List ℕ) → OctetsHeld q r memory
  held_none n memory = let a = no-octets q n in record { reply = e; octets = rw (e, a.0, a.1); within = rw (e, a.0) (omega arith) }

-- what a line that is no question is answered
pub none-replied : (q : Question) (table : List ℕ) → q ≡ no_question → Replied q table NoQuestion table
none-replied q table e = rw e (replied-none no_question NoQuestion refl tt table)

pub none-held : (q : Question) (memory : List ℕ) → q ≡ no_question → OctetsHeld q NoQuestion memory
none-held q memory e = rw e (held_none no_question NoQuestion refl tt memory)

-- by the words: of a type,
octets-bare : (order : Order) (o : WordOctets) → NoItems (octets_question o (λ v. type_asked order v)) × NoOctets (octets_question o (λ v. type_asked order v))
octets-bare order (are_octets v) = (tt, tt)
octets-bare order not_octets = (tt, tt)

named-bare : (n : Option Order) (ws : List (List ℕ)) → NoItems (named_type n ws) × NoOctets (named_type n ws)
named-bare (Some order) ws = octets-bare order (lone_octets ws)
named-bare None ws = (tt, tt)

pub type-bare : (ws : List (List ℕ)) → NoItems (type_question ws) × NoOctets (type_question ws)
type-bare [] = (tt, tt)
type-bare (order ∷ rest) = named-bare (order_word order) rest

-- of an item, of a value, and of a value that is rewritten
item-about : (a : About) (number : ℕ) → NoItems (on_about a (λ order t x. item_asked order t x number)) × NoOctets (on_about a (λ order t x. item_asked order t x number))
item-about (about order t x) number = (tt, tt)
item-about not_about number = (tt, tt)

pub item-bare : (f : FieldsOf) → NoItems (about_question item_asked f) × NoOctets (about_question item_asked f)
item-bare (are subject number) = item-about (about_of subject) number
item-bare not_fields = (tt, tt)

value-about : (a : About) (room : ℕ) → NoOctets (on_about a (λ order t x. value_asked order t x room))
value-about (about order t x) room = tt
value-about not_about room = tt

pub value-no-octets : (f : FieldsOf) → NoOctets (about_question value_asked f)
value-no-octets (are subject number) = value-about (about_of subject) number
value-no-octets not_fields = tt

rewrite-about : (a : About) (to : Target) (room : ℕ) → NoItems (on_about a (λ order t x. rewrite_asked order t x to room))
rewrite-about (about order t x) to room = tt
rewrite-about not_about to room = tt

pub rewrite-no-items : (f : RewriteFields) → NoItems (rewrite_question f)
rewrite-no-items (rewrites subject chosen index room) = rewrite-about (about_of subject) (target chosen (index_of index)) room
rewrite-no-items not_rewrite = tt

-- of a profile, and of a component
octets-no-items : (o : WordOctets) (ask : List ℕ → Question) → ((v : List ℕ) → NoItems (ask v)) → NoItems (octets_question o ask)
octets-no-items (are_octets v) ask n = n v
octets-no-items not_octets ask n = tt

pub profile-no-items : (ws : List (List ℕ)) → NoItems (profile_question ws)
profile-no-items ws = octets-no-items (lone_octets ws) (λ v. profile_asked v) (λ v. tt)

pub component-no-items : (f : NumberedFields) → NoItems (component_question f)
component-no-items (numbered word number) = octets-no-items (octets_word word) (λ v. component_asked v number) (λ v. tt)
component-no-items not_numbered = tt
