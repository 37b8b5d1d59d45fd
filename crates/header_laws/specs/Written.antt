-- "can write back all before it, gaps and reserved octets zero": a message with what was written back before its body reads as it did, and
-- written back again it is the same octets. v is the message, w another.
--   body_begins        where the body begins; of a refusal only the frame's octets are told
--   rewritten_message  the message with what was written back before its body
--   HasHeader         an answer that is no refusal
--   SameIn            the octets of an extent are the same in both
--   SameEntry         so is the context or profile of a number, with its tag
--   SameList          each of a list
--   SameTarget        a target's octets
--   SameOctets        all octets that a request's header tells: its target's, its operation, its principal and its contexts
--   SameParts         those that an answer tells; of a reply its contexts
--   ReadAgain         as many octets are written as stand before the body; the message reads as it did: the same numbers, places and body; and the
--                     octets of each part are the same
--   ReadsAgain        every header that was read is read again so
--   WrittenAgain      "gaps and reserved octets zero": what is written back of what was written back is the same octets
use Rattle.std.specs.Prelude.{ℕ, ◌<◌, ◌≡◌, List, ◌++◌, length, drop, Result, Ok, Err}
use Rattle.cdr.specs.declared.Order.{Order}
use Rattle.cdr.specs.Number.{Octets}
use Rattle.cdr_fields.specs.declared.Extent.{Extent}
use Rattle.cdr_fields.specs.declared.TaggedList.{TaggedList}
use Rattle.cdr_fields.specs.Extents.{extent_octets}
use Rattle.frame.specs.Header.{header_size}
use Rattle.header_parts.specs.declared.TargetAddress.{TargetAddress}
use Rattle.header_parts.specs.declared.TargetAddress.TheVariants.{Key, Profile, Reference}
use Rattle.header.specs.Header.{header_answer}
use Rattle.header.specs.Numbered.{numbered_tag}
use Rattle.header_head.specs.Head.{head_octets}
use Rattle.header.specs.declared.MessageHeader.TheVariants.{Answered, Called}
use Rattle.header.specs.declared.MessageHeader.{MessageHeader}
use Rattle.header_parts.specs.declared.Refusal.{Refusal}

abbrev pub body_begins : Result MessageHeader Refusal → ℕ
body_begins (Ok (Called q)) = q.body
body_begins (Ok (Answered a)) = a.body
body_begins (Err r) = header_size

abbrev pub rewritten_message : List ℕ → Result MessageHeader Refusal → List ℕ
rewritten_message v a = head_octets v a ++ drop (body_begins a) v

abbrev pub HasHeader : Result MessageHeader Refusal → Type 0
HasHeader (Ok (Called q)) = Unit {0}
HasHeader (Ok (Answered a)) = Unit {0}
HasHeader (Err r) = ⊥

abbrev pub SameIn : List ℕ → List ℕ → Extent → Type 0
SameIn v w part = extent_octets w part ≡ extent_octets v part

pub record SameEntry (v w : List ℕ) (order : Order) (list : TaggedList) (number : ℕ) : Type 0 where
  pub tag : ℕ
  pub octets : Extent
  pub first : numbered_tag v list order number ≡ Ok (tag, octets)
  pub second : numbered_tag w list order number ≡ Ok (tag, octets)
  pub same : SameIn v w octets

abbrev pub SameList : List ℕ → List ℕ → Order → TaggedList → Type 0
SameList v w order list = (number : ℕ) → number < list.count → SameEntry v w order list number

abbrev pub SameTarget : List ℕ → List ℕ → Order → TargetAddress → Type 0
SameTarget v w order (Key octets) = SameIn v w octets
SameTarget v w order (Profile tag octets) = SameIn v w octets
SameTarget v w order (Reference index id profiles) = SameIn v w id × SameList v w order profiles

pub record SameOctets (v w : List ℕ) (order : Order) (to : TargetAddress) (name who : Extent) (list : TaggedList) : Type 0 where
  pub target : SameTarget v w order to
  pub operation : SameIn v w name
  pub principal : SameIn v w who
  pub contexts : SameList v w order list

abbrev pub SameParts : List ℕ → List ℕ → Result MessageHeader Refusal → Type 0
SameParts v w (Ok (Called q)) = SameOctets v w q.order q.target q.operation q.principal q.contexts
SameParts v w (Ok (Answered a)) = SameList v w a.order a.contexts
SameParts v w (Err r) = Unit {0}

pub record ReadAgain (v : List ℕ) (a : Result MessageHeader Refusal) : Type 0 where
  pub size : length (head_octets v a) ≡ body_begins a
  pub whole : length (rewritten_message v a) ≡ length v
  pub answer : header_answer (rewritten_message v a) ≡ a
  pub parts : SameParts v (rewritten_message v a) a

abbrev pub ReadsAgain : Type 0
ReadsAgain = (v : List ℕ) → Octets v → (a : Result MessageHeader Refusal) → HasHeader a → header_answer v ≡ a → ReadAgain v a

abbrev pub WrittenAgain : Type 0
WrittenAgain =
    (v : List ℕ) → Octets v → (a : Result MessageHeader Refusal) → HasHeader a → header_answer v ≡ a
    → head_octets (rewritten_message v a) (header_answer (rewritten_message v a)) ≡ head_octets v a
