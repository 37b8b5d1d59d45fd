-- What each stage of the reading of a header comes to.
use Rattle.std.specs.Prelude.{Option, Result, Err}
use mathlib.Core.Path.{◌≡◌, ap}
use mathlib.Core.Bool.{Bool, true, false}
use mathlib.Core.List.{List, []}
use Prim.Native.Nat.{ℕ, ◌≤◌, ◌<◌}
use borrow.Author.Tests.{lt-ltb, le-ltb, le-leb, lt-leb}
use lib.ListN.{length}
use Rattle.choices.specs.Branch.{choose}
use Rattle.cdr.specs.Limit.{octets_limit}
use Rattle.cdr.specs.declared.Index.{Index}
use Rattle.cdr.specs.declared.Order.{Order}
use Rattle.cdr_fields.specs.declared.TaggedList.{TaggedList}
use Rattle.cdr_fields.specs.Tagged.{tagged_behind}
use Rattle.frame.specs.declared.Header.{Header}
use Rattle.frame.specs.Frames.{message_of}
use Rattle.header_layout.specs.declared.HeaderPart.{HeaderPart}
use Rattle.header_layout.specs.Layout.{is_request, layout_of}
use Rattle.header_parts.specs.declared.Refusal.TheVariants.{TooLong, NoHeader, NoSuchPart}
use Rattle.header_parts.specs.Parts.{body_place}
use Rattle.header_reading.specs.Reading.{HeaderFields, no_fields, HeaderUpto, parts_read}
use Rattle.header.specs.Header.{header_said, on_body, header_ended, header_start, header_by, header_in, on_frame, header_answer}
use Rattle.header.specs.Numbered.{numbered_found, numbered_tag, context_in, context_of, profile_in, profile_of_target}
use Rattle.cdr_fields.specs.declared.Extent.{Extent}
use Rattle.frame.specs.declared.Refusal.{Refusal as FrameRefusal}
use Rattle.header.specs.declared.MessageHeader.{MessageHeader}
use Rattle.header_parts.specs.declared.Refusal.{Refusal}

module _ (v : List ℕ) (request : Bool) (order : Order) (minor : ℕ) where
  pub by_parts : (parts : List HeaderPart) (u : HeaderUpto) → parts_read v order minor parts no_fields header_start ≡ u
      → header_by v request order minor parts ≡ header_ended v request order minor u
  unfolding header_by
  by_parts parts u e = ap (header_ended v request order minor) e

  -- all parts are read, and the place of the body is known
  pub ended_is : (f : HeaderFields) (i : Index) (b : Result ℕ Refusal) → body_place (length v) i.0 minor ≡ b
      → header_ended v request order minor (parts_read v order minor [] f i) ≡ on_body b (λ body. header_said request order minor f body)
  unfolding parts_read
  ended_is f i b e = ap (λ (x : Result ℕ Refusal). on_body x (λ body. header_said request order minor f body)) e

module _ (v : List ℕ) where
  pub too_long : octets_limit < length v → header_answer v ≡ Err TooLong
  unfolding header_answer choose
  too_long h = rw (lt-ltb octets_limit (length v) h)

  pub header_is : length v ≤ octets_limit → (f : Result Header FrameRefusal) → message_of v ≡ f → header_answer v ≡ on_frame f (λ h. header_in v h)
  unfolding header_answer choose
  header_is h f e = rw (le-ltb octets_limit (length v) h, e)

  module _ (h : Header) where
    pub none-of-more : h.more ≡ true → header_in v h ≡ Err NoHeader
    unfolding header_in
    none-of-more e = rw e

    pub none-of-type : h.more ≡ false → 1 < h.kind → header_in v h ≡ Err NoHeader
    unfolding header_in
    none-of-type e l = rw (e, lt-ltb 1 h.kind l)

    pub of-type : h.more ≡ false → h.kind ≤ 1
        → header_in v h ≡ header_by v (is_request h.kind) h.order h.minor (layout_of h.kind h.minor)
    unfolding header_in
    of-type e l = rw (e, le-ltb 1 h.kind l)

  module _ (list : TaggedList) (order : Order) (n : ℕ) where
    pub not-numbered : list.count ≤ n → numbered_tag v list order n ≡ Err NoSuchPart
    unfolding numbered_tag choose
    not-numbered h = rw (le-leb list.count n h)

    pub numbered_is : n < list.count → (t : Option (ℕ × Extent × Index)) → tagged_behind v list.first n order ≡ t → numbered_tag v list order n ≡ numbered_found t
    unfolding numbered_tag choose
    numbered_is h t e = rw (lt-leb list.count n h, e)

  pub numbered-same : (l m : TaggedList) (order : Order) (n : ℕ) → l ≡ m → numbered_tag v l order n ≡ numbered_tag v m order n
  numbered-same l m order n e = ap (λ (x : TaggedList). numbered_tag v x order n) e

  pub context-is : (n : ℕ) (a : Result MessageHeader Refusal) → header_answer v ≡ a → context_of v n ≡ context_in v n a
  unfolding context_of
  context-is n a e = ap (context_in v n) e

  pub profile-is : (n : ℕ) (a : Result MessageHeader Refusal) → header_answer v ≡ a → profile_of_target v n ≡ profile_in v n a
  unfolding profile_of_target
  profile-is n a e = ap (profile_in v n) e
