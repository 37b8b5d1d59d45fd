-- A profile body that is read has at most 16,384 octets, so that it stands in the memory.
use Rattle.std.specs.Prelude.{Option, Result, Ok, Err}
use mathlib.Core.Path.{◌≡◌, ap, ◌∙◌}
use mathlib.Core.List.{List}
use Prim.Native.Nat.{ℕ, ◌≤◌}
use native.Mathlib.Omega.{arith}
use lib.Dec.{ltb}
use lib.ListN.{length, take}
use lib.Seq.{sets, length-sets}
use borrow.Author.Tests.{ltb-true, ltb-false}
use Rattle.choices.proofs.Choices.{by-test, clash}
use Rattle.cdr.specs.Limit.{octets_limit}
use Rattle.decimals.proofs.CharactersPut.{take-written}
use Rattle.profile_parts.specs.declared.Refusal.{Refusal}
use Rattle.profile_parts.specs.Parts.{profile_refusal_number}
use Rattle.cdr_fields.specs.declared.Extent.{Extent}
use Rattle.profile.specs.declared.Profile.{Profile}
use Rattle.profile.specs.Profile.{profile_of, component_of}
use Rattle.profile.proofs.StageAnswers.{profile-too-long, component-is}
use Rattle.cdr_write.specs.Write.{Stored}
use Rattle.cdr_write.proofs.BufferHolds.{stored-fits}
use Rattle.ask_text.specs.declared.Reply.TheVariants.{Profiled, Component, Refused as NotRead}
use Rattle.ask_answers.specs.Questions.{profile_asked, component_asked}
use Rattle.ask_answers.specs.Replies.{body_read, body_of}
use Rattle.ask_answers.specs.Inner.{rewritten_most, OctetsHeld}

module _ (v : List ℕ) where
  read_short : (p : Profile) → profile_of v ≡ Ok p → length v ≤ octets_limit
  read_short p e =
      by-test (ltb octets_limit (length v))
      (λ t. let f = profile-too-long v (ltb-true octets_limit (length v) t) in clash cc)
      (λ t. ltb-false octets_limit (length v) t)

  found-short : (number tag : ℕ) (part : Extent) → component_of v number ≡ Ok (tag, part) → length v ≤ octets_limit
  found-short number tag part e =
      by-test (ltb octets_limit (length v))
      (λ t. let f = component-is v number _ (profile-too-long v (ltb-true octets_limit (length v) t)) in clash cc)
      (λ t. ltb-false octets_limit (length v) t)

  -- the octets of an answer
  pub body-few : (a : Result Profile Refusal) → profile_of v ≡ a → length (body_read a v) ≤ rewritten_most
  body-few (Ok p) e = omega (arith, read_short p e)
  body-few (Err why) e = omega arith

  pub found-few : (number : ℕ) (a : Result (ℕ × Extent) Refusal) → component_of v number ≡ a → length (body_of a v) ≤ rewritten_most
  found-few number (Ok (tag, part)) e = omega (arith, found-short number tag part e)
  found-few number (Err why) e = omega arith

  -- stand at the start of the memory
  module _ (memory : List ℕ) (h : rewritten_most ≤ length memory) (w : Option ℕ) (last : List ℕ) (s : Stored memory 0 v w last) (k : length v ≤ octets_limit) where
    body_is : last ≡ sets memory 0 v
    body_is = stored-fits memory 0 v w last (omega arith) s

    body-taken : take (length v) last ≡ v
    body-taken = rw body_is (take-written memory v (length v) (omega arith) (omega arith))

    body-within : length v ≤ length last
    body-within = omega (arith, ap length body_is ∙ length-sets memory 0 v)

  -- by the answer about the body
  module _ (a : Result Profile Refusal) (e : a ≡ profile_of v) where
    pub profile-held : (p : Profile) → a ≡ Ok p → (memory : List ℕ) → rewritten_most ≤ length memory → (w : Option ℕ) (last : List ℕ) → Stored memory 0 v w last
        → (n : ℕ) → length v ≡ n → OctetsHeld (profile_asked v) (Profiled p n) last
    profile-held p f memory h w last s n g =
        let k : length v ≤ octets_limit = read_short p (cc) in
        rw (← g) (record { reply = rw (← e, f); octets = rw (← e, f) (body-taken memory h w last s k); within = body-within memory h w last s k })

    pub profile-refused : (why : Refusal) → a ≡ Err why → (n : ℕ) → n ≡ profile_refusal_number why → (memory : List ℕ) → OctetsHeld (profile_asked v) (NotRead n) memory
    profile-refused why f n g memory = record { reply = rw (← e, f, g); octets = rw (← e, f); within = omega arith }

  -- and about a component of it
  module _ (number : ℕ) (a : Result (ℕ × Extent) Refusal) (e : a ≡ component_of v number) where
    pub component-held : (tag : ℕ) (part : Extent) → a ≡ Ok (tag, part) → (memory : List ℕ) → rewritten_most ≤ length memory → (w : Option ℕ) (last : List ℕ)
        → Stored memory 0 v w last → (n : ℕ) → length v ≡ n → OctetsHeld (component_asked v number) (Component tag part n) last
    component-held tag part f memory h w last s n g =
        let k : length v ≤ octets_limit = found-short number tag part (cc) in
        rw (← g) (record { reply = rw (← e, f); octets = rw (← e, f) (body-taken memory h w last s k); within = body-within memory h w last s k })

    pub component-refused : (why : Refusal) → a ≡ Err why → (n : ℕ) → n ≡ profile_refusal_number why → (memory : List ℕ)
        → OctetsHeld (component_asked v number) (NotRead n) memory
    component-refused why f n g memory = record { reply = rw (← e, f, g); octets = rw (← e, f); within = omega arith }
