-- What an accepted message is: every row of the table lets it pass, and the header says what stands there.
use Rattle.std.specs.Prelude.{Result, Ok, Err}
use mathlib.Core.Path.{◌≡◌, refl, sym, ap}
use mathlib.Core.List.{List}
use mathlib.Core.Bool.{Bool, true, false, cond, not}
use Prim.Native.Nat.{ℕ, ◌+◌, ◌-◌, ◌≤◌}
use native.Mathlib.Omega.{arith}
use lib.Dec.{ltb, eqb}
use lib.ListN.{length}
use borrow.Author.Tests.{ltb-false, eqb-true, not-false}
use Rattle.choices.proofs.Choices.{clash}
use Rattle.frame.specs.declared.Header.{Header}
use Rattle.frame.specs.declared.Refusal.{Refusal}
use Rattle.frame.specs.declared.Refusal.TheVariants.{TooLong, Short, NotGiop, NoSuchVersion, NoSuchFlags, NoSuchType, SizeAbove, SizeBelow, SizeOfType, NoFragments, NotInEights}
use Rattle.version.specs.Versions.{flags_allowed, type_exists}
use Rattle.frame.specs.Messages.{version_exists}
use Rattle.frame.specs.Header.{header_size, giop, magic_at, major_at, minor_at, flags_at, message_type_at, more_at, size_at, header_of}
use Rattle.frame.specs.Frames.{message_limit, size_allowed, fragment_allowed, eights_allowed, sized_of, message_of, frame_of}

pub record Accepts (v : List ℕ) (h : Header) : Type 0 where
  pub says : h ≡ header_of v
  pub octets : length v ≡ header_size + size_at v
  pub magic : magic_at v ≡ giop
  pub version : version_exists (major_at v) (minor_at v) ≡ true
  pub flags : flags_allowed (minor_at v) (flags_at v) ≡ true
  pub kind : type_exists (minor_at v) (message_type_at v) ≡ true
  pub size : size_allowed (minor_at v) (message_type_at v) (size_at v) ≡ true
  pub fragment : fragment_allowed (minor_at v) (message_type_at v) (more_at v) ≡ true
  pub eights : eights_allowed (more_at v) (size_at v) ≡ true

-- a row that does not refuse lets the rest decide
passes : (refused : Bool) (row : Refusal) (rest : Result Header Refusal) (h : Header) → cond refused (Err row) rest ≡ Ok h
    → (refused ≡ false) × (rest ≡ Ok h)
passes true row rest h e = clash cc
passes false row rest h e = (refl, e)

-- the header that was accepted
abbrev accepted_or : Header → Result Header Refusal → Header
accepted_or other (Ok h) = h
accepted_or other (Err row) = other

accepted-same : (g h : Header) → ◌≡◌ {A = Result Header Refusal} (Ok g) (Ok h) → h ≡ g
accepted-same g h e = sym (ap (accepted_or g) e)

pub message-accepts : (v : List ℕ) (h : Header) → message_of v ≡ Ok h → Accepts v h
unfolding message_of sized_of
message-accepts v h e =
    let short = passes (ltb (length v) header_size) Short _ h e in
    let giop = passes (not (eqb (magic_at v) giop)) NotGiop _ h short.1 in
    let version = passes (not (version_exists (major_at v) (minor_at v))) NoSuchVersion _ h giop.1 in
    let flags = passes (not (flags_allowed (minor_at v) (flags_at v))) NoSuchFlags _ h version.1 in
    let kind = passes (not (type_exists (minor_at v) (message_type_at v))) NoSuchType _ h flags.1 in
    let above = passes (ltb (length v - header_size) (size_at v)) SizeAbove _ h kind.1 in
    let below = passes (ltb (size_at v) (length v - header_size)) SizeBelow _ h above.1 in
    let size = passes (not (size_allowed (minor_at v) (message_type_at v) (size_at v))) SizeOfType _ h below.1 in
    let fragment = passes (not (fragment_allowed (minor_at v) (message_type_at v) (more_at v))) NoFragments _ h size.1 in
    let eights = passes (not (eights_allowed (more_at v) (size_at v))) NotInEights _ h fragment.1 in
    let a : header_size ≤ length v = ltb-false (length v) header_size short.0 in
    let b : size_at v ≤ length v - header_size = ltb-false (length v - header_size) (size_at v) above.0 in
    let c : length v - header_size ≤ size_at v = ltb-false (size_at v) (length v - header_size) below.0 in
    record {
      says = accepted-same (header_of v) h eights.1;
      octets = omega arith;
      magic = eqb-true _ _ (not-false _ giop.0);
      version = not-false _ version.0;
      flags = not-false _ flags.0;
      kind = not-false _ kind.0;
      size = not-false _ size.0;
      fragment = not-false _ fragment.0;
      eights = not-false _ eights.0;
    }

pub frame-accepts : (v : List ℕ) (h : Header) → frame_of v ≡ Ok h → (length v ≤ message_limit) × Accepts v h
unfolding frame_of
frame-accepts v h e =
    let long = passes (ltb message_limit (length v)) TooLong _ h e in
    (ltb-false _ _ long.0, message-accepts v h long.1)
