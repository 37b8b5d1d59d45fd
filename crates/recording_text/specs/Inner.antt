-- What private functions promise each other; nothing that a caller is told rests on these names.
--   Memory         memory for a line's octets and for the message that they are joined to
--   Room           room for the longest answer, and that memory
--   Lists          a line's text put, and what the line leaves
use Rattle.std.specs.Prelude.{◌≡◌, ℕ, ◌+◌, ◌≤◌, List, length}
use Rattle.decimals.specs.Puts.{Put}
use Rattle.recording_text.specs.declared.line.Listed.{Listed}
use Rattle.recording_text.specs.Listing.{octets_most, message_most, LineEntry, entry_text, longest}

pub record Memory (octets message : List ℕ) : Type 0 where
  pub decoded : length octets ≡ octets_most
  pub joined : length message ≡ message_most

pub record Room (out : List ℕ) (at : ℕ) (octets message : List ℕ) : Type 0 where
  pub text : at + longest ≤ length out
  pub memory : Memory octets message

pub record Lists (e : LineEntry) (number : ℕ) (out : List ℕ) (at : ℕ) (r : Listed) (places_last out_last : List ℕ) : Type 0 where
  pub after : r.after ≡ e.after
  pub stored : places_last ≡ e.stored
  pub text : Put out at (entry_text number e) r.end out_last
