-- What the C interface leaves in the numbers that it is lent: they are filled by a body that is read or a component that is there, and kept by
-- a refusal.
--   row_after          the ten numbers of a body that was read
--   found_after        the three numbers of a component
--   ReadsProfileC     what a call of each function ensures, the number that it returns and all that was lent after it: of a body,
--   FindsComponentC   and of a component
use Rattle.std.specs.Prelude.{◌≡◌, List, ℕ, Result, Ok, Err}
use Rattle.profile.specs.Profile.{profile_number, profile_row, profile_of, component_number, component_row, component_of}
use Rattle.cdr_fields.specs.declared.Extent.{Extent}
use Rattle.profile.specs.declared.Profile.{Profile}
use Rattle.profile_parts.specs.declared.Refusal.{Refusal}

abbrev pub row_after : Result Profile Refusal → List ℕ → List ℕ
row_after (Ok p) before = profile_row p
row_after (Err r) before = before

abbrev pub found_after : Result (ℕ × Extent) Refusal → List ℕ → List ℕ
found_after (Ok (tag, octets)) before = component_row tag octets
found_after (Err r) before = before

pub record ReadsProfileC (v before : List ℕ) (r : ℕ) (after : List ℕ) : Type 0 where
  pub answer : r ≡ profile_number (profile_of v)
  pub row : after ≡ row_after (profile_of v) before

pub record FindsComponentC (v : List ℕ) (number : ℕ) (before : List ℕ) (r : ℕ) (after : List ℕ) : Type 0 where
  pub answer : r ≡ component_number (component_of v number)
  pub found : after ≡ found_after (component_of v number) before
