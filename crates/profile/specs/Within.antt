-- What a body that was read tells, whatever its octets are.
--   ProfileWithin     its parts are among its octets, the host's zero too, and it is not too long
--   ComponentWithin   the component of a number is there, and its octets are among the body's
--   ReadsWithin       a body that was read has its parts within
--   FindsAll          in a body that was read each component whose number is below their count is there, so that 69 is the only refusal left
use Rattle.std.specs.Prelude.{◌≡◌, List, ℕ, ◌+◌, ◌≤◌, ◌<◌, length, Ok}
use Rattle.cdr.specs.Limit.{octets_limit}
use Rattle.cdr_fields.specs.declared.Extent.{Extent}
use Rattle.profile.specs.declared.Profile.{Profile}
use Rattle.profile.specs.Profile.{profile_of, component_of}

pub record ProfileWithin (v : List ℕ) (p : Profile) : Type 0 where
  pub limit : length v ≤ octets_limit
  pub host : p.host.from.0 + p.host.length + 1 ≤ length v
  pub key : p.key.from.0 + p.key.length ≤ length v

pub record ComponentWithin (v : List ℕ) (number : ℕ) : Type 0 where
  pub tag : ℕ
  pub octets : Extent
  pub answer : component_of v number ≡ Ok (tag, octets)
  pub within : octets.from.0 + octets.length ≤ length v

abbrev pub ReadsWithin : Type 0
ReadsWithin = (v : List ℕ) (p : Profile) → profile_of v ≡ Ok p → ProfileWithin v p

abbrev pub FindsAll : Type 0
FindsAll = (v : List ℕ) (p : Profile) → profile_of v ≡ Ok p → (number : ℕ) → number < p.components → ComponentWithin v number
