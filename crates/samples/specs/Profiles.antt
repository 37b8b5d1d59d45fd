-- Profile bodies whose parts and refusals are easily got wrong, with what 01 says of each.
--   ProfileQuestion     what is asked
--   profile_answered     what the definitions answer
--   orb                 a body that an ORB wrote: little-endian, 1.2, two components
--   gaps                a big-endian body of 1.2 with octets in its gaps, two components
--   plain               a big-endian body of 1.0: host `h`, port 1, key `k`
--   keyless             a big-endian body of 1.1 without host and key octets, and a component of one octet
--   profile_samples      the table
--   profiles-hold       the statement
use Rattle.std.specs.Prelude.{T, ◌∷◌, ◌++◌}
use Rattle.choices.specs.{ℕ, List, [], replicate}
use Rattle.version.specs.Versions.{has_components}
use Rattle.cdr_fields.specs.Extents.{extent_octets, string_at}
use Rattle.cdr_fields.specs.Tagged.{tagged_at, skip_tagged, tagged_behind}
use Rattle.profile_parts.specs.Parts.{order_part_at, minor_part_at, version_at, host_at, number_part_at, key_at, component_at}
use Rattle.profile.specs.List.{list_from, counted_list, list_at, component_from}
use Rattle.profile.specs.Profile.{profile_numbers, profile_of, component_numbers, component_then, component_of}
use Rattle.profile_octets.specs.Octets.{host_extent, key_extent, component_extent}
use Rattle.samples.specs.Tables.{paper, Sample, sample, all_answered}
use Rattle.samples.specs.Frames.{frame_answered}

-- `profile`: the octets of a profile body; the number, then order octet, major, minor, the index of the host's first octet and its length, port,
--   the index of the key's first octet and its length, components and extra
-- `component`: the octets of a profile body, and a number; the number, then tag, the index of the first of its octets, and their length
-- `host`, `key`, `octets_of_component`: the octets of a profile body; the octets of that part
pub data ProfileQuestion : Type 0 where
  profile : List ℕ → ProfileQuestion
  component : List ℕ → ℕ → ProfileQuestion
  host : List ℕ → ProfileQuestion
  key : List ℕ → ProfileQuestion
  octets_of_component : List ℕ → ℕ → ProfileQuestion

unfoldable pub profile_answered : ProfileQuestion → List ℕ
unfolding frame_answered extent_octets string_at tagged_at skip_tagged tagged_behind has_components order_part_at minor_part_at version_at host_at
    number_part_at key_at component_at list_from counted_list list_at component_from profile_of host_extent key_extent component_then component_of
    component_extent
profile_answered (profile v) = profile_numbers (profile_of v)
profile_answered (component v number) = component_numbers (component_of v number)
profile_answered (host v) = extent_octets v (host_extent v)
profile_answered (key v) = extent_octets v (key_extent v)
profile_answered (octets_of_component v number) = extent_octets v (component_extent v number)

abbrev orb : List ℕ
orb =
    paper 32 0x010102000D000000686F73742E6578616D706C650000D204030000006B657900
    ++ paper 56 0x0200000000000000080000000100000000545441010000001C00000001000000010001000100000001000105090101000100000009010100

abbrev gaps : List ℕ
gaps = paper 48 0x000102EE00000003616200EE1F90EEEE000000016BEEEEEE0000000200000007000000015AEEEEEE0000000900000000

abbrev pub plain : List ℕ
plain = paper 17 0x000100000000000268000001000000016B

abbrev keyless : List ℕ
keyless = paper 29 0x000101000000000100000001000000000000000100000007000000015A

unfoldable pub profile_samples : List (Sample ProfileQuestion)
profile_samples =
    -- the host without its zero, a gap before the port and the components' count: 13 where the zero counts, port 53760 where it is at 21
    sample (profile orb) (0 ∷ 1 ∷ 1 ∷ 2 ∷ 8 ∷ 12 ∷ 1234 ∷ 28 ∷ 3 ∷ 2 ∷ 0 ∷ [])
    -- a component's tag stands before its length: 28 and 1 where they are exchanged
    ∷ sample (component orb 1) (0 ∷ 1 ∷ 60 ∷ 28 ∷ [])
    -- "69 for a number not below their count": 60 where the octets behind the last are read
    ∷ sample (component orb 2) (69 ∷ 0 ∷ 0 ∷ 0 ∷ [])
    -- a gap before the key's count, and before a component's tag: 60 where EEEE is read as part of them
    ∷ sample (profile gaps) (0 ∷ 0 ∷ 1 ∷ 2 ∷ 8 ∷ 2 ∷ 8080 ∷ 20 ∷ 1 ∷ 2 ∷ 0 ∷ [])
    ∷ sample (component gaps 1) (0 ∷ 9 ∷ 48 ∷ 0 ∷ [])
    -- 1.0 ends with the key: 60 where a count of components is read
    ∷ sample (profile plain) (0 ∷ 0 ∷ 1 ∷ 0 ∷ 8 ∷ 1 ∷ 1 ∷ 16 ∷ 1 ∷ 0 ∷ 0 ∷ [])
    -- "64 octets after the key in 1.0", also where a component is asked for: 0 and extra octets, or 69, otherwise
    ∷ sample (profile (plain ++ (0 ∷ []))) (64 ∷ replicate 10 0)
    ∷ sample (component (plain ++ (0 ∷ [])) 0) (64 ∷ 0 ∷ 0 ∷ 0 ∷ [])
    -- a 1.0 body has no components: 60 where a count of them is read
    ∷ sample (component plain 0) (69 ∷ 0 ∷ 0 ∷ 0 ∷ [])
    -- from 1.1 on the octets after the components are extra, here three behind a gap and a count of no components: 64 where none may follow
    ∷ sample (profile (paper 27 0x000101000000000268000001000000016B000000000000000A0B0C)) (0 ∷ 0 ∷ 1 ∷ 1 ∷ 8 ∷ 1 ∷ 1 ∷ 16 ∷ 1 ∷ 0 ∷ 3 ∷ [])
    -- and a count that is not there is 60: 0 where 1.1 ends with the key
    ∷ sample (profile (paper 17 0x000101000000000268000001000000016B)) (60 ∷ replicate 10 0)
    -- "major tested before minor is read": 60 where both are read first
    ∷ sample (profile (paper 2 0x0002)) (62 ∷ replicate 10 0)
    ∷ sample (profile (paper 2 0x0001)) (60 ∷ replicate 10 0)
    ∷ sample (profile (paper 3 0x000103)) (62 ∷ replicate 10 0)
    -- "60 ends", "61 order octet above 1": 60, for what is missing behind it, where only the last bit is looked at
    ∷ sample (profile []) (60 ∷ replicate 10 0)
    ∷ sample (profile (paper 1 0x02)) (61 ∷ replicate 10 0)
    -- "63 host as 32": length 0, and an earlier zero; a host of its zero alone is empty, and 63 where an empty one is refused
    ∷ sample (profile (paper 8 0x0001000000000000)) (63 ∷ replicate 10 0)
    ∷ sample (profile (paper 10 0x00010000000000020000)) (63 ∷ replicate 10 0)
    ∷ sample (profile (paper 16 0x00010000000000010000000100000000)) (0 ∷ 0 ∷ 1 ∷ 0 ∷ 8 ∷ 0 ∷ 1 ∷ 16 ∷ 0 ∷ 0 ∷ 0 ∷ [])
    -- a refused body has no host: some octet where the refusal is not looked at
    ∷ sample (host (2 ∷ [])) []
    -- the key is the octets behind its count: 0 0 0 1 `k` where the count is part of it
    ∷ sample (key plain) (0x6B ∷ [])
    -- a component's octets are those behind its tag and count: 0 0 0 7 0 0 0 1 `Z` where these are part of them
    ∷ sample (octets_of_component keyless 0) (0x5A ∷ [])
    ∷ []

pub profiles-hold : T (all_answered profile_answered profile_samples)
unfolding profile_answered profile_samples
profiles-hold = tt
