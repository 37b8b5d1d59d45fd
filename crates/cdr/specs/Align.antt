-- "Primitives of 2, 4 or 8 octets start at a multiple of their size, with the smallest gap, counted from the start of their own
-- encapsulation."
--   octets       the octets of a size
--   gap          the smallest gap before a multiple of n, at an index
--   aligned      the next multiple of n, the index itself included
--   behind_gap    where a number of n octets starts at or after `at`, in octets whose first has the index `start`
--   index_of      an index in an encapsulation
--   aligned_of    the next aligned index for a size, where a machine word can hold it
use Rattle.std.specs.Prelude.{ℕ, ◌+◌, ◌-◌, ◌%◌, ◌^◌, cond, ltb, Option, Some, None}
use Rattle.cdr.specs.declared.Size.{Size}
use Rattle.cdr.specs.declared.Size.TheVariants.{One, Two, Four, Eight}
use Rattle.cdr.specs.declared.Index.{Index}

abbrev pub octets : Size → ℕ
octets One = 1
octets Two = 2
octets Four = 4
octets Eight = 8

abbrev pub gap : ℕ → ℕ → ℕ
gap i n = (n - i % n) % n

abbrev pub aligned : ℕ → ℕ → ℕ
aligned i n = i + gap i n

abbrev pub behind_gap : Index → ℕ → ℕ → ℕ
behind_gap start at n = at + gap (start.0 + at) n

abbrev pub index_of : ℕ → Index
index_of i = record { 0 = i }

abbrev pub aligned_of : Index → Size → Option Index
aligned_of i size = cond (ltb (aligned i.0 (octets size)) (2 ^ 64)) (Some (index_of (aligned i.0 (octets size)))) None
