-- "Slips we have seen", as types whose answers the definitions give otherwise than the slips would.
--   crossed       a struct A that holds a sequence of a struct B, which is an indirection to A, and an indirection to B
--   uncrossed     the same without the second member
--   shifted       an alias of a union with labels of eight octets, in an encapsulation that starts at 36
--   turned        a union, big-endian, whose discriminant is an indirection into a little-endian sequence
--   around        a union with two equal labels, and between them an indirection that leads before its own encapsulation
--   slips         the table
--   slips-hold    the statement
use Rattle.std.specs.Prelude.{T, ◌∷◌, ◌++◌}
use Rattle.choices.specs.{ℕ, List, []}
use Rattle.cdr.specs.{Big}
use Rattle.samples.specs.Tables.{paper, Sample, sample, all_answered}
use Rattle.samples.specs.TypeQuestions.{TypeQuestion, type_answered, type_code}

abbrev crossed : List ℕ
crossed =
    paper 60 0x0000000F0000007000000000000000010000000000000001000000000000000200000001000000000000001300000038000000000000000F00000028
    ++ paper 60 0x0000000000000001000000000000000100000000000000010000000100000000FFFFFFFFFFFFFFA0000000000000000100000000FFFFFFFFFFFFFFC0

abbrev uncrossed : List ℕ
uncrossed =
    paper 60 0x0000000F0000006000000000000000010000000000000001000000000000000100000001000000000000001300000038000000000000000F00000028
    ++ paper 44 0x0000000000000001000000000000000100000000000000010000000100000000FFFFFFFFFFFFFFA000000000

abbrev shifted : List ℕ
shifted =
    paper 60 0x000000150000005000000000000000010000000000000001000000000000001000000034000000000000000100000000000000010000000000000017
    ++ paper 28 0xFFFFFFFF000000010000000000000005000000010000000000000003

abbrev turned : List ℕ
turned =
    paper 60 0x0000000F000000780000000000000001000000000000000100000000000000020000000100000000000000130000000C010000000300000000000000
    ++ paper 60 0x000000010000000000000010000000340000000000000001000000000000000100000000FFFFFFFFFFFFFFD0FFFFFFFF000000010000000700000001
    ++ paper 8 0x0000000000000003

abbrev around : List ℕ
around =
    paper 60 0x0000000F0000007800000000000000010000000000000001000000000000000200000001000000000000000300000001000000000000001000000044
    ++ paper 60 0x000000000000000100000000000000010000000000000003FFFFFFFF00000002000000010000000100000000FFFFFFFFFFFFFFBC0000000100000001
    ++ paper 8 0x0000000000000003

unfoldable pub slips : List (Sample TypeQuestion)
slips =
    -- "Struct A holds a sequence of struct B, B an indirection to A, A's second member one to B: 39": accepted where a sequence is sought "only
    -- between an indirection and its target"
    sample (type_code Big crossed) (39 ∷ 0 ∷ 0 ∷ [])
    -- without the second member there is no such loop: 39 where a sequence's element is a step
    ∷ sample (type_code Big uncrossed) (0 ∷ 104 ∷ 3 ∷ [])
    -- "Aligning from the start of the whole TypeCode": the label four octets later, and a name of length 0, 32, where it is done
    ∷ sample (type_code Big shifted) (0 ∷ 88 ∷ 4 ∷ [])
    -- "Reading an indirection's target in the byte order of the pointer": 03000000, which is no kind, where it is done
    ∷ sample (type_code Big turned) (0 ∷ 128 ∷ 5 ∷ [])
    -- equal labels are compared across the indirection between them: accepted where members are read again in the union's own octets alone,
    -- which it leads out of
    ∷ sample (type_code Big around) (35 ∷ 0 ∷ 0 ∷ [])
    ∷ []

pub slips-hold : T (all_answered type_answered slips)
unfolding type_answered slips
slips-hold = tt
