-- Kinds, their parameters, the list of kinds met, labels and members: inputs that a wrong program would answer otherwise.
--   one             a list with one kind, little-endian, at place 8 in an encapsulation that starts at 4
--   top             a list with the kind at place 0
--   labelled        the octets of one member: its label, an empty name, a long
--   members_in       so many members that are listed at the first octet, with labels of four octets
--   headed          the octets of an encapsulation with an empty id, an empty name, and a count
--   type_samples     the table
--   types-hold      the statement
use Rattle.std.specs.Prelude.{T, ◌+◌, ◌^◌, ◌∷◌, ◌++◌}
use Rattle.choices.specs.{ℕ, List, []}
use Rattle.cdr.specs.{Big, Little, One, Four, Eight, index_of}
use Rattle.type_kinds.specs.{Plain, Of, Here, There, Member, members_of, place_of, written_at}
use Rattle.type_parameters.specs.Parameters.{member_fields}
use Rattle.type_list.specs.declared.Met.{Met}
use Rattle.type_list.specs.Arrays.{kinds_met, no_kinds, added}
use Rattle.type_unions.specs.Arms.{no_default}
use Rattle.samples.specs.Tables.{paper, Sample, sample, all_answered}
use Rattle.samples.specs.TypeQuestions.{TypeQuestion, type_answered, field_there, type_there, member_there, form_of_kind, target_from, parameters}
use Rattle.samples.specs.TypeQuestions.{noted, position, parameters_no, inside, labels_of, over_limit, case_with, chosen, entry, text, bound, count}
use Rattle.samples.specs.TypeQuestions.{array_length, encapsulation, union_switch, names, struct_head, exception_head, enum_body, label, earlier}

abbrev pub one : Met
one = added no_kinds (place_of 8) (place_of 4) Little

abbrev pub top : Met
top = added no_kinds (place_of 0) (place_of 0) Big

abbrev pub labelled : ℕ → List ℕ
labelled x = paper 4 x ++ paper 12 0x000000010000000000000003

abbrev pub members_in : List ℕ → ℕ → List Member
members_in v n = members_of (Of Four 0) v (member_fields (place_of 0) Big n (index_of 0))

abbrev pub headed : ℕ → List ℕ
headed n = paper 24 (0x000000000000000100000000000000010000000000000000 + n)

unfoldable pub type_samples : List (Sample TypeQuestion)
type_samples =
    -- kind 21 is an alias: 22 or 20 where kinds are counted from another one
    sample (form_of_kind 21) (3 ∷ 21 ∷ [])
    -- kind 11 is not listed: 1 where all kinds up to 13 are plain
    ∷ sample (form_of_kind 11) (0 ∷ [])
    -- a number of eight octets is aligned in its own encapsulation, here at octet 4: 0 where it is aligned in the whole, which ends there
    ∷ sample (field_there (paper 12 7) 4 0 Big Eight) (1 ∷ 7 ∷ 8 ∷ [])
    -- the index after a number is counted in its own encapsulation: 8 where it is counted in the whole
    ∷ sample (field_there (paper 8 0x0000000500000007) 4 0 Big Four) (1 ∷ 7 ∷ 4 ∷ [])
    -- an offset of 2^31 is negative: 2^32 where it is not
    ∷ sample (target_from (2 ^ 31) (2 ^ 31)) (1 ∷ 0 ∷ [])
    -- a target before the first octet is none: some place where numbers wrap around
    ∷ sample (target_from 3 0xFFFFFFFC) (0 ∷ [])
    -- an indirection counts as its target, and what follows it is after its offset: place 4, or index 8, otherwise
    ∷ sample (type_there (paper 12 0x00000003FFFFFFFFFFFFFFF8) 0 4 Big) (1 ∷ 12 ∷ 0 ∷ 0 ∷ [])
    -- a member's name is after its label: index 12 and place 8 where the label is taken for the name's length
    ∷ sample (member_there (labelled 1) 0 0 Big (Of Four 0)) (1 ∷ 16 ∷ 1 ∷ 12 ∷ 0 ∷ 0 ∷ [])
    -- a label of eight octets is passed over whole: index 16 and place 12 where four of them are
    ∷ sample (member_there (paper 20 0x0000000000000001000000010000000000000003) 0 0 Big (Of Eight 0)) (1 ∷ 20 ∷ 1 ∷ 16 ∷ 0 ∷ 0 ∷ [])
    -- a kind's parameters are in the order of its own encapsulation, and so is the type inside: 0 where the surroundings' order is taken
    ∷ sample (parameters (paper 20 0x000000130000000C010000000300000005000000) (written_at (place_of 0) (place_of 0) Big)) (19 ∷ 5 ∷ 1 ∷ 12 ∷ 8 ∷ 1 ∷ [])
    -- a kind is read at its place: 3 where it is read at the start of its encapsulation
    ∷ sample (parameters (paper 8 0x0000000300000005) (written_at (place_of 4) (place_of 0) Big)) (1 ∷ 5 ∷ [])
    -- at first no kind is met, and every order is big: 1 where the top is noted at once
    ∷ sample (noted no_kinds 63) (0 ∷ 0 ∷ 0 ∷ 0 ∷ [])
    -- a kind is noted with the start and the order of its encapsulation: 8 twice, or order 0, where the place or the first order is noted
    ∷ sample (noted one 0) (1 ∷ 8 ∷ 4 ∷ 1 ∷ [])
    -- the first kind is found by its place: 0 where position 0 is taken for none
    ∷ sample (position (kinds_met one) 8) (1 ∷ 0 ∷ [])
    -- an entry beyond the count is no kind: position 1 where the zeros behind it are looked at
    ∷ sample (position (kinds_met one) 0) (0 ∷ [])
    -- the kind at a position is the one that is read: 3 where it is the first
    ∷ sample (parameters_no (paper 8 0x0000000300000005) (kinds_met (added top (place_of 4) (place_of 0) Big)) 1) (1 ∷ 5 ∷ [])
    -- a kind that is written there has its parameters by its own octets: 0 where it must have been met
    ∷ sample (inside (paper 8 0x0000000300000005) (kinds_met no_kinds) (Here (written_at (place_of 4) (place_of 0) Big))) (1 ∷ 5 ∷ [])
    -- an indirection to a place where no kind was met has no parameters: 1 and 5 where the octets there are read
    ∷ sample (inside (paper 8 0x0000000300000005) (kinds_met top) (There (place_of 4))) (0 ∷ [])
    -- nor has one where nothing was met at all: 1 and 3 where place 0 is always met
    ∷ sample (inside (paper 4 3) (kinds_met no_kinds) (There (place_of 0))) (0 ∷ [])
    -- a boolean's labels have one octet and are below 2: limit 0 where any octet counts
    ∷ sample (labels_of (paper 4 8) (kinds_met top) 0) (1 ∷ 1 ∷ 2 ∷ [])
    -- a label that is its limit is out of its kind: 0 where it is compared by `above`
    ∷ sample (over_limit 2 2) (1 ∷ [])
    -- and 0 is no limit: 1 where every label is compared with it
    ∷ sample (over_limit 0 7) (0 ∷ [])
    -- a smaller label is another: the member where labels are compared by `at most`
    ∷ sample (case_with (members_in (labelled 5) 1) 6) (0 ∷ [])
    -- a label whose octets end is none: a member where missing octets are read as 0
    ∷ sample (case_with (members_in [] 1) 0) (0 ∷ [])
    -- of no members none has a label: the member where one is looked at before the count
    ∷ sample (case_with (members_in (labelled 5) 0) 5) (0 ∷ [])
    -- the last member's label is looked at: 0 where the count is one short
    ∷ sample (case_with (members_in (labelled 5) 1) 5) (1 ∷ 1 ∷ 12 ∷ 0 ∷ 0 ∷ [])
    -- of two members with one label the first has it: place 28 where the last one wins
    ∷ sample (case_with (members_in (labelled 5 ++ labelled 5) 2) 5) (1 ∷ 1 ∷ 12 ∷ 0 ∷ 0 ∷ [])
    -- a label chooses its member before the default does: place 12 otherwise
    ∷ sample (chosen (members_in (labelled 5 ++ labelled 6) 2) 0 6) (1 ∷ 1 ∷ 28 ∷ 0 ∷ 0 ∷ [])
    -- the default is the member of its number, counted from 0: place 12 where it is counted from 1
    ∷ sample (chosen (members_in (labelled 5 ++ labelled 6) 2) 1 7) (1 ∷ 1 ∷ 28 ∷ 0 ∷ 0 ∷ [])
    -- a default of -1 is none: a member where the last one is meant by it
    ∷ sample (chosen (members_in (labelled 5) 1) no_default 7) (0 ∷ [])
    -- "at one kind the order is 31, 40, 38, 37": 38 where depth comes before the top
    ∷ sample (entry Plain 0 0 0) (40 ∷ [])
    -- and 37 where the count of kinds comes before depth
    ∷ sample (entry Plain 3 0 64) (38 ∷ [])
    -- a text of length 0 is 32: 0 where it is an empty one
    ∷ sample (text (paper 4 0) 0 Big) (32 ∷ [])
    -- what follows a text is after its final zero: 4 where that is not counted
    ∷ sample (text (paper 5 0x0000000100) 0 Big) (0 ∷ 5 ∷ [])
    -- what follows the names is after both id and name: 9 where one is read
    ∷ sample (names (headed 0) Big) (0 ∷ 17 ∷ [])
    -- a struct's count is not 0: 0 where a struct may be empty
    ∷ sample (struct_head (headed 0) Big) (34 ∷ [])
    -- an exception's may be: 34 where it is judged as a struct's
    ∷ sample (exception_head (headed 0) Big) (0 ∷ 0 ∷ 24 ∷ [])
    -- an enum's names are read after their count: 0 and 24 where they are not
    ∷ sample (enum_body (headed 1) Big) (30 ∷ [])
    -- a bound may be 0: 34 where it is judged as a count
    ∷ sample (bound (paper 4 0) 0 Big) (0 ∷ 4 ∷ [])
    -- an array's length is not 0: 0 and 4 where it is judged as a bound
    ∷ sample (array_length (paper 4 0) 0 Big) (34 ∷ [])
    -- what follows a length is after it: 9 where so many octets are passed over too
    ∷ sample (array_length (paper 4 5) 0 Big) (0 ∷ 4 ∷ [])
    -- a count of 0 is 34: 0 where any number of members is accepted
    ∷ sample (count (paper 4 0) 0 Big) (34 ∷ [])
    -- and one whose octets end is 30: 34 where missing octets are read as 0
    ∷ sample (count [] 0 Big) (30 ∷ [])
    -- an order octet of 2 is 33: big-endian where only its last bit is looked at
    ∷ sample (encapsulation (paper 5 0x0000000102) 0 Big) (33 ∷ [])
    -- an encapsulation that ends beyond its surroundings is 33: 30 where it counts as missing octets
    ∷ sample (encapsulation (paper 6 0x000000030000) 0 Big) (33 ∷ [])
    -- a default of -2 is 35: 0 where every negative one is none
    ∷ sample (union_switch (paper 8 0xFFFFFFFE00000001) 0 Big) (35 ∷ [])
    -- a default that is the count is 35: 0 where it is counted from 1
    ∷ sample (union_switch (paper 8 0x0000000100000001) 0 Big) (35 ∷ [])
    -- a boolean's label of 2 is 35: 0 where any octet counts
    ∷ sample (label (Of One 2) [] (2 ∷ []) 0 Big 0 0 0) (35 ∷ [])
    -- the label of a member is that of the one before it: 0 where no member before it is read again
    ∷ sample (earlier (Of Four 0) (labelled 5 ++ labelled 5) 0 Big 1 0 5) (1 ∷ [])
    -- a label is not compared with itself: 1 where it is, and every union is 35
    ∷ sample (earlier (Of Four 0) (labelled 5 ++ labelled 5) 0 Big 0 0 5) (0 ∷ [])
    -- two equal labels are 35: 0 and 20 where they are not compared
    ∷ sample (label (Of Four 0) (labelled 5 ++ labelled 5) (labelled 5 ++ labelled 5) 0 Big 1 0 16) (35 ∷ [])
    ∷ []

pub types-hold : T (all_answered type_answered type_samples)
unfolding type_answered type_samples
types-hold = tt
