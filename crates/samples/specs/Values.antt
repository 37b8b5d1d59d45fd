-- Values and items whose visits, choices and refusals are easily got wrong, with what 01 says of each.
--   room            a table with room for three items and a number more
--   long_alias       an alias of a long
--   bool_union       a union of a boolean: label 0 a long, label 1 an octet, which is the default too
--   char_union       a union of a char: label 61 a long, and no default
--   bare_exception   an exception without members
--   one_profile      the octets of a reference with one profile of one octet
--   pair            a plan of two octets
--   midway          a reader at octet 4, with two visits begun and one item finished
--   lone            the octets of one member that is an octet: an empty name, its kind
--   lone_type        the type that they are in, where the member was met
--   lone_members     the types of so many members that are listed there
--   value_samples    the table; what a visit reads that enters nothing is the same in every type
--   values-hold     the statement
use Rattle.std.specs.Prelude.{T, ◌∷◌, ◌++◌}
use Rattle.choices.specs.{ℕ, List, [], replicate}
use Rattle.cdr.specs.{Big, index_of}
use Rattle.type_kinds.specs.{Inner, NoLabels, Leaf, Text, Objref, Enum, members_of, types_of, place_of}
use Rattle.type_parameters.specs.Parameters.{member_fields}
use Rattle.type_unions.specs.{flat}
use Rattle.type_list.specs.Arrays.{kinds_met, no_kinds, added}
use Rattle.value_meaning.specs.Visit.{Checked, checked}
use Rattle.value_cursor.specs.declared.Cursor.{Cursor}
use Rattle.value_plans.specs.declared.Plan.{Plan}
use Rattle.samples.specs.Tables.{paper, Sample, sample, all_answered}
use Rattle.samples.specs.ValueQuestions.{ValueQuestion, value_answered, value, item_asked, type_judged, size_of_kind, started, refused, visited, inert_visit}
use Rattle.samples.specs.ValueQuestions.{counted, leaves, shaped, planned, plan}

abbrev pub room : List ℕ
room = replicate 10 9

abbrev long_alias : List ℕ
long_alias = paper 32 0x0000001500000018000000000000000100000000000000010000000000000003

abbrev pub bool_union : List ℕ
bool_union =
    paper 36 0x000000100000004000000000000000010000000000000001000000000000000800000001
    ++ paper 36 0x00000002000000000000000100000000000000030100000000000001000000000000000A

abbrev char_union : List ℕ
char_union = paper 56 0x0000001000000030000000000000000100000000000000010000000000000009FFFFFFFF0000000161000000000000010000000000000003

abbrev pub bare_exception : List ℕ
bare_exception = paper 32 0x0000001600000018000000000000000100000000000000010000000000000000

abbrev one_profile : List ℕ
one_profile = paper 21 0x00000001000000000000000100000000000000015A

abbrev pair : Plan
pair = record { kinds = 10 ∷ 10 ∷ replicate 14 0; count = 2 }

abbrev midway : Cursor
midway = record { at = 4; visits = 2; items = 1; fault = 0; last = 7 }

abbrev lone : List ℕ
lone = paper 12 0x00000001000000000000000A

abbrev lone_type : Checked
lone_type = checked lone (kinds_met (added no_kinds (place_of 8) (place_of 0) Big))

abbrev lone_members : ℕ → List Inner
lone_members n = types_of (members_of NoLabels lone (member_fields (place_of 0) Big n (index_of 0)))

unfoldable pub value_samples : Checked → List (Sample ValueQuestion)
value_samples t =
    -- an alias is a visit, and its target another: 1 visit where it is looked through
    sample (value room long_alias (paper 4 5)) (0 ∷ 4 ∷ 1 ∷ 2 ∷ 3 ∷ 0 ∷ 5 ∷ replicate 7 9)
    -- a discriminant is a visit; a label that matches is taken before the default, whatever the gap holds: an octet where it is not
    ∷ sample (value room bool_union (paper 8 0x00AABBCC00000007)) (0 ∷ 8 ∷ 2 ∷ 3 ∷ 8 ∷ 0 ∷ 0 ∷ 3 ∷ 4 ∷ 7 ∷ replicate 4 9)
    ∷ sample (value room bool_union (paper 2 0x01FE)) (0 ∷ 2 ∷ 2 ∷ 3 ∷ 8 ∷ 0 ∷ 1 ∷ 10 ∷ 1 ∷ 0xFE ∷ replicate 4 9)
    -- no label, no default: the discriminant alone, and 50 where some member is always read
    ∷ sample (value room char_union (paper 1 0x62)) (0 ∷ 1 ∷ 1 ∷ 2 ∷ 9 ∷ 0 ∷ 0x62 ∷ replicate 7 9)
    -- an exception's id is an item and no visit: 2 visits where it is read as a member
    ∷ sample (value room bare_exception (paper 6 0x000000024100)) (0 ∷ 6 ∷ 1 ∷ 1 ∷ 18 ∷ 4 ∷ 1 ∷ replicate 7 9)
    -- a boolean of 2 is 51 where there is no room, and one of 1 is 56: 56 twice where room is looked at first
    ∷ sample (value [] (paper 4 8) (paper 1 2)) (51 ∷ 0 ∷ 0 ∷ 1 ∷ [])
    ∷ sample (value [] (paper 4 8) (paper 1 1)) (56 ∷ 0 ∷ 0 ∷ 1 ∷ [])
    -- a short is sign-extended: FFFE where it is not
    ∷ sample (value room (paper 4 2) (paper 2 0xFFFE)) (0 ∷ 2 ∷ 1 ∷ 1 ∷ 2 ∷ 0 ∷ 0xFFFFFFFFFFFFFFFE ∷ replicate 7 9)
    -- 42 for over 16,384 value octets comes before the type's refusal: 30, for no type octets, otherwise
    ∷ sample (type_judged [] Big 16385) (42 ∷ [])
    -- "numbers start at 0"; long and short are signed, and -1 has all its 64 bits set: case 1 where they are not
    ∷ sample (item_asked 0 (paper 4 3) (paper 4 0xFFFFFFFE)) (0 ∷ 0 ∷ 0xFFFFFFFFFFFFFFFE ∷ [])
    ∷ sample (item_asked 0 (paper 4 2) (paper 2 0xFFFF)) (0 ∷ 0 ∷ 0xFFFFFFFFFFFFFFFF ∷ [])
    -- "one not below the item count is 49": 0 where items are counted from 1
    ∷ sample (item_asked 1 (paper 4 3) (paper 4 0xFFFFFFFE)) (49 ∷ [])
    -- "the floats with exactly the recorded bits", a NaN's too: 7FE00001 where it is made quiet
    ∷ sample (item_asked 0 (paper 4 6) (paper 4 0x7FA00001)) (0 ∷ 2 ∷ 0x7FA00001 ∷ [])
    ∷ sample (item_asked 0 (paper 4 7) (paper 8 0xFFF0000000000001)) (0 ∷ 3 ∷ 0xFFF0000000000001 ∷ [])
    -- ulonglong and octet are unsigned: case 0 where all numbers are signed
    ∷ sample (item_asked 0 (paper 4 24) (paper 8 0xFFF0000000000001)) (0 ∷ 1 ∷ 0xFFF0000000000001 ∷ [])
    ∷ sample (item_asked 0 (paper 4 10) (paper 1 0xFF)) (0 ∷ 1 ∷ 0xFF ∷ [])
    -- 49 comes after the value's refusals: 49 where the number is looked at first
    ∷ sample (item_asked 7 (paper 4 8) (paper 1 2)) (51 ∷ [])
    -- a long long has eight octets, a char one: 4 where the first is read as a long, 2 where the second is a wide character
    ∷ sample (size_of_kind 23) (8 ∷ [])
    ∷ sample (size_of_kind 9) (1 ∷ [])
    -- reading starts at the first octet, with no visit begun: 1 visit where the top is counted at once
    ∷ sample (started []) (0 ∷ 0 ∷ 0 ∷ 0 ∷ 0 ∷ [])
    -- a refusal changes its number alone: 0 visits where they are given for accepted values only
    ∷ sample (refused 51 midway []) (4 ∷ 51 ∷ 7 ∷ 2 ∷ 1 ∷ [])
    -- a visit that begins changes the visits alone: 2 of them where the visit is counted when it ends
    ∷ sample (visited midway []) (4 ∷ 0 ∷ 7 ∷ 3 ∷ 1 ∷ [])
    -- a boolean of 2 is 51, and no item: 1 item where the table is filled first
    ∷ sample (inert_visit (Leaf 8) (2 ∷ []) (replicate 3 9)) (1 ∷ 51 ∷ 2 ∷ 0 ∷ 0 ∷ replicate 3 9)
    -- a short's content is sign-extended: FFFF where it is not
    ∷ sample (inert_visit (Leaf 2) (255 ∷ 255 ∷ []) (replicate 3 9)) (2 ∷ 0 ∷ 0xFFFF ∷ 0 ∷ 1 ∷ 2 ∷ 0 ∷ 0xFFFFFFFFFFFFFFFF ∷ [])
    -- an enum's item has the kind 17: 5 where it counts as the unsigned long that it is read as
    ∷ sample (inert_visit (Enum 3) (paper 4 2) (replicate 3 9)) (4 ∷ 0 ∷ 2 ∷ 0 ∷ 1 ∷ 17 ∷ 0 ∷ 2 ∷ [])
    -- an enum that is the number of its names is 52: 0 where the names are counted from 1
    ∷ sample (inert_visit (Enum 2) (paper 4 2) (replicate 3 9)) (4 ∷ 52 ∷ 2 ∷ 0 ∷ 0 ∷ replicate 3 9)
    -- a text's item has the place of its first character, and its length without the zero: 0 and 2 where the length's place is given
    ∷ sample (inert_visit (Text 0) (paper 6 0x000000024100) (replicate 3 9)) (6 ∷ 0 ∷ 2 ∷ 0 ∷ 1 ∷ 18 ∷ 4 ∷ 1 ∷ [])
    -- the number of an empty reference's profiles is an item: 1 item where only profiles are
    ∷ sample (inert_visit Objref (paper 12 0x000000010000000000000000) (replicate 6 9)) (12 ∷ 0 ∷ 0 ∷ 0 ∷ 2 ∷ 18 ∷ 4 ∷ 0 ∷ 19 ∷ 8 ∷ 0 ∷ [])
    -- a run is given at its first octet, and its length is no item: 16 where it is given at its length
    ∷ sample (inert_visit Objref one_profile (replicate 12 9)) (21 ∷ 0 ∷ 1 ∷ 0 ∷ 4 ∷ 18 ∷ 4 ∷ 0 ∷ 19 ∷ 8 ∷ 1 ∷ 5 ∷ 12 ∷ 0 ∷ 256 ∷ 20 ∷ 1 ∷ [])
    -- a count of 2 is over its bound of 1, and a bound of 0 is none: 54 where 2 is compared with 0
    ∷ sample (counted 1 (paper 4 2) (replicate 3 9)) (4 ∷ 54 ∷ 2 ∷ 0 ∷ 0 ∷ replicate 3 9)
    ∷ sample (counted 0 (paper 4 2) (replicate 3 9)) (4 ∷ 0 ∷ 2 ∷ 0 ∷ 1 ∷ 19 ∷ 0 ∷ 2 ∷ [])
    -- four octets are four visits and four items, each with its place and content: 1 visit where a run of them is one
    ∷ sample (leaves 10 4 (paper 4 0x06070809) (replicate 12 0)) (4 ∷ 0 ∷ 9 ∷ 4 ∷ 4 ∷ 10 ∷ 0 ∷ 6 ∷ 10 ∷ 1 ∷ 7 ∷ 10 ∷ 2 ∷ 8 ∷ 10 ∷ 3 ∷ 9 ∷ [])
    -- a visit that enters nothing counts as one, and needs a level: 0 visits, or no 55, where only visits that enter do
    ∷ sample (shaped t 1 (flat (Leaf 10)) (7 ∷ []) (replicate 3 9)) (1 ∷ 0 ∷ 7 ∷ 1 ∷ 1 ∷ 10 ∷ 0 ∷ 7 ∷ [])
    ∷ sample (shaped t 0 (flat (Leaf 10)) (7 ∷ []) (replicate 3 9)) (0 ∷ 55 ∷ 0 ∷ 0 ∷ 0 ∷ replicate 3 9)
    -- a struct of an octet has a plan where two levels are left,
    ∷ sample (plan lone_type 2 1 (lone_members 1)) (1 ∷ 1 ∷ 10 ∷ replicate 15 0)
    -- and none where one is left, so that its member is refused: a plan would read it
    ∷ sample (plan lone_type 1 1 (lone_members 1)) (0 ∷ 0 ∷ replicate 16 0)
    -- or where fewer members are there than it counts: a plan with a 0 behind the first where they are not
    ∷ sample (plan lone_type 2 2 (lone_members 2)) (0 ∷ 0 ∷ replicate 16 0)
    -- a struct that has a plan is a visit, as each of its members is: 2 visits where only the members are
    ∷ sample (planned pair 1 (6 ∷ 7 ∷ []) (replicate 6 9)) (2 ∷ 0 ∷ 7 ∷ 3 ∷ 2 ∷ 10 ∷ 0 ∷ 6 ∷ 10 ∷ 1 ∷ 7 ∷ [])
    ∷ []

pub values-hold : (t : Checked) → T (all_answered value_answered (value_samples t))
unfolding value_answered value_samples
values-hold t = tt
