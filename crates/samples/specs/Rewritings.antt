-- Values whose gaps, texts and refusals are easily got wrong when they are rewritten, with what 01 says of each.
--   RewriteQuestion      what is asked
--   rewrite_answered      what the definitions answer
--   to_big, to_little      a target of that order from an index on
--   unnamed              the target where no order is named
--   objref               a reference to an object, and
--   three_octets          its value with one profile of three octets, and with octets in a gap
--   abc                  the value `ABC` of an exception's id
--   rewrite_samples       the table
--   rewritings-hold      the statement
use Rattle.std.specs.Prelude.{T, ◌∷◌, ◌++◌}
use Rattle.choices.specs.{ℕ, List, [], length, replicate}
use Rattle.cdr.specs.{Big, Little, index_of}
use Rattle.value_meaning.specs.{Source, source}
use Rattle.rewrite_meaning.specs.Written.{Target, target, unnamed_order, wrote, writes}
use Rattle.rewrite_meaning.specs.Rewriting.{rewrite_numbers, rewrite_of, rewrite_answer, output_after}
use Rattle.samples.specs.Tables.{paper, Sample, sample, all_answered}
use Rattle.samples.specs.ValueQuestions.{from_start, value_answered}
use Rattle.samples.specs.Values.{bool_union, bare_exception}

-- `rewrite`: a lent output, the chosen order and index, the octets of a TypeCode, big-endian, and a value; the number, then octets written,
--   and all that the output then holds
pub data RewriteQuestion : Type 0 where
  rewrite : List ℕ → Target → List ℕ → Source → RewriteQuestion

unfoldable pub rewrite_answered : RewriteQuestion → List ℕ
unfolding value_answered wrote writes rewrite_of rewrite_answer output_after
rewrite_answered (rewrite out to v x) = rewrite_numbers (rewrite_answer v Big x to (length out)) ++ output_after v Big x to out

abbrev to_big : ℕ → Target
to_big i = target Big (index_of i)

abbrev pub to_little : ℕ → Target
to_little i = target Little (index_of i)

abbrev unnamed : Target
unnamed = target unnamed_order (index_of 0)

abbrev objref : List ℕ
objref = paper 25 0x0000000E000000110000000000000001000000000000000100

abbrev three_octets : Source
three_octets = from_start (paper 23 0x0000000100EEEEEE0000000100000007000000030A0B0C)

abbrev abc : Source
abc = from_start (paper 8 0x0000000441424300)

unfoldable pub rewrite_samples : List (Sample RewriteQuestion)
rewrite_samples =
    -- a gap is all zero, whatever was found in it: AABBCC where it is copied
    sample (rewrite (replicate 9 9) (to_big 0) bool_union (from_start (paper 8 0x00AABBCC00000007))) (0 ∷ 8 ∷ (paper 8 7 ++ (9 ∷ [])))
    -- and the smallest one, counted from the chosen index: 3 zeros where it is counted from 0
    ∷ sample (rewrite (replicate 9 9) (to_big 3) bool_union (from_start (paper 8 0x00AABBCC00000007))) (0 ∷ 5 ∷ (paper 5 7 ++ replicate 4 9))
    -- a gap before the first primitive belongs to the result, and is no part of the value that it is read from: 4 octets, or 6, otherwise
    ∷ sample (rewrite (replicate 9 9) (to_little 6) (paper 4 5) (from_start (paper 4 5))) (0 ∷ 6 ∷ (paper 6 0x000005000000 ++ replicate 3 9))
    ∷ sample (rewrite (replicate 5 9) (to_big 4) (paper 4 5) (source (paper 6 0xFFFF05000000) Little (index_of 6))) (0 ∷ 4 ∷ (paper 4 5 ++ (9 ∷ [])))
    -- a text keeps its zero, and its octets their order: 00434241 where they are turned
    ∷ sample (rewrite (replicate 9 9) (to_little 0) bare_exception abc) (0 ∷ 8 ∷ (paper 8 0x0400000041424300 ++ (9 ∷ [])))
    -- so do the octets of a profile, whose length is a number: 0C0B0A where they are turned, 00000003 where it is not
    ∷ sample (rewrite (replicate 24 9) (to_little 0) objref three_octets) (0 ∷ 23 ∷ (paper 23 0x01000000000000000100000007000000030000000A0B0C ++ (9 ∷ [])))
    -- 57 where the output is an octet short, and the output is as it was: seven octets of the result where it is written as far as it goes
    ∷ sample (rewrite (replicate 7 9) (to_little 0) bare_exception abc) (57 ∷ 0 ∷ replicate 7 9)
    -- a value's refusal comes before it: 57 where the room is looked at first
    ∷ sample (rewrite [] (to_little 0) bare_exception (from_start (paper 8 0x0000000441004300))) (53 ∷ 0 ∷ [])
    -- a value without octets needs no output: 57 where an empty one is always too short
    ∷ sample (rewrite [] (to_little 5) (paper 4 0) (from_start [])) (0 ∷ 0 ∷ [])
    -- "big-endian if none is named", also where the value is little-endian: 1 0 where the value's own order is kept
    ∷ sample (rewrite (replicate 5 9) unnamed (paper 4 3) (from_start (paper 4 0xFFFFFFFE))) (0 ∷ 4 ∷ (paper 4 0xFFFFFFFE ++ (9 ∷ [])))
    ∷ sample (rewrite (replicate 3 9) unnamed (paper 4 4) (source (1 ∷ 0 ∷ []) Little (index_of 0))) (0 ∷ 2 ∷ 0 ∷ 1 ∷ 9 ∷ [])
    ∷ []

pub rewritings-hold : T (all_answered rewrite_answered rewrite_samples)
unfolding rewrite_answered rewrite_samples
rewritings-hold = tt
