-- The samples of paper 01 that are marked P, as one table under one statement.
--   PaperQuestion     what a sample of the paper asks: of a frame, a type, a value, or a value rewritten
--   paper_answered     what the definitions answer
--   longs             the paper's type T, a sequence of long
--   longs_value        the paper's value of it
--   paper_samples      the table: what the paper gives, and what follows from it
--   samples-hold      the statement
use Rattle.std.specs.Prelude.{T, ◌∷◌, ◌++◌}
use Rattle.choices.specs.{ℕ, List, [], replicate}
use Rattle.cdr.specs.{Big}
use Rattle.samples.specs.Tables.{paper, Sample, sample, all_answered}
use Rattle.samples.specs.Frames.{FrameQuestion, frame_answered, frame}
use Rattle.samples.specs.TypeQuestions.{TypeQuestion, type_answered, type_code}
use Rattle.samples.specs.ValueQuestions.{ValueQuestion, value_answered, value, from_start}
use Rattle.samples.specs.Values.{room}
use Rattle.samples.specs.Rewritings.{RewriteQuestion, rewrite_answered, rewrite, to_little}

pub data PaperQuestion : Type 0 where
  of_frame : FrameQuestion → PaperQuestion
  of_type : TypeQuestion → PaperQuestion
  of_value : ValueQuestion → PaperQuestion
  of_rewriting : RewriteQuestion → PaperQuestion

unfoldable pub paper_answered : PaperQuestion → List ℕ
unfolding frame_answered type_answered value_answered rewrite_answered
paper_answered (of_frame question) = frame_answered question
paper_answered (of_type question) = type_answered question
paper_answered (of_value question) = value_answered question
paper_answered (of_rewriting question) = rewrite_answered question

abbrev longs : List ℕ
longs = paper 20 0x000000130000000C000000000000000300000000

abbrev longs_value : List ℕ
longs_value = paper 12 0x0000000200000001FFFFFFFF

unfoldable pub paper_samples : List (Sample PaperQuestion)
paper_samples =
    -- "type 5, size 0"; minor 0, big-endian, no more flag and no request id are as the octets say
    sample (of_frame (frame (paper 12 0x47494F500100000500000000))) (0 ∷ 0 ∷ 0 ∷ 0 ∷ 5 ∷ 0 ∷ 0 ∷ 0 ∷ [])
    -- "type T: used 20, k 2"
    ∷ sample (of_type (type_code Big longs)) (0 ∷ 20 ∷ 2 ∷ [])
    -- "36"
    ∷ sample (of_type (type_code Big (paper 24 0x000000130000001000000000FFFFFFFFFFFFFFF000000000))) (36 ∷ 0 ∷ 0 ∷ [])
    -- "empty type: 30"
    ∷ sample (of_type (type_code Big [])) (30 ∷ 0 ∷ 0 ∷ [])
    -- "type 00000000, no value octets: 1 visit, no items"
    ∷ sample (of_value (value room (paper 4 0) [])) (0 ∷ 0 ∷ 0 ∷ 1 ∷ room)
    -- "T with ..: items 2, 1, -1; 3 visits"; kinds and places are as the type and the octets say
    ∷ sample (of_value (value room longs longs_value)) (0 ∷ 12 ∷ 3 ∷ 3 ∷ 19 ∷ 0 ∷ 2 ∷ 3 ∷ 4 ∷ 1 ∷ 3 ∷ 8 ∷ 0xFFFFFFFFFFFFFFFF ∷ 9 ∷ [])
    -- "first eight octets only: 50, 3 visits"
    ∷ sample (of_value (value room longs (paper 8 0x0000000200000001))) (50 ∷ 0 ∷ 0 ∷ 3 ∷ room)
    -- "that value rewritten little"
    ∷ sample (of_rewriting (rewrite (replicate 13 9) (to_little 0) longs (from_start longs_value))) (0 ∷ 12 ∷ (paper 12 0x0200000001000000FFFFFFFF ++ (9 ∷ [])))
    -- "type 00000008, value 02: 51, 1 visit"
    ∷ sample (of_value (value room (paper 4 8) (paper 1 2))) (51 ∷ 0 ∷ 0 ∷ 1 ∷ room)
    ∷ []

pub samples-hold : T (all_answered paper_answered paper_samples)
unfolding paper_answered paper_samples
samples-hold = tt
