-- What rewriting a value answers: "refusals as reading without 56, then 57, output too short". "The answer gives octets written."
--   rewrite_number   01's number of an answer, 0 where the value is written
--   written_count    the octets written, or what was there before where none are
--   rewrite_numbers  an answer's number, and octets written: a refusal's other number is 0
--   rewrite_of       the answer for a reading, where there is room for so many octets
--   rewrite_answer   the answer: 42 "before the type check", then the type's refusal, then the value's, then 57
--   rewritten       the octets of the reading under the type that octets give
--   written_by       lent output that an answer fills or leaves
--   output_after     "lent memory that an answer doesn't fill keeps its contents": the octets from the output's start, or as it was
use Rattle.std.specs.Prelude.{◌∷◌}
use Rattle.choices.specs.{ℕ, List, [], ltb, eqb, length, sets, choose}
use Rattle.cdr.specs.{Order}
use Rattle.value_meaning.specs.{Source, St, Log, any_room, Value.reading_of, Value.under_type}
use Rattle.rewrite_meaning.specs.{declared.RewriteAnswer.RewriteAnswer, Written.Target, Written.written}
use Rattle.rewrite_meaning.specs.declared.RewriteAnswer.TheVariants.{Accepted, Refused}

abbrev pub rewrite_number : RewriteAnswer → ℕ
rewrite_number (Accepted count) = 0
rewrite_number (Refused number) = number

abbrev pub written_count : RewriteAnswer → ℕ → ℕ
written_count (Accepted count) before = count
written_count (Refused number) before = before

abbrev pub rewrite_numbers : RewriteAnswer → List ℕ
rewrite_numbers a = rewrite_number a ∷ written_count a 0 ∷ []

unfoldable pub rewrite_of : St Log → Target → ℕ → RewriteAnswer
rewrite_of s to room =
    choose (eqb s.fault 0)
    (λ _. choose (ltb room (length (written to s)))
    (λ _. Refused 57)
    (λ _. Accepted (length (written to s))))
    (λ _. Refused s.fault)

unfoldable pub rewrite_answer : List ℕ → Order → Source → Target → ℕ → RewriteAnswer
rewrite_answer v order x to room = under_type v order x (λ _. rewrite_of (reading_of any_room v order x) to room) Refused

abbrev pub rewritten : List ℕ → Order → Source → Target → List ℕ
rewritten v order x to = written to (reading_of any_room v order x)

abbrev pub written_by : RewriteAnswer → List ℕ → List ℕ → List ℕ
written_by (Accepted count) out octets = sets out 0 octets
written_by (Refused number) out octets = out

unfoldable pub output_after : List ℕ → Order → Source → Target → List ℕ → List ℕ
output_after v order x to out = written_by (rewrite_answer v order x to (length out)) out (rewritten v order x to)
