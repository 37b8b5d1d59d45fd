-- What the C interface leaves in what it is lent for a header that is written back: output and count are filled by one that is written and kept by
-- a refusal.
--   head_number    the papers' number of an answer, 0 for a header that was written
--   count_after    the count: how many octets were written
--   WritesHeadC   what a call ensures
use Rattle.std.specs.Prelude.{◌≡◌, List, ℕ, length, Result, Ok, Err}
use Rattle.header_parts.specs.Parts.{header_refusal_number}
use Rattle.header_head.specs.Head.{head_answer, head_after}
use Rattle.header_parts.specs.declared.Refusal.{Refusal}

abbrev pub head_number : Result ℕ Refusal → ℕ
head_number (Ok n) = 0
head_number (Err r) = header_refusal_number r

abbrev pub count_after : Result ℕ Refusal → ℕ → ℕ
count_after (Ok n) before = n
count_after (Err r) before = before

pub record WritesHeadC (v out : List ℕ) (count r : ℕ) (out_last : List ℕ) (count_last : ℕ) : Type 0 where
  pub number : r ≡ head_number (head_answer v (length out))
  pub output : out_last ≡ head_after v out
  pub counted : count_last ≡ count_after (head_answer v (length out)) count
