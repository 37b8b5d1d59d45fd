-- What the C interface leaves in what it is lent for a value that is rewritten: output and count are filled by an accepted value and kept by a
-- refusal.
--   RewritesC   what a call ensures
use Rattle.std.specs.Prelude.{◌≡◌, List, Bool, ℕ, length}
use Rattle.cdr.specs.Orders.{order_of_flag}
use Rattle.value_meaning.specs.Sinks.{Source}
use Rattle.rewrite_meaning.specs.Written.{Target}
use Rattle.rewrite_meaning.specs.Rewriting.{rewrite_number, written_count, rewrite_answer, output_after}

pub record RewritesC (t : List ℕ) (little : Bool) (x : Source) (to : Target) (out : List ℕ) (count r : ℕ) (out_last : List ℕ) (count_last : ℕ) : Type 0
  where
    pub number : r ≡ rewrite_number (rewrite_answer t (order_of_flag little) x to (length out))
    pub output : out_last ≡ output_after t (order_of_flag little) x to out
    pub counted : count_last ≡ written_count (rewrite_answer t (order_of_flag little) x to (length out)) count
