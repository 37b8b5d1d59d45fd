-- Texts: "string of length 0, without a last zero octet or with an earlier one"; octets behind their count; bounds.
--   over_bound    more than a bound allows, "0 is none"
--   has_zero      some octet is zero
--   is_nil        no octets
--   ends_text     a last zero octet, and no earlier one
--   text_of       a text of n octets: "length 0, bound, end, zeros", the bound "over its bound (a text's final zero not counted)"
--   run_of        n octets as they are
use Rattle.std.specs.Prelude.{ℕ, ◌+◌, ◌-◌, List, [], ◌∷◌, Bool, true, false, cond, ltb, eqb, length, take, drop, Option, Some, None, Result, Ok, Err}
use Rattle.choices.specs.Lists.{any_of}
use Rattle.cdr_text.specs.declared.TextFault.TheVariants.{Empty, Over, Short, Zeros}
use Rattle.cdr_text.specs.declared.TextFault.{TextFault}

unfoldable pub over_bound : ℕ → ℕ → Bool
over_bound count bound = cond (eqb bound 0) false (ltb bound count)

unfoldable pub has_zero : List ℕ → Bool
has_zero l = any_of (λ (x : ℕ). eqb x 0) l

abbrev pub is_nil : List ℕ → Bool
is_nil [] = true
is_nil (x ∷ l) = false

unfoldable pub ends_text : List ℕ → Bool
ends_text [] = false
ends_text (x ∷ l) = cond (eqb x 0) (is_nil l) (ends_text l)

unfoldable pub text_of : List ℕ → ℕ → ℕ → ℕ → Result ℕ TextFault
text_of v at n bound =
    cond (eqb n 0) (Err Empty)
    (cond (over_bound (n - 1) bound) (Err Over)
    (cond (ltb (length v) (at + n)) (Err Short)
    (cond (ends_text (take n (drop at v))) (Ok (n - 1))
    (Err Zeros))))

unfoldable pub run_of : List ℕ → ℕ → ℕ → Option ℕ
run_of v at n = cond (ltb (length v) (at + n)) None (Some (at + n))
