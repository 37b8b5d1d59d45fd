-- The components of a profile body: "from minor 1 a list of components (tag, octets)"; v are the body's octets.
--   listed             components that end at an index, and how many octets stand after it, which "are counted and given as extra"
--   list_from           so many components from the first one's index on
--   on_component_count   what follows the count, or its refusal
--   counted_list        the count, then so many components
--   list_at             what stands after the key: 64 "octets after the key in 1.0", else the count and the components
--   component_from      the component after n others
use Rattle.std.specs.Prelude.{ℕ, ◌-◌, List, cond, ltb, length, Option, Some, None, Result, Ok, Err}
use Rattle.cdr.specs.declared.Index.{Index}
use Rattle.cdr.specs.declared.Order.{Order}
use Rattle.profile_parts.specs.declared.Refusal.TheVariants.{Ends, AfterKey}
use Rattle.version.specs.Versions.{has_components}
use Rattle.cdr_fields.specs.Tagged.{skip_tagged, tagged_behind}
use Rattle.profile_parts.specs.Parts.{component_count_at, component_part}
use Rattle.cdr_fields.specs.declared.Extent.{Extent}
use Rattle.profile_parts.specs.declared.Refusal.{Refusal}

abbrev pub listed : List ℕ → ℕ → Index → Option Index → Result (ℕ × Index × ℕ) Refusal
listed v count first (Some e) = Ok (count, first, length v - e.0)
listed v count first None = Err Ends

unfoldable pub list_from : List ℕ → Index → ℕ → Order → Result (ℕ × Index × ℕ) Refusal
list_from v first count order = listed v count first (skip_tagged v order count first)

abbrev pub on_component_count : Result (ℕ × Index) Refusal → (ℕ → Index → Result (ℕ × Index × ℕ) Refusal) → Result (ℕ × Index × ℕ) Refusal
on_component_count (Ok (n, next)) f = f n next
on_component_count (Err r) f = Err r

unfoldable pub counted_list : List ℕ → Index → Order → Result (ℕ × Index × ℕ) Refusal
counted_list v i order = on_component_count (component_count_at v i order) (λ n next. list_from v next n order)

unfoldable pub list_at : List ℕ → Index → ℕ → Order → Result (ℕ × Index × ℕ) Refusal
list_at v i minor order =
    cond (has_components minor) (counted_list v i order)
    (cond (ltb i.0 (length v)) (Err AfterKey)
    (Ok (0, i, 0)))

unfoldable pub component_from : List ℕ → Index → ℕ → Order → Result (ℕ × Extent × Index) Refusal
component_from v first n order = component_part (tagged_behind v first n order)
