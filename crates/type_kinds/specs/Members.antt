-- A kind's members, as one list: what reading, choosing, stepping and comparing labels go by.
--   Member         a member: its label, where members have labels, and its type; `member` the same from its parts
--   label_at        the label at an index; members without labels have 0 there
--   members_from    n members from an index on, as far as they are there
--   members_of      the members that are listed somewhere
--   types_of        their types, in octet order
use Rattle.std.specs.Prelude.{◌∷◌}
use Rattle.choices.specs.{ℕ, zero, suc, List, []}
use Rattle.cdr.specs.{Index, Place, Order}
use Rattle.type_kinds.specs.Names.{Inner, Labels, Of, NoLabels, Fields}
use Rattle.type_kinds.specs.Parts.{on_field, on_spot, field_in, member_at}

pub record Member : Type 0 where
  pub label : ℕ
  pub type : Inner

abbrev pub member : ℕ → Inner → Member
member x t = record { label = x; type = t }

abbrev pub label_at : Labels → List ℕ → Place → Index → Order → ℕ
label_at (Of size limit) v b i order = on_field (field_in v b i size order) 0 (λ x next. x)
label_at NoLabels v b i order = 0

unfoldable pub members_from : Labels → List ℕ → Place → Order → ℕ → Index → List Member
members_from sort v b order zero i = []
members_from sort v b order (suc n) i =
    on_spot (member_at sort v b i order) [] (λ t next. member (label_at sort v b i order) t ∷ members_from sort v b order n next)

abbrev pub members_of : Labels → List ℕ → Fields → List Member
members_of labels v g = members_from labels v g.start g.order g.count g.first

unfoldable pub types_of : List Member → List Inner
types_of [] = []
types_of (m ∷ ms) = m.type ∷ types_of ms
