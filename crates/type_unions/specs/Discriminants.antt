-- "Discriminant not of kind 2, 3, 4, 5, 8, 9, 17, 23 or 24 after aliases and indirections, a label out of its kind": what a discriminant's
-- type says of labels.
--   leaf_labels         the labels of a kind without parameters: their size, and for a boolean that they are below 2
--   inert_labels        the labels of a kind that holds no other; an enum's are below the number of its names
--   discriminant_of     what a discriminant's parameters say: an alias leads on
--   on_discriminant     the labels, through an alias if it is one
--   labels_after        the labels of a discriminant at a place, with so many kinds to go through
--   labels_for          the same through the most kinds, which is enough: a way that ends meets no kind twice (`resolved-exactly`, in `type_laws`)
--   out_of_kind          a label is not below its limit, of which 0 is none
use Rattle.choices.specs.{ℕ, zero, suc, List, Bool, false, cond, leb, eqb}
use Rattle.type_numbers.specs.Kinds.{short_kind, long_kind, unsigned_short_kind, unsigned_long_kind, boolean_kind, char_kind, long_long_kind}
use Rattle.type_numbers.specs.Kinds.{unsigned_long_long_kind}
use Rattle.cdr.specs.{Place, One, Two, Four, Eight}
use Rattle.type_kinds.specs.{Inner, Inert, Leaf, Text, Objref, Enum, Labels, Of, NoLabels, Kind, place_in}
use Rattle.type_parameters.specs.{declared.Parameters.Parameters}
use Rattle.type_parameters.specs.declared.Parameters.TheVariants.{Fault, Flat, Struct, Exception, Union, Sequence, Array, Alias}
use Rattle.type_list.specs.{Met.found_at}
use Rattle.type_numbers.specs.{kinds_limit}
use Rattle.type_unions.specs.{declared.Discriminant.Discriminant}
use Rattle.type_unions.specs.declared.Discriminant.TheVariants.{Through, Says}

unfoldable pub leaf_labels : ℕ → Labels
leaf_labels kind =
    cond (eqb kind short_kind) (Of Two 0)
    (cond (eqb kind long_kind) (Of Four 0)
    (cond (eqb kind unsigned_short_kind) (Of Two 0)
    (cond (eqb kind unsigned_long_kind) (Of Four 0)
    (cond (eqb kind boolean_kind) (Of One 2)
    (cond (eqb kind char_kind) (Of One 0)
    (cond (eqb kind long_long_kind) (Of Eight 0)
    (cond (eqb kind unsigned_long_long_kind) (Of Eight 0)
    NoLabels)))))))

abbrev pub inert_labels : Inert → Labels
inert_labels (Leaf kind) = leaf_labels kind
inert_labels (Text bound) = NoLabels
inert_labels Objref = NoLabels
inert_labels (Enum names) = Of Four names

abbrev pub discriminant_of : Parameters → Discriminant
discriminant_of (Flat i) = Says (inert_labels i)
discriminant_of (Alias x) = Through x
discriminant_of Fault = Says NoLabels
discriminant_of (Struct g) = Says NoLabels
discriminant_of (Exception g) = Says NoLabels
discriminant_of (Union g d default) = Says NoLabels
discriminant_of (Sequence x bound) = Says NoLabels
discriminant_of (Array x n) = Says NoLabels

abbrev pub on_discriminant : Discriminant → (Inner → Labels) → Labels
on_discriminant (Through x) f = f x
on_discriminant (Says labels) f = labels

unfoldable pub labels_after : List ℕ → List Kind → ℕ → Place → Labels
labels_after v ks zero p = NoLabels
labels_after v ks (suc l) p = on_discriminant (discriminant_of (found_at v ks p)) (λ x. labels_after v ks l (place_in x))

unfoldable pub labels_for : List ℕ → List Kind → Place → Labels
labels_for v ks p = labels_after v ks kinds_limit p

unfoldable pub out_of_kind : ℕ → ℕ → Bool
out_of_kind limit x = cond (eqb limit 0) false (leb limit x)
