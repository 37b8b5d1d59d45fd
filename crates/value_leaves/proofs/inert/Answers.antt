-- A kind that holds no other.
use Rattle.value_meaning.specs.Visit.{inert_at}
use Rattle.value_leaves.proofs.inert.Goals as goal

pub returns-in-Leaf : goal.returns-in-Leaf
unfolding inert_at
returns-in-Leaf c =
    rw c.in-Leaf.is c.leaf.ensures

pub returns-in-Text : goal.returns-in-Text
unfolding inert_at
returns-in-Text c =
    rw c.in-Text.is c.text.ensures

pub returns-in-Objref : goal.returns-in-Objref
unfolding inert_at
returns-in-Objref c =
    rw c.in-Objref.is c.reference.ensures

pub returns-in-Enum : goal.returns-in-Enum
unfolding inert_at
returns-in-Enum c =
    rw c.in-Enum.is c.enumerated.ensures
