-- The octets of an extent are a part of the others, from its start on: past their end none, else those up to the end or all. A part of no octets at
-- the start is the part of no extent.
use mathlib.Core.Path.{◌≡◌, sym, ap, subst, ◌∙◌}
use mathlib.Core.List.{List, []}
use Prim.Native.Nat.{ℕ, ◌+◌, ◌-◌, ◌≤◌}
use native.Mathlib.Omega.{arith}
use denote.Ref.{Bor}
use lib.ListN.{length, take, drop, length-drop, drop_of_length-le}
use lib.Seq.{take_all}
use Rattle.cdr_fields.specs.declared.Extent.{Extent}
use Rattle.cdr_fields.specs.Extents.{no_extent, extent_octets, extent_start, PartOf}

module _ (v : List ℕ) (part : Extent) where
  -- octets from an index on, with the index where they start
  pub record TakenFrom (at n : ℕ) : Type 0 where
    pub octets : take n (drop at v) ≡ extent_octets v part
    pub place : (o : ℕ) → at + o ≡ o + extent_start v part

  pub past_end : length v ≤ part.from.0 → TakenFrom (length v) (length v - length v)
  unfolding extent_octets extent_start
  past_end h = record {
    octets =
        ap (take (length v - length v)) (drop_of_length-le v {i = length v} (omega arith)) ∙ take_all (length v - length v) [] (omega arith)
        ∙ sym (ap (take part.length) (drop_of_length-le v h) ∙ take_all part.length [] (omega arith));
    place = λ o. omega arith;
  }

  pub up-to-end : part.from.0 ≤ length v → length v - part.from.0 ≤ part.length → TakenFrom part.from.0 (length v - part.from.0)
  unfolding extent_octets extent_start
  up-to-end f h = record {
    octets =
        take_all (length v - part.from.0) (drop part.from.0 v) (omega (arith, length-drop part.from.0 v))
        ∙ sym (take_all part.length (drop part.from.0 v) (omega (arith, length-drop part.from.0 v)));
    place = λ o. omega arith;
  }

  pub all_there : part.from.0 ≤ length v → TakenFrom part.from.0 (part.from.0 + part.length - part.from.0)
  unfolding extent_octets extent_start
  all_there f = record {
    octets =
        let e : part.from.0 + part.length - part.from.0 ≡ part.length = omega arith in
        ap (λ (n : ℕ). take n (drop part.from.0 v)) e;
    place = λ o. omega arith;
  }

pub none_of : (s : Bor (List ℕ)) (part : Extent) → part ≡ no_extent → (r : Bor (List ℕ))
    → r.now ≡ take 0 s.now → r.ref_ptr.0 ≡ s.ref_ptr.0 → r.ref_ptr.1 ≡ 0 + s.ref_ptr.1 → PartOf s part r
unfolding extent_octets extent_start
none_of s part e r octets block place =
    subst (λ (x : Extent). PartOf s x r) (sym e) (record { octets = octets; block = block; place = place ∙ omega arith })
