-- The ways to an answer: a refusal before any visit, or a reading under an accepted type.
use Rattle.std.specs.Prelude.{Option, Some, None, Result, Ok, Err}
use mathlib.Core.Path.{◌≡◌, sym, ap, ◌∙◌}
use mathlib.Core.List.{List}
use Prim.Native.Nat.{ℕ}
use lib.ListN.{length}
use Rattle.choices.proofs.Choices.{clash}
use Rattle.cdr.specs.declared.Order.{Order}
use Rattle.type_kinds.specs.declared.Form.TheVariants.{Plain}
use Rattle.type_kinds.specs.declared.Kind.{Kind}
use Rattle.type_kinds.specs.declared.Inner.{Inner}
use Rattle.type_kinds.specs.declared.Inner.TheVariants.{Here, There}
use Rattle.type_kinds.specs.declared.Inert.TheVariants.{Leaf}
use Rattle.type_parameters.specs.declared.Parameters.{Parameters}
use Rattle.type_parameters.specs.declared.Parameters.TheVariants.{Fault, Flat, Struct, Exception, Union, Sequence, Array, Alias}
use Rattle.type_kinds.specs.Forms.{form_of}
use Rattle.type_parameters.proofs.LeafPlain.{leaf-plain}
use Rattle.type_list.specs.Met.{kind_no, position_of, parameters_of, at_position, found_at, inside_of}
use Rattle.type_unions.specs.Shapes.{shape_of, look}
use Rattle.type_unions.specs.Shapes.Shape.{flat}
use Rattle.value_meaning.specs.Sinks.{Source}
use Rattle.value_meaning.specs.Visit.{checked}
use Rattle.value_meaning.specs.Reading.{any_room, reading}
use Rattle.value_meaning.specs.Value.{reading_of}
use Rattle.value_meaning.proofs.VisitsBounded.{items-bound}
use Rattle.value_typed.specs.Typed.{Typed, typed_for}
use Rattle.value_typed.proofs.TypedCases.{on_judged, under, answer-judged, bounded}
use Rattle.rewrite_meaning.specs.declared.RewriteAnswer.{RewriteAnswer}
use Rattle.rewrite_meaning.specs.declared.RewriteAnswer.TheVariants.{Refused}
use Rattle.rewrite_meaning.specs.Written.{Target, written}
use Rattle.rewrite_meaning.specs.Rewriting.{rewrite_of, rewrite_answer, written_by, rewritten, output_after}
use Rattle.rewrite.specs.Inner.{Readable, Rewrites}

-- kinds without parameters are primitives
module _ (v : List ℕ) (ks : List Kind) where
  position-plain : (a : Option ℕ) (kind : ℕ) → at_position v ks a ≡ Flat (Leaf kind) → form_of kind ≡ Plain
  unfolding parameters_of
  position-plain (Some j) kind e = leaf-plain v (kind_no ks j) kind e
  position-plain None kind e = clash cc

  inside-plain : (y : Inner) (kind : ℕ) → inside_of v ks y ≡ Flat (Leaf kind) → form_of kind ≡ Plain
  unfolding inside_of found_at
  inside-plain (Here a) kind e = leaf-plain v a kind e
  inside-plain (There p) kind e = position-plain (position_of ks p) kind e

  -- only a kind without parameters looks like one
  shape-flat : (p : Parameters) (kind : ℕ) → shape_of v ks p ≡ flat (Leaf kind) → p ≡ Flat (Leaf kind)
  unfolding shape_of
  shape-flat (Flat i) kind e = let z : i ≡ Leaf kind = cc in ap Flat z
  shape-flat Fault kind e = clash cc
  shape-flat (Struct g) kind e = clash cc
  shape-flat (Exception g) kind e = clash cc
  shape-flat (Union g d default) kind e = clash cc
  shape-flat (Sequence y bound) kind e = clash cc
  shape-flat (Array y n) kind e = clash cc
  shape-flat (Alias y) kind e = clash cc

  look-plain : (y : Inner) (kind : ℕ) → look v ks y ≡ flat (Leaf kind) → form_of kind ≡ Plain
  unfolding look
  look-plain y kind e = inside-plain y kind (shape-flat (inside_of v ks y) kind e)

module _ (v : List ℕ) (order : Order) (x : Source) (r : Typed) (e : r ≡ typed_for v order (length x.octets)) where
  pub readable : r.judged ≡ Ok tt → Readable (checked v r.kinds) x
  readable s =
      let u = under v order (length x.octets) r e s in
      record {
        bounded = bounded v order x r.kinds u;
        short = u.short;
        few = λ full. items-bound full x v order u.kinds r.kinds u.type;
        plain = look-plain v r.kinds;
      }

  module _ (to : Target) (out : List ℕ) where
    abbrev answer : RewriteAnswer
    answer = rewrite_answer v order x to (length out)

    abbrev on_output : Result (Unit {0}) ℕ → RewriteAnswer
    on_output j = on_judged j (λ _. rewrite_of (reading_of any_room v order x) to (length out)) Refused

    judged : answer ≡ on_output r.judged
    unfolding rewrite_answer
    judged = answer-judged v order (length x.octets) (rewrite_of (reading_of any_room v order x) to (length out)) Refused r e

    -- a refusal before any visit leaves the output
    pub refused-before : (number : ℕ) → r.judged ≡ Err number → (Refused number ≡ answer) × (out ≡ output_after v order x to out)
    unfolding output_after
    refused-before number s =
        let a : Refused number ≡ answer = sym (judged ∙ ap on_output s) in
        (a, ap (λ (y : RewriteAnswer). written_by y out (rewritten v order x to)) a)

    -- the answer under an accepted type, and the output after it
    pub read_under : r.judged ≡ Ok tt → (y : RewriteAnswer) (last : List ℕ) → Rewrites (checked v r.kinds) x to out y last
        → (y ≡ answer) × (last ≡ output_after v order x to out)
    unfolding output_after reading_of
    read_under s y last done =
        let is = (under v order (length x.octets) r e s).met in
        let a : y ≡ answer =
        done.answer ∙ ap (λ (m : List Kind). rewrite_of (reading any_room x (checked v m)) to (length out)) (sym is) ∙ sym (judged ∙ ap on_output s) in (
          a,
          done.output
              ∙ ap (λ (m : List Kind). written_by y out (written to (reading any_room x (checked v m)))) (sym is)
              ∙ ap (λ (u : RewriteAnswer). written_by u out (rewritten v order x to)) a,
        )
