-- A rewritten value has at most 16,391 octets, so that more room is no difference; and its octets stand at the start of the memory.
use Rattle.std.specs.Prelude.{Result, Ok, Err}
use mathlib.Core.Path.{◌≡◌, refl, sym, ap, ◌∙◌}
use mathlib.Core.Bool.{Bool, true, false}
use mathlib.Core.List.{List, ◌++◌}
use Prim.Native.Nat.{ℕ, ◌≤◌, min}
use native.Mathlib.Omega.{arith}
use lib.Dec.{eqb, ltb}
use lib.ListN.{length, take, drop, length-append}
use lib.Seq.{sets, length-sets, length-take-le, take-append-le}
use borrow.Author.Tests.{ltb-true, ltb-false, lt-ltb, le-ltb}
use Rattle.choices.proofs.Choices.{by-test, clash, neither}
use Rattle.choices.specs.Branch.{choose}
use Rattle.cdr.specs.declared.Order.{Order}
use Rattle.cdr.specs.Limit.{octets_limit}
use Rattle.decimals.proofs.CharactersPut.{take-written}
use Rattle.typecode.specs.TypeCode.{checked_type}
use Rattle.type_laws.proofs.Exactly39.{accepted-as}
use Rattle.value_meaning.specs.Sinks.{Source, St}
use Rattle.value_meaning.specs.Visit.{checked}
use Rattle.value_meaning.specs.Reading.{Log, any_room}
use Rattle.value_meaning.specs.Value.{overlong, on_type, reading_of}
use Rattle.value_meaning.proofs.VisitsBounded.{used-bound}
use Rattle.rewrite_meaning.specs.declared.RewriteAnswer.{RewriteAnswer}
use Rattle.rewrite_meaning.specs.declared.RewriteAnswer.TheVariants.{Accepted, Refused}
use Rattle.rewrite_meaning.specs.Written.{Target, written}
use Rattle.rewrite_meaning.specs.Rewriting.{rewrite_of, rewrite_answer, rewritten, output_after}
use Rattle.rewrite_meaning.proofs.SevenMore.{written-near}
use Rattle.ask_text.specs.declared.Reply.TheVariants.{Rewritten, Refused as NotRewritten}
use Rattle.ask_answers.specs.Questions.{rewrite_asked}
use Rattle.ask_answers.specs.Replies.{octets_given}
use Rattle.ask_answers.specs.Inner.{rewritten_most, OctetsHeld}
use Rattle.typecode.specs.declared.NoType.TheVariants.{Loop, Refused}
use Rattle.typecode.specs.declared.NoType.{NoType}

-- of octets that room is enough for, more room is no difference
room-same : (s : St Log) (to : Target) (room : ℕ) → length (written to s) ≤ rewritten_most → rewrite_of s to (min room rewritten_most) ≡ rewrite_of s to room
unfolding rewrite_of
room-same s to room h =
    by-test (ltb room (length (written to s)))
    (λ e. let l = ltb-true room (length (written to s)) e in rw (e, lt-ltb (min room rewritten_most) (length (written to s)) (omega arith)))
    (λ e. let l = ltb-false room (length (written to s)) e in rw (e, le-ltb (min room rewritten_most) (length (written to s)) (omega arith)))

-- an accepted value is written where there is room for it
pub record Fits (xs : List ℕ) (room n : ℕ) : Type 0 where
  pub count : n ≡ length xs
  pub within : n ≤ room

fits_by : (s : St Log) (to : Target) (room n : ℕ) (a b : Bool) → ltb room (length (written to s)) ≡ b
    → choose a (λ _. choose b (λ _. Refused 57) (λ _. Accepted (length (written to s)))) (λ _. Refused s.fault) ≡ Accepted n
    → Fits (written to s) room n
unfolding choose
fits_by s to room n true true t e = clash cc
fits_by s to room n true false t e = let c : n ≡ length (written to s) = cc in record { count = c; within = omega (arith, ltb-false room (length (written to s)) t) }
fits_by s to room n false b t e = clash cc

fits : (s : St Log) (to : Target) (room n : ℕ) → rewrite_of s to room ≡ Accepted n → Fits (written to s) room n
unfolding rewrite_of
fits s to room n e = fits_by s to room n (eqb s.fault 0) _ refl e

module _ (t : List ℕ) (order : Order) (x : Source) (to : Target) where
  abbrev read : St Log
  read = reading_of any_room t order x

  octets-most : (used kinds : ℕ) → (checked_type t order).answer ≡ Ok (used, kinds) → overlong t x ≡ false → length (written to read) ≤ rewritten_most
  unfolding reading_of
  octets-most used kinds q h =
      let l = ltb-false octets_limit (length x.octets) (neither (ltb octets_limit (length t)) (ltb octets_limit (length x.octets)) h).1 in
      omega (
        arith,
        written-near any_room x (checked t (checked_type t order).kinds) to,
        used-bound any_room x t order kinds (checked_type t order).kinds (accepted-as t order used kinds q),
      )

  type-same : (room : ℕ) → overlong t x ≡ false → (a : Result (ℕ × ℕ) NoType) → (checked_type t order).answer ≡ a
      → on_type a (λ _. rewrite_of read to (min room rewritten_most)) Refused ≡ on_type a (λ _. rewrite_of read to room) Refused
  type-same room h (Ok (used, kinds)) q = room-same read to room (octets-most used kinds q h)
  type-same room h (Err (Refused why)) q = refl
  type-same room h (Err Loop) q = refl

  pub room-enough : (room : ℕ) → rewrite_answer t order x to (min room rewritten_most) ≡ rewrite_answer t order x to room
  unfolding rewrite_answer choose
  room-enough room =
      by-test (overlong t x)
      (λ o. rw o)
      (λ o. rw o (type-same room o (checked_type t order).answer refl))

  type-fits : (room n : ℕ) (a : Result (ℕ × ℕ) NoType) → on_type a (λ _. rewrite_of read to room) Refused ≡ Accepted n → Fits (written to read) room n
  type-fits room n (Ok (used, kinds)) e = fits read to room n e
  type-fits room n (Err (Refused why)) e = clash cc
  type-fits room n (Err Loop) e = clash cc

  answer-fits : (room n : ℕ) → rewrite_answer t order x to room ≡ Accepted n → Fits (rewritten t order x to) room n
  unfolding rewrite_answer choose
  answer-fits room n e =
      by-test (overlong t x)
      (λ o. let f = rw o at e in clash cc)
      (λ o. type-fits room n (checked_type t order).answer (rw o at e))

  -- the octets of an answer
  pub octets-few : (room : ℕ) (a : RewriteAnswer) → rewrite_answer t order x to room ≡ a → length (octets_given a (rewritten t order x to)) ≤ rewritten_most
  octets-few room (Accepted n) e = let f = answer-fits (min room rewritten_most) n (room-enough room ∙ e) in omega (arith, f.count, f.within)
  octets-few room (Refused number) e = omega arith

  -- stand at the start of the memory
  module _ (room : ℕ) (memory : List ℕ) (m : ℕ) (k : m ≡ min room rewritten_most) (h : rewritten_most ≤ length memory) where
    abbrev lent : List ℕ
    lent = take m memory

    lent_length : length lent ≡ m
    lent_length = length-take-le m memory (omega arith)

    module _ (a : RewriteAnswer) (e : a ≡ rewrite_answer t order x to (length lent)) where
      answered : a ≡ rewrite_answer t order x to room
      answered = e ∙ ap (rewrite_answer t order x to) (lent_length ∙ k) ∙ room-enough room

      pub rewrite-refused : (number : ℕ) → a ≡ Refused number → (after : List ℕ) → OctetsHeld (rewrite_asked order t x to room) (NotRewritten number) after
      rewrite-refused number g after = record { reply = rw (← answered, g); octets = rw (← answered, g); within = omega arith }

      module _ (n : ℕ) (g : a ≡ Accepted n) (last : List ℕ) (f : last ≡ output_after t order x to lent) where
        fit : Fits (rewritten t order x to) (length lent) n
        fit = answer-fits (length lent) n (sym e ∙ g)

        last-is : last ≡ sets lent 0 (rewritten t order x to)
        unfolding output_after
        last-is = f ∙ rw (← e, g)

        pub rewrite-accepted : OctetsHeld (rewrite_asked order t x to room) (Rewritten n) (last ++ drop m memory)
        rewrite-accepted =
            let l : length last ≡ length lent = ap length last-is ∙ length-sets lent 0 (rewritten t order x to) in
            let c = fit.within in
            record {
              reply = rw (← answered, g);
              octets = rw (← answered, g)
                  (take-append-le n last (drop m memory) (omega arith)
                  ∙ ap (take n) last-is
                  ∙ take-written lent (rewritten t order x to) n fit.count fit.within);
              within = rw length-append (omega arith);
            }
