-- What each step does, from what the functions that carry it out are told.
use Rattle.std.specs.Prelude.{Option, Result, Ok, Err}
use mathlib.Core.Path.{◌≡◌, refl, sym, ap, subst}
use mathlib.Core.List.{List, ◌++◌}
use Prim.Native.Nat.{ℕ, ◌+◌, ◌-◌, ◌≤◌, ◌<◌, zero-le}
use native.Mathlib.Omega.{arith}
use borrow.Author.Tests.{lt-ltb, le-ltb}
use lib.ListN.{length, take, drop, length-drop}
use lib.Seq.{sets, take_all}
use Rattle.cdr_write.specs.Write.{Stored}
use Rattle.cdr_write.proofs.BufferHolds.{stored-fits}
use Rattle.join_places.specs.declared.Record.{Record}
use Rattle.join_message.proofs.HeaderCorrected.{corrected-length}
use Rattle.join_answers.specs.declared.Refusal.{Refusal}
use Rattle.join_answers.specs.declared.Refusal.TheVariants.{NoRoom}
use Rattle.joining.specs.declared.Outcome.{Outcome}
use Rattle.join_places.specs.Places.{place_start, length_of, held_in, closed, opened, lengthened}
use Rattle.join_message.specs.Message.{id_end, body_after_id, corrected}
use Rattle.join_steps.specs.Steps.{LineStep, Passes, Opens, Extends, Completes, Frees, length_after}
use Rattle.joining.specs.Answers.{message_written, roomed, refused_outcome, Does, Takes}
use Rattle.join_answers.specs.declared.Answer.TheVariants.{Cancelled, Held, Joined, Whole}

-- a fragment's body, as the rest of its octets
pub body-rest : (v : List ℕ) → take (length v - id_end) (drop id_end v) ≡ body_after_id v
body-rest v = let e = length-drop id_end v in take_all (length v - id_end) (drop id_end v) (omega arith)

module _ (v : List ℕ) (r : Record) (places out : List ℕ) where
  pub by-step : (s t : Result LineStep Refusal) (o : Outcome) (p q : List ℕ) → s ≡ t → Takes t v r places out o p q → Takes s v r places out o p q
  by-step s t o p q e d = subst (λ (x : Result LineStep Refusal). Takes x v r places out o p q) (sym e) d

  -- a step whose message fits the output,
  fitting : (s : Result LineStep Refusal) (o : Outcome) (p q : List ℕ) → length (message_written s r v places) ≤ length out
      → Does s v r places out o p q → Takes s v r places out o p q
  fitting s o p q h d =
      let e : roomed (length out) s (message_written s r v places) ≡ s = rw (le-ltb (length out) (length (message_written s r v places)) h) in
      subst (λ (x : Result LineStep Refusal). Does x v r places out o p q) (sym e) d

  refused : (why : Refusal) (o : Outcome) → o ≡ refused_outcome r why → Does (Err why) v r places out o places out
  refused why o f = record { answer = ap (λ (x : Outcome). x.answer) f; after = ap (λ (x : Outcome). x.after) f; stored = refl; output = refl }

  -- and one whose message does not
  pub no_room : (s : Result LineStep Refusal) (o : Outcome) → length out < length (message_written s r v places) → o ≡ refused_outcome r NoRoom
      → Takes s v r places out o places out
  no_room s o h f =
      let e : roomed (length out) s (message_written s r v places) ≡ Err NoRoom =
      rw (lt-ltb (length out) (length (message_written s r v places)) h) in
      subst (λ (x : Result LineStep Refusal). Does x v r places out o places out) (sym e) (refused NoRoom o f)

  pub refuses : (s : Result LineStep Refusal) (why : Refusal) (o : Outcome) → s ≡ Err why → o ≡ refused_outcome r why → Takes s v r places out o places out
  refuses s why o e f = by-step s (Err why) o places out e (fitting (Err why) o places out zero-le (refused why o f))

  pub passes : (w : Option ℕ) (last : List ℕ) → length v ≤ length out → Stored out 0 v w last
      → Takes (Ok Passes) v r places out (record { answer = Ok (Whole (length v)); after = r }) places last
  passes w last h s =
      fitting (Ok Passes) (record { answer = Ok (Whole (length v)); after = r }) places last h
      (record { answer = refl; after = refl; stored = refl; output = stored-fits out 0 v w last (omega arith) s })

  pub frees : (i : ℕ) (after : Record) (w : Option ℕ) (last : List ℕ) → length v ≤ length out → after ≡ closed r i → Stored out 0 v w last
      → Takes (Ok (Frees i)) v r places out (record { answer = Ok (Cancelled (length v)); after = after }) places last
  frees i after w last h e s =
      fitting (Ok (Frees i)) (record { answer = Ok (Cancelled (length v)); after = after }) places last h
      (record { answer = refl; after = e; stored = refl; output = stored-fits out 0 v w last (omega arith) s })

  pub opens : (i id : ℕ) (after : Record) (w : Option ℕ) (last : List ℕ) → place_start i + length v ≤ length places → after ≡ opened r i id (length v)
      → Stored places (place_start i) v w last → Takes (Ok (Opens i id)) v r places out (record { answer = Ok Held; after = after }) last out
  opens i id after w last h e s =
      fitting (Ok (Opens i id)) (record { answer = Ok Held; after = after }) last out zero-le
      (record { answer = refl; after = e; stored = stored-fits places (place_start i) v w last h s; output = refl })

  pub lengthens : (i : ℕ) (after : Record) (w : Option ℕ) (last : List ℕ) → place_start i + length_after r i (length v) ≤ length places
      → after ≡ lengthened r i (length_after r i (length v))
      → Stored places (place_start i + length_of r i) (take (length v - id_end) (drop id_end v)) w last
      → Takes (Ok (Extends i)) v r places out (record { answer = Ok Held; after = after }) last out
  lengthens i after w last h e s =
      let t = subst (λ (b : List ℕ). Stored places (place_start i + length_of r i) b w last) (body-rest v) s in
      let n = length-drop id_end v in
      fitting (Ok (Extends i)) (record { answer = Ok Held; after = after }) last out zero-le
      (record {
        answer = refl;
        after = e;
        stored = stored-fits places (place_start i + length_of r i) (body_after_id v) w last (omega arith) t;
        output = refl;
      })

  -- the message of the last fragment is as long as what is held and its body
  pub completes : (i : ℕ) (after : Record) (last : List ℕ) → after ≡ closed r i → length (held_in r places i ++ body_after_id v) ≤ length out
      → last ≡ sets out 0 (corrected (held_in r places i ++ body_after_id v))
      → Takes (Ok (Completes i)) v r places out
      (record { answer = Ok (Joined (length (held_in r places i ++ body_after_id v))); after = after }) places last
  completes i after last e h f =
      let n = corrected-length (held_in r places i ++ body_after_id v) in
      fitting (Ok (Completes i)) (record { answer = Ok (Joined (length (held_in r places i ++ body_after_id v))); after = after }) places last (omega arith)
      (record { answer = ap (λ (m : ℕ). Ok (Joined m)) (sym n); after = e; stored = refl; output = f })
