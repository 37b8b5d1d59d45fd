-- The last fragment of a message: what writing the joined message answers, as the ways of the step.
use Rattle.std.specs.Prelude.{Result, Ok, Err}
use mathlib.Core.Path.{◌≡◌, refl, sym, ap, subst, ◌∙◌}
use mathlib.Core.List.{List, ◌++◌}
use mathlib.Core.Bool.{Bool, true, false, cond}
use Prim.Native.Nat.{ℕ, ◌+◌, ◌-◌, ◌≤◌, ◌<◌}
use native.Mathlib.Omega.{arith}
use lib.Dec.{ltb}
use borrow.Author.Tests.{ltb-true, ltb-false, le-ltb}
use lib.ListN.{length, take, drop, length-drop}
use lib.Seq.{length-take-le}
use Rattle.frame.specs.Header.{header_size}
use Rattle.join_places.specs.declared.Record.{Record}
use Rattle.join_places.specs.Places.{place_start, length_of, held_in, closed}
use Rattle.join_message.specs.Message.{id_end, body_after_id}
use Rattle.join_message.proofs.HeaderCorrected.{corrected-length}
use Rattle.join_message.specs.Written.{assembled_of, assembled_in, Assembles}
use Rattle.join_answers.specs.declared.Refusal.TheVariants.{NoRoom as RefusedRoom}
use Rattle.joining.specs.declared.Outcome.{Outcome}
use Rattle.join_steps.specs.Steps.{Completes}
use Rattle.joining.specs.Answers.{refused_outcome, Takes}
use Rattle.join_steps.specs.Inner.{Continues}
use Rattle.join_steps.proofs.StepIs.{part_of}
use Rattle.joining.proofs.StepsTake.{body-rest, no_room, completes}
use Rattle.join_answers.specs.declared.Answer.TheVariants.{Joined}
use Rattle.join_message.specs.declared.Unassembled.TheVariants.{NoHeader, NoRoom}
use Rattle.join_message.specs.declared.Unassembled.{Unassembled}

-- the octets that a place has of its open message
held-length : (v : List ℕ) (r : Record) (places : List ℕ) (i : ℕ) → Continues v r places i → length (held_in r places i) ≡ length_of r i
held-length v r places i c =
    let e = length-drop (place_start i) places in
    let p = c.place in
    let l = c.lent in
    let m = c.most in
    length-take-le (length_of r i) (drop (place_start i) places) (omega arith)

-- the parts that are read are what is held, and the fragment's body
parts-read : (v : List ℕ) (r : Record) (places : List ℕ) (i : ℕ) (out : List ℕ) (a : Result ℕ Unassembled) (last : List ℕ)
    → Assembles (take (place_start i + length_of r i - place_start i) (drop (place_start i) places)) (take (length v - id_end) (drop id_end v)) out a last
    → Assembles (held_in r places i) (body_after_id v) out a last
parts-read v r places i out a last s =
    subst (λ (b : List ℕ). Assembles (held_in r places i) b out a last) (body-rest v)
    (subst (λ (h : List ℕ). Assembles h (take (length v - id_end) (drop id_end v)) out a last) (part_of (place_start i) (length_of r i) places) s)

-- the answers of the writer, where there is a header
abbrev Answers : ℕ → ℕ → Result ℕ Unassembled → Type 0
Answers n room (Ok m) = (m ≡ n) × (n ≤ room)
Answers n room (Err NoRoom) = room < n
Answers n room (Err NoHeader) = ⊥

answered : (held body : List ℕ) (room : ℕ) → header_size ≤ length held → Answers (length (held ++ body)) room (assembled_of held body room)
unfolding assembled_of
answered held body room h = rw (le-ltb (length held) header_size h) (by-room (length (held ++ body)) room (ltb room (length (held ++ body))) refl)
  where
    by-room : (n room : ℕ) (t : Bool) → t ≡ ltb room n → Answers n room (cond t (Err NoRoom) (Ok n))
    by-room n room true e = ltb-true room n (sym e)
    by-room n room false e = (refl, ltb-false room n (sym e))

module _ (v : List ℕ) (r : Record) (places : List ℕ) (i : ℕ) (c : Continues v r places i) (out : List ℕ) (a : Result ℕ Unassembled) (last : List ℕ)
    (s : Assembles (take (place_start i + length_of r i - place_start i) (drop (place_start i) places)) (take (length v - id_end) (drop id_end v)) out a last) where
  answers : Answers (length (held_in r places i ++ body_after_id v)) (length out) a
  answers =
      let h = held-length v r places i c in
      let l = c.least in
      subst (Answers (length (held_in r places i ++ body_after_id v)) (length out)) (sym (parts-read v r places i out a last s).answer)
      (answered (held_in r places i) (body_after_id v) (length out) (omega arith))

  pub written-whole : (n : ℕ) → a ≡ Ok n → (after : Record) → after ≡ closed r i
      → Takes (Ok (Completes i)) v r places out (record { answer = Ok (Joined n); after = after }) places last
  written-whole n e after f =
      let g = subst (Answers (length (held_in r places i ++ body_after_id v)) (length out)) e answers in
      subst (λ (m : ℕ). Takes (Ok (Completes i)) v r places out (record { answer = Ok (Joined m); after = after }) places last) (sym g.0)
      (completes v r places out i after last f g.1
      ((parts-read v r places i out a last s).contents ∙ ap (λ (x : Result ℕ Unassembled). assembled_in x (held_in r places i) (body_after_id v) out) e))

  pub written-not : (o : Outcome) → a ≡ Err NoRoom → o ≡ refused_outcome r RefusedRoom → Takes (Ok (Completes i)) v r places out o places last
  written-not o e f =
      let g = subst (Answers (length (held_in r places i ++ body_after_id v)) (length out)) e answers in
      let n = corrected-length (held_in r places i ++ body_after_id v) in
      let k : last ≡ out = (parts-read v r places i out a last s).contents ∙ ap (λ (x : Result ℕ Unassembled). assembled_in x (held_in r places i) (body_after_id v) out) e in
      subst (λ (x : List ℕ). Takes (Ok (Completes i)) v r places out o places x) (sym k) (no_room v r places out (Ok (Completes i)) o (omega arith) f)

  pub has-header : a ≡ Err NoHeader → ⊥
  has-header e = subst (Answers (length (held_in r places i ++ body_after_id v)) (length out)) e answers
