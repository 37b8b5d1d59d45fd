-- What stands before a message's body has at most as many octets as the message, so that more room than 16,384 is no difference; and its octets
-- stand at the start of the memory.
use Rattle.std.specs.Prelude.{Result, Ok, Err}
use mathlib.Core.Path.{◌≡◌, refl, sym, ap, ◌∙◌}
use mathlib.Core.List.{List, [], ◌∷◌, ◌++◌}
use Prim.Native.Nat.{ℕ, suc, ◌+◌, ◌*◌, ◌-◌, ◌≤◌, min}
use native.Mathlib.Omega.{arith}
use lib.Dec.{ltb}
use lib.ListN.{length, take, drop, set, replicate, length-append, length-replicate, length-take, take-append-drop}
use lib.Seq.{sets, length-sets, length-take-le, take-append-le, take-set-le}
use borrow.Author.Tests.{ltb-true, ltb-false, lt-ltb, le-ltb}
use Rattle.choices.proofs.Choices.{by-test, clash}
use Rattle.choices.specs.Branch.{choose}
use Rattle.cdr.specs.Limit.{octets_limit}
use Rattle.cdr_write.proofs.BufferHolds.{sets-append}
use Rattle.decimals.proofs.CharactersPut.{take-written}
use Rattle.header_parts.specs.declared.Refusal.{Refusal}
use Rattle.header_parts.specs.declared.Refusal.TheVariants.{NoRoom}
use Rattle.header_parts.specs.Parts.{header_refusal_number}
use Rattle.header.specs.Header.{header_answer}
use Rattle.header.proofs.HeadersWithin.{calls-within, answers-within}
use Rattle.header_head.specs.Head.{header_octets, padded, head_octets, head_written, head_in, head_answer, head_after}
use Rattle.ask_text.specs.declared.Reply.TheVariants.{Rewritten, Refused as NotGiven}
use Rattle.ask_text.specs.Items.{lf}
use Rattle.ask_text.specs.Replies.{octets_text, head_text, reply_text}
use Rattle.ask_text.proofs.OctetsPut.{octets-most}
use Rattle.ask_text.proofs.TextsFit.{head-most}
use Rattle.ask_headers.specs.HeaderQuestions.{head_asked}
use Rattle.ask_headers.specs.HeaderReplies.{head_reply, head_given, header_reply_text}
use Rattle.header.specs.declared.MessageHeader.TheVariants.{Answered, Called}
use Rattle.header.specs.declared.MessageHeader.{MessageHeader}

-- what stands before a body, by the place of the body
record Fits (xs : List ℕ) (room n : ℕ) : Type 0 where
  pub roomed : n ≤ room
  pub there : n ≤ length xs
  pub few : n ≤ octets_limit

room-same : (room body : ℕ) → body ≤ octets_limit → head_written (min room octets_limit) body ≡ head_written room body
unfolding head_written choose
room-same room body h =
    by-test (ltb room body)
    (λ e. let l = ltb-true room body e in rw (e, lt-ltb (min room octets_limit) body (omega arith)))
    (λ e. let l = ltb-false room body e in rw (e, le-ltb (min room octets_limit) body (omega arith)))

padded-more : (l : List ℕ) (n : ℕ) → n ≤ length (padded l n)
padded-more l n = omega (arith, length-append l (replicate (n - length l) 0), length-replicate {A = ℕ} (n - length l) 0)

written-fits : (l : List ℕ) (room body n : ℕ) → body ≤ octets_limit → head_written room body ≡ Ok n → Fits (padded l body) room n
unfolding head_written choose
written-fits l room body n h e =
    by-test (ltb room body)
    (λ t. let f : (Err NoRoom) ≡ Ok n = rw t at e in clash cc)
    (λ t.
    let f : (Ok body) ≡ Ok n = rw t at e in
    let k : body ≡ n = cc in
    record { roomed = omega (arith, ltb-false room body t); there = omega (arith, padded-more l body); few = omega arith })

module _ (v : List ℕ) (room : ℕ) where
  answer-same : (a : Result MessageHeader Refusal) → header_answer v ≡ a → head_in (min room octets_limit) a ≡ head_in room a
  answer-same (Ok (Called q)) e = let p = (calls-within v q e).parts in room-same room q.body (omega (arith, p.within, p.limit))
  answer-same (Ok (Answered a)) e = let p = (answers-within v a e).parts in room-same room a.body (omega (arith, p.within, p.limit))
  answer-same (Err why) e = refl

  enough-room : head_answer v (min room octets_limit) ≡ head_answer v room
  unfolding head_answer
  enough-room = answer-same (header_answer v) refl

  fits_by : (a : Result MessageHeader Refusal) → header_answer v ≡ a → (n : ℕ) → head_in room a ≡ Ok n → Fits (head_octets v a) room n
  fits_by (Ok (Called q)) e n f = let p = (calls-within v q e).parts in written-fits (header_octets v 0 q.order q.minor) room q.body n (omega (arith, p.within, p.limit)) f
  fits_by (Ok (Answered a)) e n f = let p = (answers-within v a e).parts in written-fits (header_octets v 1 a.order a.minor) room a.body n (omega (arith, p.within, p.limit)) f
  fits_by (Err why) e n f = clash cc

  head-fits : (n : ℕ) → head_answer v room ≡ Ok n → Fits (head_octets v (header_answer v)) room n
  unfolding head_answer
  head-fits n e = fits_by (header_answer v) refl n e

  -- how long the text is
  pub head_few : (a : Result ℕ Refusal) → head_answer v room ≡ a
      → length (reply_text (head_reply a) [] (head_given a (head_octets v (header_answer v)))) ≤ octets_limit * 2 + 68
  unfolding reply_text
  head_few (Ok n) e =
      let xs = take n (head_octets v (header_answer v)) in
      omega (
        arith,
        (head-fits n e).few,
        length-append (head_text (Rewritten n)) (octets_text xs lf),
        head-most (Rewritten n),
        octets-most xs lf,
        length-take n (head_octets v (header_answer v)),
      )
  head_few (Err why) e =
      omega (arith, length-append (head_text (NotGiven (header_refusal_number why))) [], head-most (NotGiven (header_refusal_number why)))

-- the first octets of what is stored
stores-behind : (n : ℕ) (l : List ℕ) (at : ℕ) (ys : List ℕ) → n ≤ at → take n (sets l at ys) ≡ take n l
stores-behind n l at [] h = refl
stores-behind n l at (y ∷ ys) h = stores-behind n (set l at y) (suc at) ys (omega arith) ∙ take-set-le n l at y h

first-stored : (out xs : List ℕ) (n : ℕ) → n ≤ length out → n ≤ length xs → take n (sets out 0 xs) ≡ take n xs
first-stored out xs n h k =
    let l = length-take-le n xs k in
    ap (λ (ys : List ℕ). take n (sets out 0 ys)) (sym (take-append-drop n xs))
    ∙ ap (take n) (sets-append out 0 (take n xs) (drop n xs))
    ∙ stores-behind n (sets out 0 (take n xs)) (0 + length (take n xs)) (drop n xs) (omega (arith, l))
    ∙ take-written out (take n xs) n (sym l) h

-- in lent memory
module _ (v : List ℕ) (room : ℕ) (memory : List ℕ) (m : ℕ) (k : m ≡ min room octets_limit) (h : octets_limit ≤ length memory) where
  abbrev lent : List ℕ
  lent = take m memory

  lent_length : length lent ≡ m
  lent_length = length-take-le m memory (omega arith)

  module _ (a : Result ℕ Refusal) (e : a ≡ head_answer v (length lent)) where
    answered : head_answer v room ≡ a
    answered = sym (e ∙ ap (head_answer v) (lent_length ∙ k) ∙ enough-room v room)

    pub head-refused : (why : Refusal) → a ≡ Err why → (number : ℕ) → number ≡ header_refusal_number why → (xs : List ℕ)
        → header_reply_text (head_asked v room) ≡ reply_text (NotGiven number) [] xs
    unfolding reply_text
    head-refused why g number n xs = rw (answered, g, n)

    module _ (n : ℕ) (g : a ≡ Ok n) (last : List ℕ) (f : last ≡ head_after v lent) where
      fit : Fits (head_octets v (header_answer v)) (length lent) n
      fit = head-fits v (length lent) n (sym e ∙ g)

      last-is : last ≡ sets lent 0 (head_octets v (header_answer v))
      unfolding head_after
      last-is = f ∙ rw (← e, g)

      last-length : length last ≡ length lent
      last-length = ap length last-is ∙ length-sets lent 0 (head_octets v (header_answer v))

      pub head-within : n ≤ length (last ++ drop m memory)
      head-within = rw length-append (omega (arith, last-length, fit.roomed))

      given : take n (last ++ drop m memory) ≡ take n (head_octets v (header_answer v))
      given =
          take-append-le n last (drop m memory) (omega (arith, last-length, fit.roomed))
          ∙ ap (take n) last-is
          ∙ first-stored lent (head_octets v (header_answer v)) n fit.roomed fit.there

      pub head-given : header_reply_text (head_asked v room) ≡ reply_text (Rewritten n) [] (take n (last ++ drop m memory))
      head-given = rw (answered, g) (ap (reply_text (Rewritten n) []) (sym given))
