-- The frame, the parts and the gap before the body, one after the other: all before the body.
use Rattle.std.specs.Prelude.{Option, Result, Ok, Err}
use mathlib.Core.Path.{◌≡◌, refl, sym, ap, subst, ◌∙◌}
use mathlib.Core.List.{List, ◌++◌}
use Prim.Native.Nat.{ℕ, ◌+◌, ◌-◌, ◌≤◌, ◌<◌}
use native.Mathlib.Omega.{arith}
use borrow.Author.Tests.{ltb-true, ltb-false}
use lib.Dec.{ltb}
use Rattle.choices.proofs.Choices.{by-test}
use lib.ListN.{length, replicate, length-append, length-replicate}
use lib.Seq.{sets, length-take-le}
use Rattle.choices.specs.Branch.{choose}
use Rattle.cdr.specs.declared.Index.{Index}
use Rattle.cdr.specs.declared.Order.{Order}
use Rattle.cdr_fields.specs.Encapsulation.{start}
use Rattle.cdr_fields.specs.Extents.{extent, extent_octets}
use Rattle.cdr_write.specs.Pieces.{Piece, target}
use Rattle.cdr_write.specs.Write.{Stored}
use Rattle.cdr_pieces.specs.PartPieces.{octets_from, Holds}
use Rattle.cdr_pieces.proofs.OctetsWritten.{writes-from, stored-holds, holds-append}
use Rattle.frame.specs.Header.{header_size}
use Rattle.header_layout.specs.Layout.{layout_of}
use Rattle.header_parts.specs.declared.Refusal.{Refusal}
use Rattle.header_parts.specs.declared.Refusal.TheVariants.{NoRoom}
use Rattle.header.specs.declared.RequestHeader.{RequestHeader}
use Rattle.header.specs.declared.ReplyHeader.{ReplyHeader}
use Rattle.header_reading.specs.Reading.{HeaderFields, no_fields, through, parts_read}
use Rattle.header.specs.Header.{header_start, header_answer}
use Rattle.header.specs.Within.{HeaderParts}
use Rattle.header.proofs.HeadersWithin.{calls-within, answers-within}
use Rattle.header_head.specs.HeadPieces.{head_pieces}
use Rattle.header_head.specs.Head.{frame_octets, header_octets, padded, head_octets, head_written, head_in, head_answer, head_held, head_after}
use Rattle.header_head.specs.Inner.{CopiesParts, WritesHead}
use Rattle.header.specs.declared.MessageHeader.TheVariants.{Answered, Called}
use Rattle.header.specs.declared.MessageHeader.{MessageHeader}

-- the frame's octets are an extent
pub frame-there : (v : List ℕ) → extent_octets v (extent start header_size) ≡ frame_octets v
unfolding extent_octets
frame-there v = refl

module _ (v : List ℕ) (kind : ℕ) (order : Order) (minor body : ℕ) (out : List ℕ) where
  pub head-short : length out < body → WritesHead v kind order minor body out (Err NoRoom) out
  head-short h = record { short = λ l. (refl, refl); written = λ room. absurd (omega (arith, h, room)) }

  -- what the three writers leave
  pub head-written : body ≤ length out → (these : List ℕ) → these ≡ frame_octets v → (w : Option ℕ) (one : List ℕ) → Stored out 0 these w one
      → (end : ℕ) (two : List ℕ)
      → CopiesParts v order header_size one end two kind minor → (last : List ℕ) → Holds two end (replicate (body - end) 0) last
      → WritesHead v kind order minor body out (Ok body) last
  unfolding header_octets
  head-written room these t w one s end two copies last zeros = record {
    short = λ l. absurd (omega (arith, l, room));
    written = λ _ begins f next reads behind. (refl, filled begins f next reads behind);
  }
    where
      filled : header_size ≤ length v → (f : HeaderFields) (next : Index) → parts_read v order minor (layout_of kind minor) no_fields header_start ≡ through f next
          → next.0 ≤ body → last ≡ sets out 0 (padded (header_octets v kind order minor) body)
      filled begins f next reads behind =
          let to = target order start in
          let c = copies no_fields f next reads in
          let ps : List Piece = head_pieces v order minor (layout_of kind minor) no_fields header_start in
          let xs : List ℕ = octets_from to header_size ps in
          let l : length (frame_octets v) ≡ header_size = length-take-le header_size v begins in
          let first = subst (λ (x : List ℕ). Holds out 0 x one) t (stored-holds out 0 these w one s) in
          let at : header_size ≡ 0 + length (frame_octets v) = omega (arith, l) in
          let both = holds-append out 0 (frame_octets v) one first xs two (subst (λ (k : ℕ). Holds one k xs two) at c.fills) in
          let all = length-append (frame_octets v) xs in
          let reached : end ≡ 0 + length (frame_octets v ++ xs) = omega (arith, c.ends, c.reach, all, l) in
          let three = holds-append out 0 (frame_octets v ++ xs) two both (replicate (body - end) 0) last (subst
          (λ (k : ℕ). Holds two k (replicate (body - end) 0) last) reached zeros) in
          let z = length-replicate {A = ℕ} (body - end) 0 in
          let whole = length-append (frame_octets v ++ xs) (replicate (body - end) 0) in
          let fits : 0 + length ((frame_octets v ++ xs) ++ replicate (body - end) 0) ≤ length out = omega (arith, whole, z, reached, c.ends, behind, room) in
          let header : header_octets v kind order minor ≡ frame_octets v ++ xs =
          writes-from to (frame_octets v) ps ∙ ap (λ (k : ℕ). frame_octets v ++ octets_from to k ps) l in
          let n : end ≡ length (header_octets v kind order minor) = omega (arith, reached, ap length header) in
          three.holds fits
          ∙ ap (λ (x : List ℕ). sets out 0 (x ++ replicate (body - end) 0)) (sym header)
          ∙ ap (λ (k : ℕ). sets out 0 (header_octets v kind order minor ++ replicate (body - k) 0)) n

-- the answers
module _ (v : List ℕ) where
  pub answer-is : (n : ℕ) (a : Result MessageHeader Refusal) → header_answer v ≡ a → head_answer v n ≡ head_in n a
  unfolding head_answer
  answer-is n a e = ap (head_in n) e

  pub after_is : (out : List ℕ) (a : Result MessageHeader Refusal) → header_answer v ≡ a → (r : Result ℕ Refusal) → head_answer v (length out) ≡ r
      → head_after v out ≡ head_held r (head_octets v a) out
  unfolding head_after
  after_is out a e r q = ap (λ (x : Result ℕ Refusal). head_held x (head_octets v (header_answer v)) out) q
      ∙ ap (λ (x : Result MessageHeader Refusal). head_held r (head_octets v x) out) e

  pub refused-head : (out : List ℕ) (n : Refusal) → header_answer v ≡ Err n → (Err n ≡ head_answer v (length out)) × (out ≡ head_after v out)
  refused-head out n e =
      let q = answer-is (length out) (Err n) e in
      (sym q, sym (after_is out (Err n) e (Err n) q))

module _ (v out : List ℕ) (r : Result ℕ Refusal) (last : List ℕ) where
  abbrev Heads : Type 0
  Heads = (r ≡ head_answer v (length out)) × (last ≡ head_after v out)

  by-room : (kind : ℕ) (order : Order) (minor body : ℕ) (a : Result MessageHeader Refusal) → header_answer v ≡ a → head_in (length out) a ≡ head_written (length out) body
      → head_octets v a ≡ padded (header_octets v kind order minor) body → HeaderParts v kind order minor body → WritesHead v kind order minor body out r last
      → Heads
  unfolding head_written choose
  by-room kind order minor body a e i o p w =
      by-test (ltb (length out) body)
      (λ t.
      let s = w.short (ltb-true (length out) body t) in
      let q : head_answer v (length out) ≡ Err NoRoom = answer-is v (length out) a e ∙ i ∙ rw t in
      (s.0 ∙ sym q, s.1 ∙ sym (after_is v out a e (Err NoRoom) q)))
      (λ t.
      let s = w.written (ltb-false (length out) body t) p.begins p.fields p.end p.reads p.behind in
      let q : head_answer v (length out) ≡ Ok body = answer-is v (length out) a e ∙ i ∙ rw t in
      (s.0 ∙ sym q, s.1 ∙ ap (sets out 0) (sym o) ∙ sym (after_is v out a e (Ok body) q)))

  pub called-head : (q : RequestHeader) → header_answer v ≡ Ok (Called q) → WritesHead v 0 q.order q.minor q.body out r last → Heads
  called-head q e w = by-room 0 q.order q.minor q.body (Ok (Called q)) e refl refl (calls-within v q e).parts w

  pub answered-head : (a : ReplyHeader) → header_answer v ≡ Ok (Answered a) → WritesHead v 1 a.order a.minor a.body out r last → Heads
  answered-head a e w = by-room 1 a.order a.minor a.body (Ok (Answered a)) e refl refl (answers-within v a e).parts w
