-- A message with what was written back before its body: its header is read again, and written back again it is the same octets.
use Rattle.std.specs.Prelude.{Ok, Err}
use mathlib.Core.Path.{◌≡◌, sym, ap, subst, ◌∙◌}
use mathlib.Core.Bool.{Bool, cond}
use mathlib.Core.List.{List, ◌++◌, append_assoc}
use Prim.Native.Nat.{ℕ, ◌-◌}
use native.Mathlib.Omega.{arith}
use lib.ListN.{length, take, drop, replicate, length-append, length-drop, length-replicate, take-append-drop}
use lib.Seq.{length-take-le, take_at}
use Rattle.cdr.specs.declared.Index.{Index}
use Rattle.cdr.specs.declared.Order.{Order}
use Rattle.cdr.specs.Number.{Octets}
use Rattle.cdr_fields.specs.Encapsulation.{start}
use Rattle.cdr_write.specs.Pieces.{Piece, target, writes}
use Rattle.cdr_pieces.specs.PartPieces.{octets_from}
use Rattle.cdr_pieces.proofs.OctetsWritten.{writes-from}
use Rattle.frame.specs.Header.{header_size, header_of}
use Rattle.frame.proofs.Accepts.{message-accepts}
use Rattle.header_layout.specs.declared.HeaderPart.{HeaderPart}
use Rattle.header_layout.specs.Layout.{is_request, layout_of}
use Rattle.header_parts.specs.declared.Refusal.TheVariants.{NoHeader}
use Rattle.header_parts.specs.Parts.{body_place}
use Rattle.header.specs.declared.RequestHeader.{RequestHeader}
use Rattle.header.specs.declared.ReplyHeader.{ReplyHeader}
use Rattle.header_reading.specs.Reading.{HeaderFields, no_fields, through, parts_read}
use Rattle.header.specs.Header.{header_said, on_body, header_ended, header_start, header_by, has_no_header, header_in, header_answer}
use Rattle.header.specs.Within.{HeaderParts}
use Rattle.header.proofs.HeadersWithin.{calls-within, answers-within}
use Rattle.header_head.specs.HeadPieces.{head_pieces}
use Rattle.header_head.specs.Head.{frame_octets, header_octets, padded, head_octets}
use Rattle.header_laws.specs.Written.{rewritten_message, SameParts, ReadsAgain, WrittenAgain}
use Rattle.header_laws.proofs.StandsBehind.{Stands}
use Rattle.header_laws.proofs.FieldsAgain.{Told}
use Rattle.header_laws.proofs.PartsAgain.{SameFields, none-same, parts_again}
use Rattle.header_laws.proofs.FrameAgain.{same-frame, SameFrame, message-again, header-alike, answer-in}
use Rattle.header.specs.declared.MessageHeader.TheVariants.{Answered, Called}

-- the same parts in messages of one length give the same header
by_alike : (v w : List ℕ) → length w ≡ length v → (request : Bool) (order : Order) (minor : ℕ) (parts : List HeaderPart) (f : HeaderFields) (i : Index)
    → parts_read v order minor parts no_fields header_start ≡ through f i → parts_read w order minor parts no_fields header_start ≡ through f i
    → header_by w request order minor parts ≡ header_by v request order minor parts
unfolding header_by
by_alike v w n request order minor parts f i d e =
    ap (header_ended w request order minor) e
    ∙ ap (λ (k : ℕ). on_body (body_place k i.0 minor) (λ (body : ℕ). header_said request order minor f body)) n
    ∙ sym (ap (header_ended v request order minor) d)

module _ (v : List ℕ) (small : Octets v) (kind : ℕ) (order : Order) (minor body : ℕ) (p : HeaderParts v kind order minor body) where
  abbrev frame : List ℕ
  frame = frame_octets v

  abbrev layout : List HeaderPart
  layout = layout_of kind minor

  abbrev pieces_in : List ℕ → List Piece
  pieces_in x = head_pieces x order minor layout no_fields header_start

  abbrev parts : List ℕ
  parts = octets_from (target order start) header_size (pieces_in v)

  abbrev head : List ℕ
  head = padded (header_octets v kind order minor) body

  abbrev again : List ℕ
  again = head ++ drop body v

  -- behind the parts: the gap before the body, and the body
  abbrev behind : List ℕ
  behind = replicate (body - length (header_octets v kind order minor)) 0 ++ drop body v

  frame-length : length frame ≡ header_size
  frame-length = length-take-le header_size v p.begins

  header_is : header_octets v kind order minor ≡ frame ++ parts
  unfolding header_octets
  header_is =
      writes-from (target order start) frame (pieces_in v) ∙ ap (λ (k : ℕ). frame ++ octets_from (target order start) k (pieces_in v)) frame-length

  again-is : again ≡ frame ++ (parts ++ behind)
  again-is =
      append_assoc (header_octets v kind order minor) (replicate (body - length (header_octets v kind order minor)) 0) (drop body v)
      ∙ ap (λ (x : List ℕ). x ++ behind) header_is
      ∙ append_assoc frame parts behind

  stands : Stands order again header_size (pieces_in v)
  stands = record { before = frame; more = behind; index = frame-length; all = again-is }

  parts-told : Told (parts_read again order minor layout no_fields header_start) (through p.fields p.end) (pieces_in again) (pieces_in v)
      (SameFields v again order no_fields → SameFields v again order p.fields)
  parts-told = (parts_again v small order again minor layout no_fields header_start p.fields p.end p.reads).told stands

  head-length : length head ≡ body
  head-length =
      let reach = (parts_again v small order again minor layout no_fields header_start p.fields p.end p.reads).reach in
      let h = ap length header_is ∙ length-append frame parts in
      let n : ℕ = length (header_octets v kind order minor) in
      let zeros : List ℕ = replicate (body - n) 0 in
      let a = length-append (header_octets v kind order minor) zeros in
      let z = length-replicate {A = ℕ} (body - n) 0 in
      omega (arith, reach, h, a, z, frame-length, p.behind)

  whole_length : length again ≡ length v
  whole_length = omega (arith, length-append head (drop body v), head-length, length-drop body v, p.within)

  frame-again : SameFrame v again
  frame-again =
      subst (λ (x : List ℕ). SameFrame x again) (take-append-drop header_size v)
      (subst (SameFrame (frame ++ drop header_size v)) (sym again-is) (same-frame frame frame-length (drop header_size v) (parts ++ behind)))

  same-header : header_in again p.frame ≡ header_in v p.frame
  unfolding header_in
  same-header =
      ap (cond (has_no_header p.frame) (Err NoHeader))
      (rw (p.kinds, p.orders, p.minors)
      (by_alike v again whole_length (is_request kind) order minor layout p.fields p.end p.reads parts-told.reads))

  same_answer : header_answer again ≡ header_answer v
  same_answer =
      let says = (message-accepts v p.frame p.accepted).says in
      answer-in again (omega (arith, whole_length, p.limit)) (header_of again) (message-again v again frame-again whole_length p.frame p.accepted)
      ∙ header-alike v again frame-again whole_length
      ∙ ap (header_in again) (sym says)
      ∙ same-header
      ∙ sym (answer-in v p.limit p.frame p.accepted)

  same-octets : padded (header_octets again kind order minor) body ≡ head
  unfolding header_octets
  same-octets =
      let framed : frame_octets again ≡ frame = ap (take header_size) again-is ∙ take_at frame (parts ++ behind) header_size frame-length in
      ap (λ (x : List ℕ). padded x body)
      (ap (λ (x : List ℕ). writes (target order start) x (pieces_in again)) framed ∙ ap (writes (target order start) frame) parts-told.pieces)

  -- all of it, for a request and a reply alike
  pub record HeadAgain : Type 0 where
    pub size : length head ≡ body
    pub whole : length again ≡ length v
    pub answer : header_answer again ≡ header_answer v
    pub pieces : pieces_in again ≡ pieces_in v
    pub fields : SameFields v again order p.fields
    pub octets : padded (header_octets again kind order minor) body ≡ head

  pub head-again : HeadAgain
  head-again = record {
    size = head-length;
    whole = whole_length;
    answer = same_answer;
    pieces = parts-told.pieces;
    fields = parts-told.same (none-same v again order);
    octets = same-octets;
  }

pub reads-again : ReadsAgain
reads-again v small (Ok (Called q)) h e =
    let r = calls-within v q e in
    let g = head-again v small 0 q.order q.minor q.body r.parts in
    record {
      size = g.size;
      whole = g.whole;
      answer = g.answer ∙ e;
      parts = subst (λ (x : RequestHeader). SameParts v (rewritten_message v (Ok (Called q))) (Ok (Called x))) r.said g.fields;
    }
reads-again v small (Ok (Answered a)) h e =
    let r = answers-within v a e in
    let g = head-again v small 1 a.order a.minor a.body r.parts in
    record {
      size = g.size;
      whole = g.whole;
      answer = g.answer ∙ e;
      parts = subst (λ (x : ReplyHeader). SameParts v (rewritten_message v (Ok (Answered a))) (Ok (Answered x))) r.said g.fields.contexts;
    }
reads-again v small (Err r) h e = absurd h

pub written-again : WrittenAgain
written-again v small (Ok (Called q)) h e =
    let g = head-again v small 0 q.order q.minor q.body (calls-within v q e).parts in
    ap (head_octets (rewritten_message v (Ok (Called q)))) (g.answer ∙ e) ∙ g.octets
written-again v small (Ok (Answered a)) h e =
    let g = head-again v small 1 a.order a.minor a.body (answers-within v a e).parts in
    ap (head_octets (rewritten_message v (Ok (Answered a)))) (g.answer ∙ e) ∙ g.octets
written-again v small (Err r) h e = absurd h
