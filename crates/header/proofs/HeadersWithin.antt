-- A header that was read: its parts are among the message's octets, and its body is behind them.
use Rattle.std.specs.Prelude.{Option, Some, None, Result, Ok, Err}
use mathlib.Core.Path.{◌≡◌, refl, sym, ap, subst, ◌∙◌}
use mathlib.Core.Bool.{Bool, true, false}
use mathlib.Core.List.{List, [], ◌∷◌}
use Prim.Native.Nat.{ℕ, ◌≤◌}
use native.Mathlib.Omega.{arith}
use borrow.Author.Tests.{ltb-false, leb-false, eqb-true, eqb-false}
use lib.Dec.{ltb, leb}
use lib.ListN.{length}
use Rattle.choices.specs.Branch.{choose}
use Rattle.choices.proofs.Choices.{by-test, clash, neither}
use Rattle.cdr.specs.Limit.{octets_limit}
use Rattle.cdr.specs.Align.{aligned, index_of}
use Rattle.cdr.specs.declared.Index.{Index}
use Rattle.cdr.specs.declared.Order.{Order}
use Rattle.cdr.specs.declared.Size.TheVariants.{One, Four}
use Rattle.cdr_text.specs.Text.{run_of}
use Rattle.cdr_text.proofs.TextEnds.{run-facts}
use Rattle.cdr_fields.specs.Encapsulation.{field_of}
use Rattle.cdr_fields.specs.Extents.{counted_at}
use Rattle.cdr_fields.specs.Tagged.{tagged_list_at}
use Rattle.cdr_fields.proofs.FieldsRead.{field-facts}
use Rattle.cdr_fields.proofs.FieldsWithin.{counted-at-facts}
use Rattle.cdr_fields.proofs.TaggedWithin.{tagged-list-inside}
use Rattle.version.specs.Versions.{reserved_octets, body_in_eights}
use Rattle.frame.specs.declared.Header.{Header}
use Rattle.frame.specs.Header.{header_size}
use Rattle.frame.specs.Frames.{message_of}
use Rattle.frame.proofs.Accepts.{message-accepts}
use Rattle.header_layout.specs.declared.HeaderPart.{HeaderPart}
use Rattle.header_layout.specs.declared.HeaderPart.TheVariants.{Contexts, Id, Response, Reserved, Key, Target as Addressed, Operation, Principal, Status}
use Rattle.header_layout.specs.Layout.{is_request, layout_of}
use Rattle.header_parts.specs.declared.Refusal.TheVariants.{TooLong, NoHeader, Ends}
use Rattle.header_parts.specs.Parts.{response_at, status_at, header_text_at, body_place}
use Rattle.header_parts.specs.Targets.{key_target, target_at}
use Rattle.header_parts.proofs.PartFacts.{key-inside, target-inside, text-inside, response-field, status-field}
use Rattle.header.specs.declared.RequestHeader.{RequestHeader}
use Rattle.header.specs.declared.ReplyHeader.{ReplyHeader}
use Rattle.header_reading.specs.Reading.{HeaderFields, no_fields, HeaderUpto, through, stopped, part_read, on_part, parts_read}
use Rattle.header_reading.specs.Reading.{after_field, after_number, after_list, after_counted, after_text, after_target, after_reserved}
use Rattle.header_reading.specs.Reading.{contexts_set, id_set, response_set, target_set, operation_set, principal_set, status_set}
use Rattle.header.specs.Header.{request_said, reply_said, header_said, on_body, header_ended, header_start, header_by, has_no_header, header_in, on_frame}
use Rattle.header.specs.Header.{header_answer}
use Rattle.header.specs.Within.{HeaderParts, RequestWithin, ReplyWithin, CallsWithin, AnswersWithin}
use Rattle.cdr_fields.specs.declared.Extent.{Extent}
use Rattle.cdr_fields.specs.declared.TaggedList.{TaggedList}
use Rattle.frame.specs.declared.Refusal.{Refusal as FrameRefusal}
use Rattle.header.specs.declared.MessageHeader.TheVariants.{Answered, Called}
use Rattle.header.specs.declared.MessageHeader.{MessageHeader}
use Rattle.header_parts.specs.declared.Refusal.{Refusal}
use Rattle.header_parts.specs.declared.TargetAddress.{TargetAddress}

-- a part that was read ends in the octets
module _ (v : List ℕ) (order : Order) (minor : ℕ) (f g : HeaderFields) (i j : Index) where
  in_list : (l : Option (TaggedList × Index)) → tagged_list_at v i order ≡ l → after_list l (contexts_set f) ≡ through g j → j.0 ≤ length v
  in_list (Some (list, next)) q e =
      let b : next ≡ j = cc in
      subst (λ (k : Index). k.0 ≤ length v) b (tagged-list-inside v i order list next q)
  in_list None q e = clash cc

  in_field : (l : Option (ℕ × Index)) → field_of v i Four order ≡ l → after_field l (id_set f) ≡ through g j → j.0 ≤ length v
  in_field (Some (x, next)) q e =
      let b : next ≡ j = cc in
      subst (λ (k : Index). k.0 ≤ length v) b (field-facts v i Four order x next q).fits
  in_field None q e = clash cc

  in-response : (l : Result (ℕ × Index) Refusal) → response_at v i order minor ≡ l → after_number l (response_set f) ≡ through g j → j.0 ≤ length v
  in-response (Ok (x, next)) q e =
      let b : next ≡ j = cc in
      subst (λ (k : Index). k.0 ≤ length v) b (field-facts v i One order x next (response-field v i order minor x next q)).fits
  in-response (Err r) q e = clash cc

  in-status : (l : Result (ℕ × Index) Refusal) → status_at v i order minor ≡ l → after_number l (status_set f) ≡ through g j → j.0 ≤ length v
  in-status (Ok (x, next)) q e =
      let b : next ≡ j = cc in
      subst (λ (k : Index). k.0 ≤ length v) b (field-facts v i Four order x next (status-field v i order minor x next q)).fits
  in-status (Err r) q e = clash cc

  in-reserved : (l : Option ℕ) → run_of v i.0 (reserved_octets minor) ≡ l → after_reserved l f ≡ through g j → j.0 ≤ length v
  in-reserved (Some e) q h =
      let c = run-facts v i.0 (reserved_octets minor) e q in
      let b : index_of e ≡ j = cc in
      subst (λ (k : Index). k.0 ≤ length v) b (omega (arith, c.0, c.1))
  in-reserved None q h = clash cc

  in-key : (l : Result (TargetAddress × Index) Refusal) → key_target v i order ≡ l → after_target l (target_set f) ≡ through g j → j.0 ≤ length v
  in-key (Ok (t, next)) q e =
      let b : next ≡ j = cc in
      subst (λ (k : Index). k.0 ≤ length v) b (key-inside v i order t next q)
  in-key (Err r) q e = clash cc

  in-target : (l : Result (TargetAddress × Index) Refusal) → target_at v i order ≡ l → after_target l (target_set f) ≡ through g j → j.0 ≤ length v
  in-target (Ok (t, next)) q e =
      let b : next ≡ j = cc in
      subst (λ (k : Index). k.0 ≤ length v) b (target-inside v i order t next q)
  in-target (Err r) q e = clash cc

  in-text : (l : Result (Extent × Index) Refusal) → header_text_at v i order ≡ l → after_text l (operation_set f) ≡ through g j → j.0 ≤ length v
  in-text (Ok (part, next)) q e =
      let b : next ≡ j = cc in
      subst (λ (k : Index). k.0 ≤ length v) b (text-inside v i order part next q)
  in-text (Err r) q e = clash cc

  in-counted : (l : Option (Extent × Index)) → counted_at v i order ≡ l → after_counted l (principal_set f) ≡ through g j → j.0 ≤ length v
  in-counted (Some (part, next)) q e =
      let b : next ≡ j = cc in
      subst (λ (k : Index). k.0 ≤ length v) b (counted-at-facts v i order part next q).fits
  in-counted None q e = clash cc

  pub part-inside : (x : HeaderPart) → part_read v order minor x f i ≡ through g j → j.0 ≤ length v
  unfolding part_read
  part-inside Contexts e = in_list (tagged_list_at v i order) refl e
  part-inside Id e = in_field (field_of v i Four order) refl e
  part-inside Response e = in-response (response_at v i order minor) refl e
  part-inside Reserved e = in-reserved (run_of v i.0 (reserved_octets minor)) refl e
  part-inside Key e = in-key (key_target v i order) refl e
  part-inside Addressed e = in-target (target_at v i order) refl e
  part-inside Operation e = in-text (header_text_at v i order) refl e
  part-inside Principal e = in-counted (counted_at v i order) refl e
  part-inside Status e = in-status (status_at v i order minor) refl e

-- parts that were read: the first, then the others
module _ (v : List ℕ) (order : Order) (minor : ℕ) where
  pub record FirstRead (x : HeaderPart) (xs : List HeaderPart) (f : HeaderFields) (i : Index) (g : HeaderFields) (j : Index) : Type 0 where
    pub fields : HeaderFields
    pub next : Index
    pub part : part_read v order minor x f i ≡ through fields next
    pub others : parts_read v order minor xs fields next ≡ through g j

  by_part : (u : HeaderUpto) (x : HeaderPart) (xs : List HeaderPart) (f : HeaderFields) (i : Index) → part_read v order minor x f i ≡ u
      → (g : HeaderFields) (j : Index)
      → on_part u (λ h k. parts_read v order minor xs h k) ≡ through g j → FirstRead x xs f i g j
  by_part (through h k) x xs f i e g j q = record { fields = h; next = k; part = e; others = q }
  by_part (stopped r) x xs f i e g j q = clash cc

  pub first_read : (x : HeaderPart) (xs : List HeaderPart) (f : HeaderFields) (i : Index) (g : HeaderFields) (j : Index)
      → parts_read v order minor (x ∷ xs) f i ≡ through g j → FirstRead x xs f i g j
  unfolding parts_read
  first_read x xs f i g j e = by_part (part_read v order minor x f i) x xs f i refl g j e

  pub none_read : (f : HeaderFields) (i : Index) (g : HeaderFields) (j : Index) → parts_read v order minor [] f i ≡ through g j → (f ≡ g) × (i ≡ j)
  unfolding parts_read
  none_read f i g j e = (cc, cc)

  pub parts-inside : (xs : List HeaderPart) (f : HeaderFields) (i : Index) (g : HeaderFields) (j : Index) → i.0 ≤ length v
      → parts_read v order minor xs f i ≡ through g j → j.0 ≤ length v
  parts-inside [] f i g j h e = subst (λ (k : Index). k.0 ≤ length v) (none_read f i g j e).1 h
  parts-inside (x ∷ xs) f i g j h e =
      let r = first_read x xs f i g j e in
      parts-inside xs r.fields r.next g j (part-inside v order minor f r.fields i r.next x r.part) r.others

-- the body is behind the header, and in the message
module _ (length end minor : ℕ) where
  pub body-inside : (body : ℕ) → end ≤ length → body_place length end minor ≡ Ok body → (end ≤ body) × (body ≤ length)
  unfolding body_place
  body-inside body h e =
      by-test (leb length end) (λ t. let q : (Ok length) ≡ Ok body = rw t at e in let a : length ≡ body = cc in (omega arith, omega arith)) (λ t.
      let l = leb-false length end t in
      by-test (body_in_eights minor)
      (λ b.
      by-test (ltb length (aligned end 8)) (λ s. let q : (Err Ends) ≡ Ok body = rw (t, b, s) at e in clash cc) (λ s.
      let q : (Ok (aligned end 8)) ≡ Ok body = rw (t, b, s) at e in
      let a : aligned end 8 ≡ body = cc in
      let m = ltb-false length (aligned end 8) s in
      (omega arith, omega arith)))
      (λ b. let q : (Ok end) ≡ Ok body = rw (t, b) at e in let a : end ≡ body = cc in (omega arith, omega arith)))

-- the stages of an answer
module _ (v : List ℕ) where
  record Ended (request : Bool) (order : Order) (minor : ℕ) (parts : List HeaderPart) (a : Result MessageHeader Refusal) : Type 0 where
    fields : HeaderFields
    end : Index
    body : ℕ
    reads : parts_read v order minor parts no_fields header_start ≡ through fields end
    place : body_place (length v) end.0 minor ≡ Ok body
    said : header_said request order minor fields body ≡ a

  abbrev IsRead : Result MessageHeader Refusal → Type 0
  IsRead (Ok (Called q)) = Unit {0}
  IsRead (Ok (Answered a)) = Unit {0}
  IsRead (Err r) = ⊥

  by-body : (request : Bool) (order : Order) (minor : ℕ) (parts : List HeaderPart) (f : HeaderFields) (i : Index)
      → parts_read v order minor parts no_fields header_start ≡ through f i → (b : Result ℕ Refusal) → body_place (length v) i.0 minor ≡ b
      → (a : Result MessageHeader Refusal) → IsRead a → on_body b (λ body. header_said request order minor f body) ≡ a → Ended request order minor parts a
  by-body request order minor parts f i r (Ok body) p a y e = record { fields = f; end = i; body = body; reads = r; place = p; said = e }
  by-body request order minor parts f i r (Err n) p a y e = absurd (subst IsRead (sym e) y)

  by-upto : (request : Bool) (order : Order) (minor : ℕ) (parts : List HeaderPart) (u : HeaderUpto) → parts_read v order minor parts no_fields header_start ≡ u
      → (a : Result MessageHeader Refusal) → IsRead a → header_ended v request order minor u ≡ a → Ended request order minor parts a
  by-upto request order minor parts (through f i) r a y e = by-body request order minor parts f i r (body_place (length v) i.0 minor) refl a y e
  by-upto request order minor parts (stopped n) r a y e = absurd (subst IsRead (sym e) y)

  record Stages (a : Result MessageHeader Refusal) : Type 0 where
    limit : length v ≤ octets_limit
    frame : Header
    accepted : message_of v ≡ Ok frame
    kind : frame.kind ≤ 1
    ended : Ended (is_request frame.kind) frame.order frame.minor (layout_of frame.kind frame.minor) a

  in-frame : length v ≤ octets_limit → (h : Header) → message_of v ≡ Ok h → (a : Result MessageHeader Refusal) → IsRead a → header_in v h ≡ a → Stages a
  unfolding header_in header_by
  in-frame l h m a y e =
      by-test (has_no_header h) (λ t. let q : (Err NoHeader) ≡ a = rw t at e in absurd (subst IsRead (sym q) y)) (λ t.
      let k = neither h.more (ltb 1 h.kind) t in
      let q : header_ended v (is_request h.kind) h.order h.minor (parts_read v h.order h.minor
      (layout_of h.kind h.minor) no_fields header_start) ≡ a = rw t at e in
      record {
        limit = l;
        frame = h;
        accepted = m;
        kind = ltb-false 1 h.kind k.1;
        ended = by-upto (is_request h.kind) h.order h.minor (layout_of h.kind h.minor) _ refl a y q;
      })

  by-frame : length v ≤ octets_limit → (f : Result Header FrameRefusal) → message_of v ≡ f → (a : Result MessageHeader Refusal) → IsRead a → on_frame f (λ h. header_in v h) ≡ a → Stages a
  by-frame l (Ok h) m a y e = in-frame l h m a y e
  by-frame l (Err row) m a y e = absurd (subst IsRead (sym e) y)

  stages : (a : Result MessageHeader Refusal) → IsRead a → header_answer v ≡ a → Stages a
  unfolding header_answer choose
  stages a y e =
      by-test (ltb octets_limit (length v)) (λ t. let q : (Err TooLong) ≡ a = rw t at e in absurd (subst IsRead (sym q) y))
      (λ t. by-frame (ltb-false octets_limit (length v) t) (message_of v) refl a y (rw t at e))

  parts-of : (a : Result MessageHeader Refusal) (s : Stages a) (kind : ℕ) → s.frame.kind ≡ kind → HeaderParts v kind s.frame.order s.frame.minor s.ended.body
  parts-of a s kind k =
      let h = s.frame in
      let d = s.ended in
      let m = message-accepts v h s.accepted in
      let b : header_size ≤ length v = omega (arith, m.octets) in
      let i = parts-inside v h.order h.minor (layout_of h.kind h.minor) no_fields header_start d.fields d.end b d.reads in
      let p = body-inside (length v) d.end.0 h.minor d.body i d.place in
      record {
        limit = s.limit;
        frame = h;
        accepted = s.accepted;
        kinds = k;
        orders = refl;
        minors = refl;
        fields = d.fields;
        end = d.end;
        reads = ap (λ (x : ℕ). parts_read v h.order h.minor (layout_of x h.minor) no_fields header_start) (sym k) ∙ d.reads;
        place = d.place;
        behind = p.0;
        within = p.1;
        empty = λ q. omega (arith, q, p.0, p.1);
        begins = b;
      }

  called-by : (q : RequestHeader) (s : Stages (Ok (Called q))) (b : Bool) → is_request s.frame.kind ≡ b
      → header_said b s.frame.order s.frame.minor s.ended.fields s.ended.body ≡ Ok (Called q) → RequestWithin v q
  unfolding parts-of
  called-by q s true k e =
      let r : request_said s.frame.order s.frame.minor s.ended.fields s.ended.body ≡ q = cc in
      subst (RequestWithin v) r (record { parts = parts-of (Ok (Called q)) s 0 (eqb-true s.frame.kind 0 k); said = refl })
  called-by q s false k e = clash cc

  answered-by : (a : ReplyHeader) (s : Stages (Ok (Answered a))) (b : Bool) → is_request s.frame.kind ≡ b
      → header_said b s.frame.order s.frame.minor s.ended.fields s.ended.body ≡ Ok (Answered a) → ReplyWithin v a
  unfolding parts-of
  answered-by a s true k e = clash cc
  answered-by a s false k e =
      let r : reply_said s.frame.order s.frame.minor s.ended.fields s.ended.body ≡ a = cc in
      let one : s.frame.kind ≡ 1 = omega (arith, s.kind, eqb-false s.frame.kind 0 k) in
      subst (ReplyWithin v) r (record { parts = parts-of (Ok (Answered a)) s 1 one; said = refl })

pub calls-within : CallsWithin
calls-within v q e =
    let s = stages v (Ok (Called q)) tt e in
    called-by v q s (is_request s.frame.kind) refl s.ended.said

pub answers-within : AnswersWithin
answers-within v a e =
    let s = stages v (Ok (Answered a)) tt e in
    answered-by v a s (is_request s.frame.kind) refl s.ended.said
