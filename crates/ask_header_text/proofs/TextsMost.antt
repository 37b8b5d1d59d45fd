-- How long the text of a header is: a message of at most 16,384 octets has fewer in each part.
use Rattle.std.specs.Prelude.{Result, Ok, Err}
use mathlib.Core.Path.{◌≡◌}
use mathlib.Core.List.{List, [], ◌∷◌, ◌++◌}
use Prim.Native.Nat.{ℕ, ◌+◌, ◌*◌, ◌≤◌}
use native.Mathlib.Omega.{arith}
use lib.Dec.{ltb}
use lib.ListN.{length, take, replicate, length-append, length-replicate}
use borrow.Author.Tests.{ltb-false}
use Rattle.choices.proofs.Choices.{by-test}
use Rattle.choices.specs.Branch.{choose}
use Rattle.cdr.specs.Limit.{octets_limit}
use Rattle.cdr_fields.specs.declared.Extent.{Extent}
use Rattle.cdr_fields.specs.Extents.{extent_octets}
use Rattle.decimals.proofs.CharactersPut.{number-most, put-taken}
use Rattle.header_parts.specs.declared.Refusal.{Refusal}
use Rattle.header_parts.specs.declared.Refusal.TheVariants.{TooLong}
use Rattle.header_parts.specs.declared.TargetAddress.{TargetAddress}
use Rattle.header_parts.specs.declared.TargetAddress.TheVariants.{Key, Profile, Reference}
use Rattle.header_parts.specs.Parts.{header_refusal_number}
use Rattle.header.specs.declared.RequestHeader.{RequestHeader}
use Rattle.header.specs.declared.ReplyHeader.{ReplyHeader}
use Rattle.header.specs.Header.{header_answer}
use Rattle.ask_text.specs.Items.{colon, lf}
use Rattle.ask_text.specs.Replies.{space}
use Rattle.ask_text.proofs.OctetsPut.{octets-most}
use Rattle.ask_text.proofs.TextsFit.{part-most}
use Rattle.ask_header_text.specs.Inner.{Puts}
use Rattle.ask_header_text.specs.Texts.{number_text, part_text, target_text, request_text, reply_header_text, refusal_text, header_answer_text}
use Rattle.header.specs.declared.MessageHeader.TheVariants.{Answered, Called}
use Rattle.header.specs.declared.MessageHeader.{MessageHeader}

abbrev pub header_most : ℕ
header_most = octets_limit * 6 + 174

record Few (xs : List ℕ) (n : ℕ) : Type 0 where
  pub most : length xs ≤ n

both : {xs ys : List ℕ} {m n : ℕ} → Few xs m → Few ys n → Few (xs ++ ys) (m + n)
both {xs} {ys} h k = record { most = omega (arith, length-append xs ys, h.most, k.most) }

number-few : (x c : ℕ) → Few (number_text x c) 21
number-few x c = record { most = number-most x (c ∷ []) }

part-few : (part : Extent) (c : ℕ) (v : List ℕ) → Few (part_text part c v) (length v * 2 + 2)
part-few part c v = record { most = omega (arith, octets-most (extent_octets v part) c, part-most v part) }

target-few : (t : TargetAddress) (v : List ℕ) → Few (target_text t v) (length v * 2 + 54)
target-few (Key octets) v = record { most = omega (arith, (part-few octets space v).most) }
target-few (Profile tag octets) v = record { most = omega (arith, (both (number-few tag colon) (part-few octets space v)).most) }
target-few (Reference index id profiles) v =
    record { most = omega (arith, (both (number-few index colon) (both (part-few id colon v) (number-few profiles.count space))).most) }

request-few : (q : RequestHeader) (v : List ℕ) → length (request_text q v) ≤ length v * 6 + 174
unfolding request_text
request-few q v =
    let all =
    both (number-few q.minor space)
    (both (number-few q.id space)
    (both (number-few q.response space)
    (both (target-few q.target v)
    (both (part-few q.operation space v)
    (both (part-few q.principal space v)
    (both (number-few q.contexts.count space) (number-few q.body lf)))))))
    in
    omega (arith, all.most)

reply-few : (a : ReplyHeader) → length (reply_header_text a) ≤ 114
unfolding reply_header_text
reply-few a =
    let all =
    both (number-few a.minor space)
    (both (number-few a.id space)
    (both (number-few a.status space)
    (both (number-few a.contexts.count space) (number-few a.body lf))))
    in
    omega (arith, all.most)

refusal-few : (why : Refusal) → length (refusal_text why) ≤ 24
unfolding refusal_text
refusal-few why = omega (arith, (number-few (header_refusal_number why) lf).most)

answer-few : (a : Result MessageHeader Refusal) (v : List ℕ) → length v ≤ octets_limit → length (header_answer_text a v) ≤ header_most
answer-few (Ok (Called q)) v h = omega (arith, request-few q v)
answer-few (Ok (Answered a)) v h = omega (arith, reply-few a)
answer-few (Err why) v h = omega (arith, refusal-few why)

-- a message of more octets is refused
pub header-few : (v : List ℕ) → length (header_answer_text (header_answer v) v) ≤ header_most
unfolding header_answer choose
header-few v =
    by-test (ltb octets_limit (length v))
    (λ e. rw e (omega (arith, refusal-few TooLong)))
    (λ e. answer-few (header_answer v) v (ltb-false octets_limit (length v) e))

-- so that it fits the memory that it is put into
pub memory-length : length {A = ℕ} (replicate header_most 0) ≡ header_most
memory-length = length-replicate {A = ℕ} header_most 0

module _ (v : List ℕ) (text : List ℕ) (end : ℕ) (last : List ℕ) (p : Puts text 0 (header_answer_text (header_answer v) v) end last) where
  module _ (l : length text ≡ header_most) where
    fits : 0 + length (header_answer_text (header_answer v) v) ≤ length text
    fits = omega (arith, header-few v)

    pub text-taken : take end last ≡ header_answer_text (header_answer v) v
    text-taken = let a = p.put fits in put-taken a (omega (arith, a.end, fits))

    pub text-end : length last ≡ length text → end ≤ length last
    text-end k = let a = p.put fits in omega (arith, a.end, fits)
