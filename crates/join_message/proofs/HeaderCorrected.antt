-- The joined message in the output: parts stored one behind the other, and the header corrected where it stands.
use Rattle.std.specs.Prelude.{Option, Some, Ok, Err}
use mathlib.Core.Path.{◌≡◌, refl, sym, ap, ◌∙◌}
use mathlib.Core.List.{List, [], ◌∷◌, ◌++◌}
use Prim.Native.Nat.{ℕ, suc, ◌+◌, ◌-◌, ◌≤◌, ◌<◌}
use native.Mathlib.Nat.{zero-add}
use native.Mathlib.Omega.{arith}
use borrow.Author.Tests.{lt-ltb, le-ltb}
use lib.ListN.{length, drop, set, length-append, length-set, get_or-append}
use lib.Seq.{sets, sets-eq, length-sets, set-append_left}
use Rattle.cdr.specs.declared.Order.{Order}
use Rattle.cdr.specs.Number.{octets_of}
use Rattle.cdr_write.specs.Write.{Stored}
use Rattle.cdr_write.proofs.BufferHolds.{stored-upto, stored-fits, sets-append}
use Rattle.cdr.proofs.NumbersGivenBack.{octets-length}
use Rattle.frame.specs.Header.{flags_offset, size_offset, header_size, flags_at, order_at, order_flag}
use Rattle.join_message.specs.Written.{assembled_of, Assembles}
use Rattle.join_message.specs.Message.{more_cleared, corrected}
use Rattle.join_message.specs.declared.Unassembled.TheVariants.{NoHeader, NoRoom}

-- a run of stores in the first of two lists leaves the second
pub sets-front : (xs l r : List ℕ) (i : ℕ) → i + length xs ≤ length l → sets (l ++ r) i xs ≡ sets l i xs ++ r
sets-front [] l r i h = refl
sets-front (x ∷ xs) l r i h =
    let e = length-set l i x in
    ap (λ (m : List ℕ). sets m (suc i) xs) (set-append_left l r i x (omega arith)) ∙ sets-front xs (set l i x) r (suc i) (omega arith)

-- stores from the start of a list
pub sets-start : (m out : List ℕ) → length m ≤ length out → sets out 0 m ≡ m ++ drop (length m) out
sets-start m out h = sets-eq m out 0 (omega arith) ∙ ap (λ (k : ℕ). m ++ drop k out) (zero-add (length m))

pub corrected-length : (m : List ℕ) → length (corrected m) ≡ length m
unfolding corrected
corrected-length m =
    length-sets (set m flags_offset (more_cleared (flags_at m))) size_offset (octets_of (order_at m) 4 (length m - header_size))
    ∙ length-set m flags_offset (more_cleared (flags_at m))

-- the header of a message that stands at the start of the output, corrected
pub corrects : (m rest : List ℕ) → header_size ≤ length m
    → sets (set (m ++ rest) flags_offset (more_cleared (flags_at (m ++ rest)))) size_offset (octets_of (order_at (m ++ rest)) 4 (length m - header_size))
    ≡ corrected m ++ rest
unfolding corrected
corrects m rest h =
    let f : flags_at (m ++ rest) ≡ flags_at m = get_or-append m rest 0 6 (omega arith) in
    let c = more_cleared (flags_at m) in
    let n = octets_of (order_at m) 4 (length m - header_size) in
    let l : length n ≡ 4 = octets-length (order_at m) 4 (length m - header_size) in
    let k = length-set m flags_offset c in
    ap
    (λ (x : ℕ). sets (set (m ++ rest) flags_offset (more_cleared x)) size_offset (octets_of (order_flag x) 4 (length m - header_size))) f
    ∙ ap (λ (o : List ℕ). sets o size_offset n) (set-append_left m rest flags_offset c (omega arith))
    ∙ sets-front n (set m flags_offset c) rest size_offset (omega arith)

-- the header at the start of the output, as it is stored
pub header-stored : (out : List ℕ) (total c : ℕ) (order : Order) (w : Option ℕ) (last : List ℕ) → header_size ≤ total → total ≤ length out
    → c ≡ more_cleared (flags_at out) → order ≡ order_at out → Stored (set out flags_offset c) size_offset (octets_of order 4 (total - header_size)) w last
    → last ≡ sets (set out flags_offset (more_cleared (flags_at out))) size_offset (octets_of (order_at out) 4 (total - header_size))
header-stored out total c order w last h k e f s =
    let l : length (octets_of order 4 (total - header_size)) ≡ 4 = octets-length order 4 (total - header_size) in
    let n = length-set out flags_offset c in
    stored-fits (set out flags_offset c) size_offset (octets_of order 4 (total - header_size)) w last (omega arith) s
    ∙ ap (λ (x : ℕ). sets (set out flags_offset x) size_offset (octets_of order 4 (total - header_size))) e
    ∙ ap (λ (o : Order). sets (set out flags_offset (more_cleared (flags_at out))) size_offset (octets_of o 4 (total - header_size))) f

-- the second of two parts ends where both do
pub second-end : (a b out : List ℕ) (one two : List ℕ) (w x : Option ℕ) → length a + length b ≤ length out
    → Stored out 0 a w one → Stored one (length a) b x two → x ≡ Some (length a + length b)
second-end a b out one two w x k s t =
    let n : length one ≡ length out = ap length (stored-fits out 0 a w one (omega arith) s) ∙ length-sets out 0 a in
    stored-upto one (length a) b x two (omega arith) t

-- two parts written one behind the other, and the header corrected
pub joined-written : (a b out : List ℕ) (one two last : List ℕ) (w x : Option ℕ) → header_size ≤ length a → length a + length b ≤ length out
    → Stored out 0 a w one → Stored one (length a) b x two
    → last ≡ sets (set two flags_offset (more_cleared (flags_at two))) size_offset (octets_of (order_at two) 4 (length a + length b - header_size))
    → last ≡ sets out 0 (corrected (a ++ b))
joined-written a b out one two last w x h k s t e =
    let f : one ≡ sets out 0 a = stored-fits out 0 a w one (omega arith) s in
    let n : length one ≡ length out = ap length f ∙ length-sets out 0 a in
    let g : two ≡ sets one (length a) b = stored-fits one (length a) b x two (omega arith) t in
    let m = a ++ b in
    let lm : length m ≡ length a + length b = length-append a b in
    let i : two ≡ m ++ drop (length m) out =
    g
    ∙ ap (λ (o : List ℕ). sets o (length a) b) f
    ∙ ap (λ (k : ℕ). sets (sets out 0 a) k b) (sym (zero-add (length a)))
    ∙ sym (sets-append out 0 a b)
    ∙ sets-start m out (omega arith) in
    let lc = corrected-length m in
    e
    ∙ ap (λ (z : ℕ). sets (set two flags_offset (more_cleared (flags_at two))) size_offset (octets_of (order_at two) 4 (z - header_size))) (sym lm)
    ∙ ap (λ (o : List ℕ). sets (set o flags_offset (more_cleared (flags_at o))) size_offset (octets_of (order_at o) 4 (length m - header_size))) i
    ∙ corrects m (drop (length m) out) (omega arith)
    ∙ ap (λ (z : ℕ). corrected m ++ drop z out) (sym lc)
    ∙ sym (sets-start (corrected m) out (omega arith))

-- the three answers
module _ (held body out : List ℕ) where
  pub no_header : length held < header_size → Assembles held body out (Err NoHeader) out
  unfolding assembled_of
  no_header h = record { answer = rw (lt-ltb (length held) header_size h); contents = refl }

  pub no_room : header_size ≤ length held → length out < length held + length body → Assembles held body out (Err NoRoom) out
  unfolding assembled_of
  no_room h k =
      let l = length-append held body in
      record { answer = rw (le-ltb (length held) header_size h, lt-ltb (length out) (length (held ++ body)) (omega arith)); contents = refl }

  pub message : header_size ≤ length held → length held + length body ≤ length out → (last : List ℕ) → last ≡ sets out 0 (corrected (held ++ body))
      → Assembles held body out (Ok (length held + length body)) last
  unfolding assembled_of
  message h k last e =
      let l = length-append held body in
      record { answer = rw (le-ltb (length held) header_size h, le-ltb (length out) (length (held ++ body)) (omega arith), l); contents = e }
