-- Messages of one length with the same frame: one is accepted where the other is, and its header is looked for in the same way.
use Rattle.std.specs.Prelude.{Ok}
use mathlib.Core.Path.{◌≡◌, sym, ap, ◌∙◌}
use mathlib.Core.List.{List, ◌++◌}
use mathlib.Core.Bool.{true}
use Prim.Native.Nat.{ℕ, ◌+◌, ◌-◌, ◌<◌, ◌≤◌}
use native.Mathlib.Omega.{arith}
use borrow.Author.Tests.{le-ltb}
use lib.ListN.{length, get_or, take, drop, length-drop, get_or-append}
use lib.Seq.{take-append-le, drop-append-le}
use Rattle.choices.specs.Branch.{choose}
use Rattle.cdr.specs.declared.Order.{Order}
use Rattle.cdr.specs.declared.Order.TheVariants.{Big}
use Rattle.cdr.specs.Limit.{octets_limit}
use Rattle.cdr.specs.Number.{number_of, number_at}
use Rattle.frame.specs.declared.Header.{Header}
use Rattle.frame.specs.Header.{header_size, order_flag, magic_at, major_at, minor_at, flags_at, message_type_at, order_at, size_at, header_of}
use Rattle.frame.specs.Frames.{message_of}
use Rattle.frame.proofs.Accepts.{message-accepts}
use Rattle.frame.proofs.RowsPassed.{sized-last, message-by}
use Rattle.header.specs.Header.{header_in, header_answer}

-- the fields of two frames are the same
pub record SameFrame (v w : List ℕ) : Type 0 where
  pub magic : magic_at w ≡ magic_at v
  pub major : major_at w ≡ major_at v
  pub minor : minor_at w ≡ minor_at v
  pub flags : flags_at w ≡ flags_at v
  pub kind : message_type_at w ≡ message_type_at v
  pub size : size_at w ≡ size_at v

module _ (frame : List ℕ) (l : length frame ≡ header_size) where
  octet-alike : (b c : List ℕ) (k : ℕ) → k < header_size → get_or (frame ++ c) k 0 ≡ get_or (frame ++ b) k 0
  octet-alike b c k h =
      let there : k < length frame = omega (arith, l, h) in
      get_or-append frame c 0 k there ∙ sym (get_or-append frame b 0 k there)

  number_in : (b : List ℕ) (at n : ℕ) (order : Order) → at + n ≤ header_size → number_at (frame ++ b) at n order ≡ number_at frame at n order
  unfolding number_at
  number_in b at n order h =
      ap (λ (x : List ℕ). number_of order (take n x)) (drop-append-le at frame b (omega (arith, l, h)))
      ∙ ap (number_of order) (take-append-le n (drop at frame) b (omega (arith, length-drop at frame, l, h)))

  number-alike : (b c : List ℕ) (at n : ℕ) (order : Order) → at + n ≤ header_size → number_at (frame ++ c) at n order ≡ number_at (frame ++ b) at n order
  number-alike b c at n order h = number_in c at n order h ∙ sym (number_in b at n order h)

  pub same-frame : (b c : List ℕ) → SameFrame (frame ++ b) (frame ++ c)
  same-frame b c =
      let flags = octet-alike b c 6 (omega arith) in
      record {
        magic = number-alike b c 0 4 Big (omega arith);
        major = octet-alike b c 4 (omega arith);
        minor = octet-alike b c 5 (omega arith);
        flags = flags;
        kind = octet-alike b c 7 (omega arith);
        size = ap (λ (k : ℕ). number_at (frame ++ c) 8 4 (order_flag k)) flags ∙ number-alike b c 8 4 (order_at (frame ++ b)) (omega arith);
      }

module _ (v w : List ℕ) (s : SameFrame v w) (n : length w ≡ length v) where
  pub message-again : (h : Header) → message_of v ≡ Ok h → message_of w ≡ Ok (header_of w)
  message-again h e =
      let m = message-accepts v h e in
      let there : header_size ≤ length w = omega (arith, n, m.octets) in
      let rest : size_at w ≡ length w - header_size = omega (arith, n, m.octets, s.size) in
      message-by w there (s.magic ∙ m.magic) true true true (rw (s.major, s.minor) m.version) (rw (s.minor, s.flags) m.flags)
      (rw (s.minor, s.kind) m.kind)
      ∙ sized-last w rest (rw (s.minor, s.kind, s.size) m.size) (rw (s.minor, s.kind, s.flags) m.fragment) true
      (rw (s.size, s.flags) m.eights)

  pub header-alike : header_in w (header_of w) ≡ header_in w (header_of v)
  unfolding header_in
  header-alike = rw (s.minor, s.flags, s.kind)

-- the answer about an accepted message
pub answer-in : (v : List ℕ) → length v ≤ octets_limit → (h : Header) → message_of v ≡ Ok h → header_answer v ≡ header_in v h
unfolding header_answer choose
answer-in v l h e = rw (le-ltb octets_limit (length v) l, e)
