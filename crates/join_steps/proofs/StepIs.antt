-- What an accepted fragment and a record that is not refused say.
use Rattle.std.specs.Prelude.{Option, Some, None, Ok}
use mathlib.Core.Path.{◌≡◌, sym, ap, subst, ◌∙◌}
use mathlib.Core.List.{List}
use mathlib.Core.Bool.{true}
use Prim.Native.Nat.{ℕ, ◌+◌, ◌-◌, ◌≤◌}
use native.Mathlib.Omega.{arith}
use lib.ListN.{length, take, drop}
use borrow.Author.Tests.{leb-true, eqb-true}
use Rattle.frame.specs.declared.Header.{Header}
use Rattle.frame.specs.Messages.{is_request_or_reply, is_fragment}
use Rattle.frame.specs.Header.{message_type_at, minor_at, size_at}
use Rattle.frame.specs.Frames.{message_limit, size_allowed, frame_of}
use Rattle.frame.proofs.Accepts.{frame-accepts}
use Rattle.join_places.specs.declared.Record.{Record}
use Rattle.join_places.specs.Places.{place_of_id, IsPlace}
use Rattle.join_message.specs.Message.{id_end}
use Rattle.join_places.proofs.RecordSound.{sound-lent, sound-length}
use Rattle.join_places.proofs.PlaceOfId.{Placed, place_is, place_found}
use Rattle.join_steps.specs.Inner.{Sound, Continues}

-- a part of octets from a start on
pub part_of : (start n : ℕ) (l : List ℕ) → take (start + n - start) (drop start l) ≡ take n (drop start l)
part_of start n l = let e : start + n - start ≡ n = omega arith in ap (λ (k : ℕ). take k (drop start l)) e

-- a place that is found is one of the places
within-placed : (r : Record) (id : ℕ) (f : Option ℕ) → Placed r id f → IsPlace f
within-placed r id (Some i) h = h.place
within-placed r id None h = tt

pub place-within : (r : Record) (id : ℕ) (f : Option ℕ) → f ≡ place_of_id r id → IsPlace f
place-within r id f e = subst IsPlace (sym e) (within-placed r id (place_of_id r id) (place_is r id))

-- a fragment has its request id
fragment-size : (minor kind size : ℕ) → is_fragment kind ≡ true → size_allowed minor kind size ≡ true → 4 ≤ size
unfolding size_allowed is_request_or_reply
fragment-size minor kind size k e =
    let s : kind ≡ 7 = eqb-true kind 7 k in
    leb-true 4 size (subst (λ (x : ℕ). size_allowed minor x size ≡ true) s e)

pub fragment-length : (v : List ℕ) (h : Header) → frame_of v ≡ Ok h → is_fragment h.kind ≡ true → (id_end ≤ length v) × (length v ≤ message_limit)
fragment-length v h e k =
    let a = frame-accepts v h e in
    let b = a.1 in
    let n = b.octets in
    let l = a.0 in
    let kind : h.kind ≡ message_type_at v = ap (λ (x : Header). x.kind) b.says in
    let m = fragment-size (minor_at v) (message_type_at v) (size_at v) (ap is_fragment (sym kind) ∙ k) b.size in
    (omega arith, l)

-- what a fragment's function asks
pub continues : (v : List ℕ) (h : Header) (r : Record) (places : List ℕ) (id i : ℕ) → Sound v h r places → is_fragment h.kind ≡ true
    → place_of_id r id ≡ Some i → Continues v r places i
continues v h r places id i s k e =
    let f = place_found r id i e in
    let n = fragment-length v h s.accepted k in
    let l = sound-length r (length places) i f.place f.opened s.sound in
    record { place = f.place; lent = sound-lent r (length places) s.sound; id = n.0; short = n.1; least = l.0; most = l.1 }
