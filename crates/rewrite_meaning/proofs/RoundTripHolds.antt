-- "If the result has at most 16,384 octets, it reads back, wholly used, to the same items except places, and rewriting it to the first order
-- and index gives the used octets with gaps zeroed."
use mathlib.Core.Path.{◌≡◌, refl, sym, ap, subst, ◌∙◌}
use mathlib.Core.List.{List}
use mathlib.Core.Bool.{Bool}
use Prim.Native.Nat.{ℕ, ◌+◌, ◌≤◌}
use native.Mathlib.Omega.{arith}
use lib.ListN.{length, take, drop}
use lib.Seq.{sets-eq, take_at}
use Rattle.cdr.specs.declared.Order.{Order}
use Rattle.cdr.specs.Number.{Octets}
use Rattle.cdr.specs.Limit.{octets_limit}
use Rattle.typecode.specs.TypeCode.{checked_type}
use Rattle.value_meaning.specs.declared.ValueAnswer.TheVariants.{Accepted}
use Rattle.value_meaning.specs.Sinks.{Source}
use Rattle.value_meaning.specs.Visit.{Checked, checked}
use Rattle.value_meaning.specs.Reading.{any_room, room_for}
use Rattle.value_meaning.specs.Value.{reading_answer, reading_of, value_answer}
use Rattle.value_meaning.proofs.DemandHolds.{answer-is}
use Rattle.value_meaning.proofs.EnoughRoom.{room-enough}
use Rattle.rewrite_meaning.specs.declared.RewriteAnswer.{RewriteAnswer}
use Rattle.rewrite_meaning.specs.declared.RewriteAnswer.TheVariants.{Accepted as accepted}
use Rattle.rewrite_meaning.specs.Written.{Target, written, used_zeroed}
use Rattle.rewrite_meaning.specs.Rewriting.{rewrite_answer, rewritten, written_by, output_after}
use Rattle.rewrite_meaning.specs.RoundTrip.{result, first_target, ReadBack, RewrittenBack, ReadsBack, RewritesBack}
use Rattle.rewrite_meaning.proofs.SameOctets.{same-octets}
use Rattle.rewrite_meaning.proofs.AcceptedAnyRoom.{accepted-any}
use Rattle.rewrite_meaning.proofs.ReadBeside.{Beside, same_count, reads-beside}
use Rattle.rewrite_meaning.proofs.GapsAreZeroed.{own-octets, own-count}
use Rattle.rewrite_meaning.proofs.AcceptedAnswer.{ReadAs, read_as, read-accepted, RewrittenAs, rewritten-as, rewritten-accepted, rewritten-room}

module _ (v : List ℕ) (order : Order) (x : Source) (to : Target) (count : ℕ) (ok : Octets x.octets) (r : RewrittenAs v order x to count)
    (few : count ≤ octets_limit) where
  abbrev y : Source
  y = result v order x to

  abbrev t : Checked
  t = checked v (checked_type v order).kinds

  -- where the value is accepted, with any room or with some: its octets are the result's, which is read beside it
  module _ (full : ℕ → Bool) (accepts : (reading_of full v order x).fault ≡ 0) where
    same-result : written to (reading_of full v order x) ≡ rewritten v order x to
    unfolding reading_of
    same-result = ap (written to) (accepted-any full x t accepts)

    result-beside : Beside to (reading_of full v order x) (reading_of full v order y)
    unfolding reading_of
    result-beside = reads-beside full x to (rewritten v order x to) ok t accepts same-result

  result-short : length (rewritten v order x to) ≤ octets_limit
  result-short = subst (λ (n : ℕ). n ≤ octets_limit) (sym r.octets.count) few

  -- with room for so many items
  module _ (room used items visits : ℕ) (e : value_answer v order x room ≡ Accepted used items visits) where
    value_read : ReadAs (reading_of (room_for room) v order x) used items visits
    value_read =
        read_as (reading_of (room_for room) v order x) used items visits (sym (answer-is v order r.used r.kinds r.type x room r.short) ∙ e)

    value-beside : Beside to (reading_of (room_for room) v order x) (reading_of (room_for room) v order y)
    value-beside = result-beside (room_for room) value_read.fault

    result-read : ReadAs (reading_of (room_for room) v order y) (length (rewritten v order x to)) items visits
    result-read =
        let a = value_read in
        let b = value-beside in
        record {
          fault = sym b.fault ∙ a.fault;
          at = b.at ∙ ap length (same-result (room_for room) a.fault);
          count = sym (same_count to (reading_of (room_for room) v order x) (reading_of (room_for room) v order y) b) ∙ a.count;
          begun = sym b.visits ∙ a.begun;
        }

    result-accepted : value_answer v order y room ≡ Accepted (length (rewritten v order x to)) items visits
    result-accepted =
        answer-is v order r.used r.kinds r.type y room result-short
        ∙ read-accepted (reading_of (room_for room) v order y) (length (rewritten v order x to)) items visits result-read

  -- where there is room for its items, the value is accepted
  value-accepted : (room : ℕ) → length (reading_of any_room v order x).kept.items ≤ room → value_answer v order x room
      ≡ Accepted (reading_of any_room v order x).at (length (reading_of any_room v order x).kept.items) (reading_of any_room v order x).kept.visits
  unfolding reading_of
  value-accepted room h =
      let s = reading_of any_room v order x in
      answer-is v order r.used r.kinds r.type x room r.short
      ∙ ap reading_answer (sym (room-enough room x t h))
      ∙ read-accepted s s.at (length s.kept.items) s.kept.visits (record { fault = r.octets.fault; at = refl; count = refl; begun = refl })

  read_back : (room : ℕ) → length (reading_of any_room v order x).kept.items ≤ room → ReadBack v order x to room
  read_back room h =
      let e = value-accepted room h in
      record {
        first = e;
        second = result-accepted room _ _ _ e;
        items = sym (value-beside room _ _ _ e).items;
        pieces = sym
            (value-beside room _ _ _ e).pieces;
      }

  -- to any order and index the result gives what the value gives
  again : (other : Target) → rewritten v order y other ≡ rewritten v order x other
  again other =
      same-octets other (reading_of any_room v order y) (reading_of any_room v order x) (sym (result-beside any_room r.octets.fault).pieces)

  -- to the first order and index
  used-octets : rewritten v order x (first_target x) ≡ used_zeroed x (reading_of any_room v order x)
  unfolding reading_of
  used-octets = own-octets x ok any_room t

  used-count : length (rewritten v order x (first_target x)) ≡ (reading_of any_room v order x).at
  unfolding reading_of
  used-count = own-count x ok any_room t

  rewritten-again : RewrittenAs v order y (first_target x) (reading_of any_room v order x).at
  rewritten-again = record {
    type_short = r.type_short;
    short = result-short;
    used = r.used;
    kinds = r.kinds;
    type = r.type;
    octets = record {
      fault = sym (result-beside any_room r.octets.fault).fault ∙ r.octets.fault;
      count = ap length (again (first_target x)) ∙ used-count;
    };
  }

  rewritten-back : RewrittenBack v order x to
  rewritten-back = record {
    octets = again (first_target x) ∙ used-octets;
    count = ap length (sym used-octets) ∙ used-count;
    answer = λ room h. rewritten-accepted v order y (first_target x) room (reading_of any_room v order x).at rewritten-again h;
    again = again;
  }

-- the result of an accepted rewriting reads back
pub reads-back : (v : List ℕ) (order : Order) (x : Source) (to : Target) → Octets x.octets → ReadsBack v order x to
reads-back v order x to ok output count e few = read_back v order x to count ok (rewritten-as v order x to output count e) few

-- and is rewritten to the used octets with gaps zeroed
pub rewrites-back : (v : List ℕ) (order : Order) (x : Source) (to : Target) → Octets x.octets → RewritesBack v order x to
rewrites-back v order x to ok output count e few = rewritten-back v order x to count ok (rewritten-as v order x to output count e) few

-- the octets that the contract speaks of are those that the round trip speaks of
pub output-octets : (v : List ℕ) (order : Order) (x : Source) (to : Target) (out : List ℕ) (count : ℕ)
    → rewrite_answer v order x to (length out) ≡ accepted count
    → (length (rewritten v order x to) ≡ count) × (take count (output_after v order x to out) ≡ rewritten v order x to)
unfolding output_after
output-octets v order x to out count e =
    let l : length (rewritten v order x to) ≡ count = (rewritten-as v order x to (length out) count e).octets.count in
    let fits : 0 + length (rewritten v order x to) ≤ length out = let h = rewritten-room v order x to (length out) count e in omega arith in (
      l,
      ap (λ (a : RewriteAnswer). take count (written_by a out (rewritten v order x to))) e
          ∙ ap (take count) (sets-eq (rewritten v order x to) out 0 fits)
          ∙ take_at (rewritten v order x to) (drop (0 + length (rewritten v order x to)) out) count l,
    )
