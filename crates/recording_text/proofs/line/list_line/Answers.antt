-- A line of digits is answered by its octets, any other by its number.
use Rattle.std.proofs.Common.{◌≡◌, ◌≤◌, length, sym, ◌∙◌, subst, arith, length-take-le}
use Rattle.recording_text.specs.Listing.{octets_most, LineEntry}
use Rattle.recording_text.specs.Inner.{Lists}
use Rattle.recording_text.proofs.EntryListed.{decoded-count, entry-accepted, entry-refused, lists-refused}
use Rattle.recording_text.proofs.line.list_line.Goals as goal

pub returns-in-Err : goal.returns-in-Err
returns-in-Err c =
    lists-refused _ c.args.before c.args.places.now c.args.number _ _ c.args.out.now c.args.at _ _ c.decoded_number.ensures (entry-refused c.args.characters.now c.args.octets.now c.decode-decoded.result c.decode-decoded.new.out c.requires.memory.decoded c.decode-decoded.ensures _ c.args.before c.args.places.now c.in-Err.is) c.put_unshown.ensures

pub slice_bounds-list_octets-end : goal.slice_bounds-list_octets-end
slice_bounds-list_octets-end c =
    let decoded-most : (c.in-Ok.n ≤ octets_most) × (length c.decode-decoded.new.out ≡ octets_most) = ((decoded-count c.args.characters.now c.args.octets.now c.decode-decoded.result c.decode-decoded.new.out c.requires.memory.decoded c.decode-decoded.ensures _ c.in-Ok.is).0, c.decode-decoded.auto.out ∙ c.requires.memory.decoded) in
    omega (arith, decoded-most)

pub slice_bounds-list_octets-end-in-Ok : goal.slice_bounds-list_octets-end-in-Ok
slice_bounds-list_octets-end-in-Ok c =
    let decoded-most : (c.in-Ok.n ≤ octets_most) × (length c.decode-decoded.new.out ≡ octets_most) = ((decoded-count c.args.characters.now c.args.octets.now c.decode-decoded.result c.decode-decoded.new.out c.requires.memory.decoded c.decode-decoded.ensures _ c.in-Ok.is).0, c.decode-decoded.auto.out ∙ c.requires.memory.decoded) in
    sym (length-take-le _ _ (omega (arith, decoded-most)))

pub returns-in-Ok : goal.returns-in-Ok
returns-in-Ok c =
    subst (λ (e : LineEntry). Lists e c.args.number c.args.out.now c.args.at c.list_octets.result c.list_octets.new.places c.list_octets.new.out)
    (entry-accepted c.args.characters.now c.args.octets.now c.decode-decoded.result c.decode-decoded.new.out c.requires.memory.decoded c.decode-decoded.ensures _ c.args.before c.args.places.now c.in-Ok.is)
    c.list_octets.ensures
