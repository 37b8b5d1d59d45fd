-- Past the end there are none, from within it those up to the end or all; each is a part of the slice.
use mathlib.Core.Path.{refl}
use Rattle.cdr_fields.proofs.ExtentsTaken.{past_end, up-to-end, all_there}
use native.Mathlib.Omega.{arith}
use Rattle.cdr_fields.proofs.octets_in.Goals as goal

pub returns-then-end-from : goal.returns-then-end-from
returns-then-end-from c =
    let t = past_end c.args.s.now c.args.part c.if-end-from.true in
    record { octets = t.octets; block = refl; place = t.place c.args.s.ref_ptr.1 }

pub returns-then-s-from : goal.returns-then-s-from
returns-then-s-from c =
    let t = up-to-end c.args.s.now c.args.part (omega (arith, c.if-end-from.false)) c.if-s-from.true in
    record { octets = t.octets; block = refl; place = t.place c.args.s.ref_ptr.1 }

pub returns : goal.returns
returns c =
    let t = all_there c.args.s.now c.args.part (omega (arith, c.if-end-from.false)) in
    record { octets = t.octets; block = refl; place = t.place c.args.s.ref_ptr.1 }
