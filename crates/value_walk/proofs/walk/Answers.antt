-- The walk from the value's start.
use Rattle.std.proofs.Common.{ap, ◌∙◌}
use Rattle.type_parameters.specs.declared.Parameters.{Parameters}
use Rattle.type_unions.specs.Shapes.{shape_of, look}
use Rattle.value_meaning.specs.Visit.{checked}
use Rattle.value_meaning.specs.Reading.{reads, top_of}
use Rattle.value_cursor.specs.Walk.{sink_of, source_of, state_of}
use Rattle.value_cursor.specs.declared.Cursor.{Cursor}
use Rattle.type_list.specs.Arrays.{kinds_met}
use Rattle.value_walk.proofs.walk.Goals as goal

pub returns : goal.returns
unfolding look
returns c =
    let k = sink_of c.args.mode in
    let x = source_of c.args.mode c.args.value.now in
    let u = checked c.args.types.now (kinds_met c.args.met) in
    c.visit.ensures
    ∙ ap (λ (p : Parameters). reads k x u 64 (shape_of c.args.types.now (kinds_met c.args.met) p) (state_of c.start.result c.args.table.now)) c.inside_of-top.ensures
    ∙ ap (λ (w : Cursor). reads k x u 64 (top_of u) (state_of w c.args.table.now)) c.start.ensures
