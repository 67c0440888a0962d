use Rattle.sweep_shapes.proofs.Filtering.{allowed_values, initial_here}
use Rattle.sweep_shapes.proofs.choices.values_within.Goals as goal

pub chosen-requires-clause-initial : goal.chosen-requires-clause-initial
chosen-requires-clause-initial c =
    initial_here c.args.layout.now.kinds c.args.kinds.now c.args.v.0 c.kind_at-kind.result.now c.in_ok-all.all.items c.requires.kinds c.kind_at-kind.ensures
    c.initial_values_are_in_kind.ensures c.in_ok-all.ensures

pub returns : goal.returns
returns c =
    allowed_values c.args.layout.now.kinds c.args.kinds.now c.args.table.now c.args.sides.now c.args.v.0 c.kind_at-kind.result.now c.in_ok-all.all.items c.in_ok-values.values.items
    c.requires.kinds c.kind_at-kind.ensures c.initial_values_are_in_kind.ensures c.in_ok-all.ensures c.in_ok-values.ensures
