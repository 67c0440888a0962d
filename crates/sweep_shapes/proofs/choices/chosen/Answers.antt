use Rattle.log_rules.specs.Boxes.{side_of}
use Rattle.sweep_shapes.proofs.Filtering.{filtered_turn, filtered_all, any_item}
use Rattle.sweep_shapes.proofs.choices.chosen.Goals as goal

pub push_within-requires : goal.push_within-requires
push_within-requires c = record {
  initial = c.requires.initial c.x-item.result (any_item c.as_slice-candidates.result.now c.args.all.items c.loop-x.x-index c.x-item.result c.as_slice-candidates.ensures.value c.loop-x-test.true c.x-item.is);
}

pub loop-x-preserved : goal.loop-x-preserved
loop-x-preserved c =
    filtered_turn (side_of c.args.layout.now.kinds c.args.table.now c.args.sides.now c.args.v.0) c.as_slice-candidates.result.now c.loop-x.x-index c.x-item.result
    c.loop-x.values.items c.push_within.new.values.items c.loop-x-test.true c.x-item.is c.in_ok-push_within.ensures.taken c.in_ok-push_within.ensures.left c.loop-x.invariant

pub returns : goal.returns
returns c =
    filtered_all (side_of c.args.layout.now.kinds c.args.table.now c.args.sides.now c.args.v.0) c.as_slice-candidates.result.now c.args.all.items c.loop-x.x-index c.loop-x.values.items
    c.loop-x-test.false c.as_slice-candidates.ensures.value c.loop-x.invariant
