use Rattle.std.proofs.Common.{IsTrue}
use Rattle.sweep_shapes.proofs.SetTask.{slot_ready, told}
use Rattle.sweep_shapes.proofs.swept.is_possible_of_shape.Goals as goal

pub is_met-requires-clause-first : goal.is_met-requires-clause-first
is_met-requires-clause-first g c =
    slot_ready c.set_places_have_words.ensures.counted c.args.kinds.now c.args.table.now c.args.sides.now c.args.variables.now c.args.places.now 0 c.slot_at-first.result c.requires.legal c.requires.sets
    c.requires.places c.requires.sides c.slot_at-first.ensures

pub is_met-requires-clause-second : goal.is_met-requires-clause-second
is_met-requires-clause-second g c =
    slot_ready c.set_places_have_words.ensures.counted c.args.kinds.now c.args.table.now c.args.sides.now c.args.variables.now c.args.places.now 1 c.slot_at-second.result c.requires.legal c.requires.sets
    c.requires.places c.requires.sides c.slot_at-second.ensures

pub is_met-requires-clause-third : goal.is_met-requires-clause-third
is_met-requires-clause-third g c =
    slot_ready c.set_places_have_words.ensures.counted c.args.kinds.now c.args.table.now c.args.sides.now c.args.variables.now c.args.places.now 2 c.slot_at-third.result c.requires.legal c.requires.sets
    c.requires.places c.requires.sides c.slot_at-third.ensures

pub returns : goal.returns
returns g c =
    told (g.S.Shape.rules c.args.shape.now) c.set_places_have_words.ensures.counted c.set_places_have_words.ensures.word c.set_places_have_words.ensures.same c.args.kinds.now c.args.table.now c.args.sides.now
    c.args.c.now c.args.variables.now c.args.places.now c.slot_at-first.result c.slot_at-second.result c.slot_at-third.result c.requires.legal c.requires.scope c.requires.sets c.requires.few c.requires.places
    c.requires.sides c.requires.named c.requires.exact c.slot_at-first.ensures c.slot_at-second.ensures c.slot_at-third.ensures (IsTrue c.in_ok-met.met) c.in_ok-met.ensures
