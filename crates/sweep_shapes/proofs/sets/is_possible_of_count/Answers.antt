use Rattle.sweep_shapes.proofs.SetTask.{known_sets, places_lent}
use Rattle.sweep_shapes.proofs.Cards.{count_exact}
use Rattle.sweep_shapes.proofs.sets.is_possible_of_count.Goals as goal

pub set_places-requires : goal.set_places-requires
set_places-requires c = known_sets c.args.layout.now.kinds c.args.kinds.now c.args.variables.now c.requires.layout c.requires.sets

pub is_possible_of_shape-requires-clause-places : goal.is_possible_of_shape-requires-clause-places
is_possible_of_shape-requires-clause-places c =
    places_lent c.args.layout.now.kinds c.args.kinds.now c.args.variables.now c.in_ok-places.places.items c.as_slice-listed.result.now c.requires.layout c.as_slice-listed.ensures.value c.in_ok-places.ensures

pub is_possible_of_shape-requires-clause-exact : goal.is_possible_of_shape-requires-clause-exact
is_possible_of_shape-requires-clause-exact c =
    let are = places_lent c.args.layout.now.kinds c.args.kinds.now c.args.variables.now c.in_ok-places.places.items c.as_slice-listed.result.now c.requires.layout c.as_slice-listed.ensures.value c.in_ok-places.ensures in
    count_exact c.counts_are_sizes.ensures c.set_places_have_words.ensures.word c.args.kinds.now c.args.c.now c.args.read.now c.args.size c.args.set c.args.variables.now c.as_slice-listed.result.now c.requires.legal
    c.requires.sets c.requires.one c.requires.read c.requires.is are
