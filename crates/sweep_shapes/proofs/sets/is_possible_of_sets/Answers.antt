use Rattle.sweep_shapes.proofs.SetTask.{known_sets, places_lent, elements_there, fits_relation, relation_exact}
use Rattle.sweep_shapes.proofs.sets.is_possible_of_sets.Goals as goal

pub set_places-requires : goal.set_places-requires
set_places-requires c =
    known_sets c.args.layout.now.kinds c.args.kinds.now c.args.variables.now c.requires.layout c.requires.sets

pub of_relation-requires-clause-elements : goal.of_relation-requires-clause-elements
of_relation-requires-clause-elements c =
    let are = places_lent c.args.layout.now.kinds c.args.kinds.now c.args.variables.now c.in_ok-places.places.items c.as_slice-listed.result.now c.requires.layout c.as_slice-listed.ensures.value c.in_ok-places.ensures in
    elements_there c.args.kinds.now c.args.variables.now c.as_slice-listed.result.now c.requires.sets are

pub of_relation-requires-clause-args : goal.of_relation-requires-clause-args
of_relation-requires-clause-args c = fits_relation c.args.kinds.now c.args.read.now c.items-args.result.now c.items-args.ensures c.requires.read.fits

pub is_possible_of_shape-requires-clause-places : goal.is_possible_of_shape-requires-clause-places
is_possible_of_shape-requires-clause-places c =
    places_lent c.args.layout.now.kinds c.args.kinds.now c.args.variables.now c.in_ok-places.places.items c.as_slice-listed.result.now c.requires.layout c.as_slice-listed.ensures.value c.in_ok-places.ensures

pub is_possible_of_shape-requires-clause-exact : goal.is_possible_of_shape-requires-clause-exact
is_possible_of_shape-requires-clause-exact c =
    let are = places_lent c.args.layout.now.kinds c.args.kinds.now c.args.variables.now c.in_ok-places.places.items c.as_slice-listed.result.now c.requires.layout c.as_slice-listed.ensures.value c.in_ok-places.ensures in
    relation_exact c.args.kinds.now c.args.c.now c.args.read.now c.args.truth c.args.variables.now c.as_slice-listed.result.now c.items-args.result.now c.in_ok-shape.shape c.items-args.ensures c.requires.read are
    c.in_ok-shape.ensures.exact
