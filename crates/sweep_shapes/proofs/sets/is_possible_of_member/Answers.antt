use Rattle.std.proofs.Common.{ℤ, FitsSigned, w64, subst}
use Rattle.std.proofs.lemmas.Int.{to_z-of_z}
use Rattle.sweep_sets.specs.Shapes.{IsShapeOfMember}
use Rattle.sweep_shapes.proofs.SetTask.{known_sets, places_lent, elements_there, member_exact}
use Rattle.sweep_shapes.proofs.sets.is_possible_of_member.Goals as goal

pub set_places-requires : goal.set_places-requires
set_places-requires c =
    known_sets c.args.layout.now.kinds c.args.kinds.now c.args.variables.now c.requires.layout c.requires.sets

pub of_member-requires-clause-elements : goal.of_member-requires-clause-elements
of_member-requires-clause-elements c =
    let are = places_lent c.args.layout.now.kinds c.args.kinds.now c.args.variables.now c.in_ok-places.places.items c.as_slice-listed.result.now c.requires.layout c.as_slice-listed.ensures.value c.in_ok-places.ensures in
    elements_there c.args.kinds.now c.args.variables.now c.as_slice-listed.result.now c.requires.sets are

pub is_possible_of_shape-requires-clause-places : goal.is_possible_of_shape-requires-clause-places
is_possible_of_shape-requires-clause-places c =
    places_lent c.args.layout.now.kinds c.args.kinds.now c.args.variables.now c.in_ok-places.places.items c.as_slice-listed.result.now c.requires.layout c.as_slice-listed.ensures.value c.in_ok-places.ensures

pub is_possible_of_shape-requires-clause-exact : goal.is_possible_of_shape-requires-clause-exact
is_possible_of_shape-requires-clause-exact c =
    let are = places_lent c.args.layout.now.kinds c.args.kinds.now c.args.variables.now c.in_ok-places.places.items c.as_slice-listed.result.now c.requires.layout c.as_slice-listed.ensures.value c.in_ok-places.ensures in
    let fits : FitsSigned w64 c.args.member = c.ranges.member in
    let exact = subst (λ (x : ℤ). IsShapeOfMember c.as_slice-listed.result.now c.args.truth x c.args.set.now c.in_ok-shape.shape) (to_z-of_z w64 c.args.member fits) c.in_ok-shape.ensures.exact in
    member_exact c.args.kinds.now c.args.c.now c.args.read.now c.args.truth c.args.member c.args.set.now c.args.variables.now c.as_slice-listed.result.now c.in_ok-shape.shape c.requires.read c.requires.is are exact
