use Rattle.bit_layout.proofs.Sorting.{found_place, place_not_found}
use Rattle.bit_layout.proofs.layout.bit_of.Goals as goal

pub unreachable-requires : goal.unreachable-requires
unreachable-requires c = place_not_found c.args.sorted.now c.args.place.now c.in-Err.field-0 c.requires.sorted c.in-Err.ensures.position c.requires.there

pub returns : goal.returns
returns c = found_place c.args.sorted.now c.args.place.now c.in-Ok.bit c.in-Ok.ensures.bound c.in-Ok.ensures.ok
