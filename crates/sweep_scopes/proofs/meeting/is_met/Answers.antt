use Rattle.std.proofs.Common.{◌≡◌, ℕ, length, IsTrue}
use Rattle.sweep_rules.specs.Rules.{Rules, both}
use Rattle.sweep_table.specs.Sides.{side_rules}
use Rattle.sweep_scopes.proofs.Sweeping.{each_one, each_end, met_is, slot_rules}
use Rattle.sweep_scopes.proofs.meeting.is_met.Goals as goal

pub read_through-requires-clause-occur : goal.read_through-requires-clause-occur
read_through-requires-clause-occur g c =
    each_one (g.S.Shape.occurs c.args.shape.now 0) c.as_slice.result.now c.in_ok-states.states.items c.start-first_state.result c.as_slice.ensures.value c.in_ok-states.ensures c.start-first_state.ensures.first

pub some_accepts-met-requires-clause-occur : goal.some_accepts-met-requires-clause-occur
some_accepts-met-requires-clause-occur g c =
    each_end (g.S.Shape.occurs c.args.shape.now) c.as_slice-2.result.now c.in_ok-ends.ends.items (length c.args.places.now) (g.S.Shape.places c.args.shape.now) c.as_slice-2.ensures.value
    c.requires.count c.in_ok-ends.ensures.occur

pub returns : goal.returns
returns g c =
    let table = c.args.table.now in
    let places = c.args.places.now in
    let one = c.in_ok-side_of.field-0 in
    let two = c.in_ok-side_of-2.field-0 in
    let three = c.in_ok-side_of-3.field-0 in
    let filter : Rules (ℕ × (ℕ × ℕ)) = both (side_rules one.table.now one.root one.places.items)
    (both (side_rules two.table.now two.root two.places.items) (side_rules three.table.now three.root three.places.items)) in
    let is : filter ≡ both (slot_rules table places c.args.first) (both (slot_rules table places c.args.second) (slot_rules table places c.args.third)) =
    λ i. both (side_rules (c.in_ok-side_of.ensures.table i) (c.in_ok-side_of.ensures.root i) (c.in_ok-side_of.ensures.places i))
    (both (side_rules (c.in_ok-side_of-2.ensures.table i) (c.in_ok-side_of-2.ensures.root i) (c.in_ok-side_of-2.ensures.places i))
    (side_rules (c.in_ok-side_of-3.ensures.table i) (c.in_ok-side_of-3.ensures.root i) (c.in_ok-side_of-3.ensures.places i))) in
    met_is c.sides_accept.ensures table places (g.S.Shape.rules c.args.shape.now) c.args.first c.args.second c.args.third c.obeys_rules.ensures c.requires.first c.requires.second c.requires.third filter is
    c.in_ok-states.states.items c.as_slice.result.now c.in_ok-ends.ends.items c.as_slice-2.result.now c.start-first_state.result c.as_slice.ensures.value c.in_ok-states.ensures
    c.start-first_state.ensures.state c.as_slice-2.ensures.value c.in_ok-ends.ensures.leads (IsTrue c.some_accepts-met.result) c.some_accepts-met.ensures
