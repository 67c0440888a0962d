use Rattle.std.proofs.Common.{◌<◌, length, sym, subst}
use Rattle.std.specs.List.{All}
use Rattle.scope_words.proofs.Bits.{bits_known}
use Rattle.set_shapes.proofs.Ends.{listed_for}
use Rattle.set_shapes.proofs.tables.Table.new.Goals as goal

pub scope_places-requires : goal.scope_places-requires
scope_places-requires c = subst (All (λ b. b < length c.args.layout.now.places)) (sym c.as_slice-2.ensures.value) (bits_known _ _ _ c.in_ok-bits.ensures)

pub entries_of-requires-clause-listed : goal.entries_of-requires-clause-listed
entries_of-requires-clause-listed c =
    listed_for c.args.layout.now c.args.kinds.now c.args.operands.now c.in_ok-elements.elements _ c.in_ok-variables.variables.items _ c.in_ok-bits.bits.items _ c.in_ok-places.places.items _ c.obeys_order.ensures c.requires.kinds c.requires.sets
    c.in_ok-elements.ensures c.elements-3.ensures.same c.as_slice.ensures.value c.in_ok-variables.ensures c.in_ok-bits.ensures c.as_slice-2.ensures.value c.in_ok-places.ensures c.as_slice-3.ensures.value
