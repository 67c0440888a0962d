use Rattle.scope_words.specs.Words.{variables_in}
use Rattle.set_shapes.proofs.ElementEnds.{element_fits, element_sorts, element_bits, branches_long, branches_valid, element_made}
use Rattle.std.proofs.Common.{refl}
use Rattle.set_shapes.proofs.element_relation.machine_over.Goals as goal

pub place_items_and_set-terms-requires : goal.place_items_and_set-terms-requires
place_items_and_set-terms-requires c = element_fits c.args.kinds.now c.args.args.now c.requires.fits

pub initial_values-requires-clause-bits : goal.initial_values-requires-clause-bits
initial_values-requires-clause-bits c = (variables_in c.args.args.now, c.requires.bits)

pub branches_of-requires-clause-index : goal.branches_of-requires-clause-index
branches_of-requires-clause-index c =
    let terms = c.place_items_and_set-terms.result in
    (element_sorts c.args.kinds.now c.args.args.now terms.index.now terms.set.now terms.items.now c.place_items_and_set-terms.ensures c.requires.fits).0

pub branches_of-requires-clause-items : goal.branches_of-requires-clause-items
branches_of-requires-clause-items c =
    let terms = c.place_items_and_set-terms.result in
    (element_sorts c.args.kinds.now c.args.args.now terms.index.now terms.set.now terms.items.now c.place_items_and_set-terms.ensures c.requires.fits).1

pub branches_of-requires-clause-set : goal.branches_of-requires-clause-set
branches_of-requires-clause-set c =
    let terms = c.place_items_and_set-terms.result in
    (element_sorts c.args.kinds.now c.args.args.now terms.index.now terms.set.now terms.items.now c.place_items_and_set-terms.ensures c.requires.fits).2

pub branches_of-requires-clause-bits : goal.branches_of-requires-clause-bits
branches_of-requires-clause-bits c =
    let terms = c.place_items_and_set-terms.result in
    element_bits c.args.layout.now c.args.args.now terms.index.now terms.set.now terms.items.now c.args.bits.now c.place_items_and_set-terms.ensures c.requires.bits

pub choice_of-requires-clause-valid : goal.choice_of-requires-clause-valid
choice_of-requires-clause-valid c = branches_valid _ c.in_ok-machines.machines.items c.as_slice.result.now c.as_slice.ensures.value c.in_ok-machines.ensures.over

pub choice_of-requires-clause-places : goal.choice_of-requires-clause-places
choice_of-requires-clause-places c = branches_long _ c.in_ok-machines.machines.items c.as_slice.result.now c.as_slice.ensures.value c.in_ok-machines.ensures.over

pub returns : goal.returns
returns c =
    let terms = c.place_items_and_set-terms.result in
    element_made c.relations_have_words.ensures c.args.layout.now c.args.kinds.now c.args.args.now terms.index.now terms.set.now terms.items.now c.args.bits.now c.in_ok-first.first c.in_ok-machines.machines.items c.as_slice.result.now
    c.in_ok-second.second c.obeys_order.ensures c.requires.kinds c.place_items_and_set-terms.ensures c.requires.fits c.requires.bits c.in_ok-first.ensures.valid c.in_ok-first.ensures.places c.in_ok-first.ensures.accepts
    c.in_ok-machines.ensures.tells c.as_slice.ensures.value c.in_ok-second.ensures.places (λ w. c.in_ok-second.ensures.accepts c.args.bits.now w refl)
