use Rattle.std.proofs.Common.{Some, ap, ◌∙◌}
use Rattle.value_bounds.proofs.Closing.{truth_there, number_there, set_there}
use Rattle.value_bounds.proofs.ends.ends.Goals as goal

pub truths-requires-clause-least : goal.truths-requires-clause-least
truths-requires-clause-least c = truth_there c.args.layout.now c.args.v _ (c.requires.kind ∙ ap Some c.in-Bool.is) c.requires.least

pub truths-requires-clause-greatest : goal.truths-requires-clause-greatest
truths-requires-clause-greatest c = truth_there c.args.layout.now c.args.v _ (c.requires.kind ∙ ap Some c.in-Bool.is) c.requires.greatest

pub numbers-requires-clause-least : goal.numbers-requires-clause-least
numbers-requires-clause-least c = number_there c.args.layout.now c.args.v c.in-Int.field-0 _ (c.requires.kind ∙ ap Some c.in-Int.is) c.requires.least

pub numbers-requires-clause-greatest : goal.numbers-requires-clause-greatest
numbers-requires-clause-greatest c = number_there c.args.layout.now c.args.v c.in-Int.field-0 _ (c.requires.kind ∙ ap Some c.in-Int.is) c.requires.greatest

pub sets-requires-clause-every : goal.sets-requires-clause-every
sets-requires-clause-every c = set_there c.args.layout.now c.args.v c.in-Set.field-0 _ c.obeys_order.ensures (c.requires.kind ∙ ap Some c.in-Set.is) c.requires.long.every_long

pub sets-requires-clause-some : goal.sets-requires-clause-some
sets-requires-clause-some c = set_there c.args.layout.now c.args.v c.in-Set.field-0 _ c.obeys_order.ensures (c.requires.kind ∙ ap Some c.in-Set.is) c.requires.long.some_long
