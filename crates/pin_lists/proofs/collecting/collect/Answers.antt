use Rattle.pin_lists.proofs.Leaving.{collects}
use Rattle.pin_lists.proofs.collecting.collect.Goals as goal

pub returns : goal.returns
returns c = collects c.args.ops.now c.collect.new.self c.pinned_refs_are_kept.ensures c.collect.ensures
