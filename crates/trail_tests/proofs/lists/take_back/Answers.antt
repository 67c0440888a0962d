use Rattle.pin_lists.proofs.Leaving.{fewer_held}
use Rattle.trail_tests.proofs.lists.take_back.Goals as goal

pub take_back-requires-clause-held : goal.take_back-requires-clause-held
take_back-requires-clause-held c = fewer_held c.args.ops.now c.args.list.now c.args.aside.now c.requires
