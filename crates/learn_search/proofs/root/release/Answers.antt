use Rattle.propagators.specs.Compiled.{pinned_by}
use Rattle.learn_search.proofs.Spending.{held_way, held_frame, both_spent}
use Rattle.learn_search.proofs.root.release.Goals as goal

pub release-requires : goal.release-requires
release-requires c = held_way c.args.ops.now c.args.ops.now (pinned_by c.args.compiled) c.args.domains c.requires

pub release-requires-2 : goal.release-requires-2
release-requires-2 c = held_frame c.args.ops.now c.release.new.ops (pinned_by c.args.compiled) c.args.domains c.requires c.release.ensures

pub returns : goal.returns
returns c = both_spent c.args.ops.now c.release.new.ops (pinned_by c.args.compiled) c.args.domains c.requires c.release-2.new.ops c.release.ensures c.release-2.ensures
