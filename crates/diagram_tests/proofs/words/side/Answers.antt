use Rattle.std.proofs.Common.{true, false}
use Rattle.diagram_tests.proofs.words.side.Goals as goal

pub returns-then-is_set : goal.returns-then-is_set
returns-then-is_set c = c.node-node.ensures.stands.live true

pub returns-else-is_set : goal.returns-else-is_set
returns-else-is_set c = c.node-node.ensures.stands.live false
