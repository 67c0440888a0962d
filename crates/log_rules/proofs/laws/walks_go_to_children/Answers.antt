use Rattle.std.proofs.Common.{arith}
use Rattle.log_rules.proofs.Walks.{walk_of_an_end, walk_to_the_child}
use Rattle.log_rules.proofs.laws.walks_go_to_children.Goals as goal

pub returns-clause-nothing : goal.returns-clause-nothing
returns-clause-nothing c table word = walk_of_an_end table 0 word (omega arith)

pub returns-clause-everything : goal.returns-clause-everything
returns-clause-everything c table word = walk_of_an_end table 1 word (omega arith)

pub returns-clause-child : goal.returns-clause-child
returns-clause-child c table n node word legal is = walk_to_the_child table legal n node word is
