use Rattle.log_rules.proofs.Walks.{lo_below, hi_below, node_there}
use Rattle.log_rules.proofs.laws.children_are_deeper.Goals as goal

pub returns-clause-lo : goal.returns-clause-lo
returns-clause-lo c table n node legal is = (lo_below table legal n node is).earlier

pub returns-clause-hi : goal.returns-clause-hi
returns-clause-hi c table n node legal is = (hi_below table legal n node is).earlier

pub returns-clause-deeper_lo : goal.returns-clause-deeper_lo
returns-clause-deeper_lo c table n node legal is = (lo_below table legal n node is).deeper

pub returns-clause-deeper_hi : goal.returns-clause-deeper_hi
returns-clause-deeper_hi c table n node legal is = (hi_below table legal n node is).deeper

pub returns-clause-known : goal.returns-clause-known
returns-clause-known c table n node is = node_there table n node is
