use Rattle.log_rules.proofs.Walks.{empty_table, table_grows, walk_stays, node_stays, tests_stay}
use Rattle.log_rules.proofs.laws.tables_grow.Goals as goal

pub returns-clause-empty : goal.returns-clause-empty
returns-clause-empty c = empty_table

pub returns-clause-one_more : goal.returns-clause-one_more
returns-clause-one_more c table node legal next = table_grows table node legal next

pub returns-clause-walks : goal.returns-clause-walks
returns-clause-walks c table more n word there = walk_stays table more n word there

pub returns-clause-nodes : goal.returns-clause-nodes
returns-clause-nodes c table more n there = node_stays table more n there

pub returns-clause-tests : goal.returns-clause-tests
returns-clause-tests c table more n place legal there tests = tests_stay table more legal n place there tests
