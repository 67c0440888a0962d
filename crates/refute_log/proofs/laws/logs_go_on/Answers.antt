use Rattle.refute_log.proofs.Validity.{follows_header, follows_box, follows_learned, follows_nodes, table_with, text_more}
use Rattle.refute_log.proofs.laws.logs_go_on.Goals as goal

pub returns-clause-start : goal.returns-clause-start
returns-clause-start c = follows_header

pub returns-clause-boxes : goal.returns-clause-boxes
returns-clause-boxes c = follows_box

pub returns-clause-learned : goal.returns-clause-learned
returns-clause-learned c = follows_learned

pub returns-clause-nodes : goal.returns-clause-nodes
returns-clause-nodes c = follows_nodes

pub returns-clause-table : goal.returns-clause-table
returns-clause-table c = table_with

pub returns-clause-text : goal.returns-clause-text
returns-clause-text c = text_more
