use Rattle.log_rules.proofs.Growth.{state_grows, none_valid, valid_more, ends_as}
use Rattle.log_rules.proofs.laws.logs_grow_by_lines.Goals as goal

pub returns-clause-state : goal.returns-clause-state
returns-clause-state c log line = state_grows log line

pub returns-clause-start : goal.returns-clause-start
returns-clause-start c = none_valid c.args.p.now

pub returns-clause-one_more : goal.returns-clause-one_more
returns-clause-one_more c log line = valid_more c.args.p.now log line

pub returns-clause-end : goal.returns-clause-end
returns-clause-end c log end all = ends_as c.args.p.now log end all
