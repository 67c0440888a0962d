use Rattle.std.specs.Prelude.{map}
use Rattle.refute_log.specs.Lines.{numbered, log_value}
use Rattle.refute_log.proofs.Validity.{header_valid, nodes_valid, axiom_valid, answer_valid, resolvent_valid, learned_valid, close_valid, end_valid}
use Rattle.refute_log.proofs.laws.lines_are_valid.Goals as goal

pub returns-clause-header : goal.returns-clause-header
returns-clause-header c = header_valid c.args.p.now

pub returns-clause-nodes : goal.returns-clause-nodes
returns-clause-nodes c w log more = nodes_valid c.args.p.now w log more

pub returns-clause-axiom : goal.returns-clause-axiom
returns-clause-axiom c w log constraint sides = axiom_valid c.args.p.now w log constraint.0 (numbered sides)

pub returns-clause-answer : goal.returns-clause-answer
returns-clause-answer c w log values sides = answer_valid c.args.p.now w log (map log_value values) (numbered sides)

pub returns-clause-resolvent : goal.returns-clause-resolvent
returns-clause-resolvent c w log left right pivot sides = resolvent_valid c.args.p.now w log left right pivot.0 (numbered sides)

pub returns-clause-learned : goal.returns-clause-learned
returns-clause-learned c w log k = learned_valid c.args.p.now w log k

pub returns-clause-close : goal.returns-clause-close
returns-clause-close c w log k = close_valid c.args.p.now w log k

pub returns-clause-end : goal.returns-clause-end
returns-clause-end c w log = end_valid c.args.p.now w log
