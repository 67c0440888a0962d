use Rattle.log_checker.specs.Body.{log_of}
use Rattle.log_checker.proofs.Taking.{kept_of}
use Rattle.log_checker.proofs.checker.Checker.judge.Goals as goal

pub first_broken-requires-clause-ready : goal.first_broken-requires-clause-ready
first_broken-requires-clause-ready c = record {
  limits = c.self.invariant.limits;
  layout = c.self.invariant.layout;
  kept = kept_of c.self.inside.problem c.self.invariant.lines (log_of c.self.inside.earlier) c.self.invariant.valid c.self.invariant.made
      c.valid_logs_are_sound.ensures.table c.valid_logs_are_sound.ensures.sides;
}
