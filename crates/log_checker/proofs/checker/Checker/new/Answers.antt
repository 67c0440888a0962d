use Rattle.std.proofs.Common.{[], sym}
use Rattle.log_checker.proofs.Taking.{nothing_made}
use Rattle.log_checker.proofs.checker.Checker.new.Goals as goal

pub invariant_of-result : goal.invariant_of-result
invariant_of-result c = record {
  limits = c.requires;
  layout = c.in_ok-layout.ensures.kinds;
  lines = [];
  valid = c.logs_grow_by_lines.ensures.start;
  made = nothing_made _ _ _ c.new-2.ensures c.new-3.ensures.items c.new-4.ensures.items;
}

pub returns : goal.returns
returns c = λ i. record { problem = c.args.problem; log = sym (nothing_made _ _ _ c.new-2.ensures c.new-3.ensures.items c.new-4.ensures.items) i }
