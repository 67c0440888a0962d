use Rattle.std.proofs.Common.{◌≡◌, ◌*◌, ◌≤◌, take, sum_by}
use Rattle.fzn_model.specs.FaultsOf.{set_size}
use Rattle.fzn_model.proofs.counting.set_sizes.Given as goal

abbrev pub invariant-loop-term : goal.invariant-loop-term
invariant-loop-term l = record {
  counted : l.total ≡ sum_by set_size (take l.term-index l.terms);
  bounded : l.total ≤ l.term-index * 18446744073709551615;
}
