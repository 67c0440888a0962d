use Rattle.std.proofs.Common.{◌≡◌, ◌*◌, ◌≤◌, take, sum_by}
use Rattle.std.specs.Prelude.{map}
use Rattle.fzn_model.specs.FaultsOf.{set_size}
use Rattle.fzn_model.specs.Shared.{term_in}
use Rattle.fzn_model.proofs.shared.set_sizes.Given as goal

abbrev pub invariant-loop-term : goal.invariant-loop-term
invariant-loop-term l = record {
  counted : l.total ≡ sum_by set_size (map term_in (take l.term-index l.terms));
  bounded : l.total ≤ l.term-index * 18446744073709551615;
}
