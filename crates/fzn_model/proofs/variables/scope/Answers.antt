use Rattle.std.proofs.Common.{subst}
use Rattle.std.specs.List.Sorted.{IsPermutation}
use Rattle.set_meaning.proofs.Variables.{scope_from_sort}
use Rattle.fzn_model.specs.Shared.{constraint_in}
use Rattle.fzn_model.proofs.variables.scope.Goals as goal

pub returns : goal.returns
returns c =
    let moved = subst (λ vs. IsPermutation vs c.sort_unstable.new.self.items) c.in_ok-variables.ensures c.sort_unstable.ensures.permutation in
    scope_from_sort (constraint_in c.args.c.now) _ _ moved c.sort_unstable.ensures.sorted c.dedup.ensures.filtered
