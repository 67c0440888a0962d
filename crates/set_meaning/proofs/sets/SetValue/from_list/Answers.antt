use Rattle.std.proofs.Common.{subst}
use Rattle.std.specs.List.Sorted.{IsPermutation}
use Rattle.set_meaning.proofs.Ascending.{set_from_sort, ascending_set_is}
use Rattle.set_meaning.proofs.sets.SetValue.from_list.Goals as goal

pub returns-clause-set : goal.returns-clause-set
returns-clause-set c =
    let moved = subst (λ s. IsPermutation s c.sort_unstable.new.self.items) c.in_ok-elements.ensures.items c.sort_unstable.ensures.permutation in
    set_from_sort _ _ _ moved c.sort_unstable.ensures.sorted c.dedup.ensures.filtered

pub invariant_of-result : goal.invariant_of-result
invariant_of-result c = (returns-clause-set c).ascending

pub returns-clause-exact : goal.returns-clause-exact
returns-clause-exact c = ascending_set_is _ _ (returns-clause-set c)
