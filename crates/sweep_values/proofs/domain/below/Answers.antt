use Rattle.std.proofs.Common.{nat_lt, rules, sym}
use Rattle.std.proofs.lemmas.List.Sorted.{IsPartitionPoint-from_clause, IsPartitionedBy-ltb}
use Rattle.sweep_values.proofs.Counting.{below_point, not_falling}
use Rattle.sweep_values.proofs.domain.below.Goals as goal

pub returns : goal.returns
returns c =
    let numbers = c.args.numbers.now in
    let k = c.args.bound in
    let parted = IsPartitionedBy-ltb (λ x. x) numbers k (not_falling numbers c.requires) in
    let point = IsPartitionPoint-from_clause (λ y. nat_lt y k) numbers c.partition_point.result c.partition_point.ensures.partitioned parted (λ a r q h. search rules) in
    sym (below_point numbers k c.partition_point.result c.partition_point.ensures.bound point)
