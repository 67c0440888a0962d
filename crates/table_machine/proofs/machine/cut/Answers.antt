use Rattle.std.proofs.Common.{rules, not}
use Rattle.std.proofs.lemmas.List.Sorted.{IsPartitionPoint-from_clause}
use Rattle.bit_layout.specs.Words.{digit}
use Rattle.table_machine.proofs.Steps.{cut_found}
use Rattle.table_machine.proofs.machine.cut.Goals as goal

pub returns-clause-value : goal.returns-clause-value
returns-clause-value c =
    let found = IsPartitionPoint-from_clause (λ n. not (digit n c.args.rest)) _ _ c.partition_point.ensures.partitioned c.requires.parted (λ a r q k. search rules) in
    cut_found c.args.words.now c.args.rest c.args.from c.args.to c.partition_point.result c.partition_point.ensures.bound found
