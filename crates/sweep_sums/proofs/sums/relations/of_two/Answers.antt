use Rattle.std.proofs.Common.{FitsSigned, w64, arith}
use Rattle.std.proofs.lemmas.Int.{to_z-of_z}
use Rattle.sweep_sums.specs.SumTables.{Adds, each_times}
use Rattle.sweep_sums.proofs.SumParts.{two_args, argument_small, two_summed}
use Rattle.sweep_sums.proofs.sums.relations.of_two.Goals as goal

pub add_argument-requires-clause-small : goal.add_argument-requires-clause-small
add_argument-requires-clause-small c = argument_small c.args.args.now 0 c.a-item.result (omega arith) c.a-item.is c.requires.constants

pub add_argument-requires-in-len2-clause-small : goal.add_argument-requires-in-len2-clause-small
add_argument-requires-in-len2-clause-small c = argument_small c.args.args.now 1 c.b-item.result (omega arith) c.b-item.is c.requires.constants

pub returns-in_ok-add_argument-in-len2-2 : goal.returns-in_ok-add_argument-in-len2-2
returns-in_ok-add_argument-in-len2-2 c =
    let fits_c : FitsSigned w64 c.args.first = c.ranges.first in
    let fits_d : FitsSigned w64 c.args.second = c.ranges.second in
    let fits_offset : FitsSigned w64 c.args.offset = c.ranges.offset in
    let first : Adds (each_times c.args.first c.a-item.result) c.of-sum.result c.add_argument.new.self = simp to_z-of_z at c.in_ok-add_argument-in-len2.ensures in
    let second : Adds (each_times c.args.second c.b-item.result) c.add_argument.new.self c.add_argument-in-len2.new.self = simp to_z-of_z at c.in_ok-add_argument-in-len2-2.ensures in
    two_summed c.args.first c.args.second c.args.offset c.args.comparison c.args.args.now c.a-item.result c.b-item.result c.of-sum.result c.add_argument.new.self c.add_argument-in-len2.new.self c.compared.result
    (two_args c.args.args.now c.a-item.result c.b-item.result c.in-len2.len_at_least c.in-len2.len_below c.a-item.is c.b-item.is) c.requires.first c.requires.second c.requires.few first second
    record {
      empty = c.of-sum.ensures.terms;
      begun = simp to_z-of_z at c.of-sum.ensures.constant;
      small = c.requires.offset;
      terms = c.compared.ensures.terms;
      constant = c.compared.ensures.constant;
      comparison = c.compared.ensures.comparison;
    }
