use Rattle.std.proofs.Common.{arith}
use Rattle.sweep_sums.proofs.SumParts.{three_args, argument_small, plus_summed}
use Rattle.sweep_sums.proofs.sums.relations.of_plus.Goals as goal

pub add_argument-requires-clause-small : goal.add_argument-requires-clause-small
add_argument-requires-clause-small c = argument_small c.args.args.now 0 c.a-item.result (omega arith) c.a-item.is c.requires.constants

pub add_argument-requires-in-len3-clause-small : goal.add_argument-requires-in-len3-clause-small
add_argument-requires-in-len3-clause-small c = argument_small c.args.args.now 1 c.b-item.result (omega arith) c.b-item.is c.requires.constants

pub add_argument-requires-in-len3-2-clause-small : goal.add_argument-requires-in-len3-2-clause-small
add_argument-requires-in-len3-2-clause-small c = argument_small c.args.args.now 2 c.c-item.result (omega arith) c.c-item.is c.requires.constants

pub returns-in_ok-add_argument-in-len3-3 : goal.returns-in_ok-add_argument-in-len3-3
returns-in_ok-add_argument-in-len3-3 c =
    plus_summed c.args.args.now c.a-item.result c.b-item.result c.c-item.result c.of-sum.result c.add_argument.new.self c.add_argument-in-len3.new.self c.add_argument-in-len3-2.new.self c.compared.result
    (three_args c.args.args.now c.a-item.result c.b-item.result c.c-item.result c.in-len3.len_at_least c.in-len3.len_below c.a-item.is c.b-item.is c.c-item.is) c.requires.few
    c.in_ok-add_argument-in-len3.ensures c.in_ok-add_argument-in-len3-2.ensures c.in_ok-add_argument-in-len3-3.ensures
    record {
      empty = c.of-sum.ensures.terms;
      begun = c.of-sum.ensures.constant;
      small = omega arith;
      terms = c.compared.ensures.terms;
      constant = c.compared.ensures.constant;
      comparison = c.compared.ensures.comparison;
    }
