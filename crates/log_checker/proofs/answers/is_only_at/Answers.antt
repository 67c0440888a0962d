use Rattle.std.proofs.Common.{rules, ◌<◌, ◌≤◌, ◌≡◌, ◌^◌, length, arith}
use Rattle.log_checker.proofs.AnswerLaws.{few_kinds, as_many, initial_at, node_there, node_width, only_here, only_nowhere, word_is}
use Rattle.log_checker.proofs.answers.is_only_at.Goals as goal

pub overflow_cast-v : goal.overflow_cast-v
overflow_cast-v c =
    let few : length c.args.check.now.problem.now.kinds ≤ 1048576 = few_kinds c.args.check.now.problem.now.kinds c.requires.ready.limits.kinds in
    let long : length c.args.values.now ≡ length c.args.check.now.problem.now.kinds = as_many c.args.check.now.problem.now.kinds c.args.values.now c.requires.solution.assignment in
    let known : c.args.v < length c.args.values.now = c.requires.known in
    let e : c.args.v < 2 ^ 32 = omega arith in search rules

pub word_of-requires : goal.word_of-requires
word_of-requires c = initial_at c.args.check.now.problem.now.kinds c.args.check.now.layout.now.kinds c.args.values.now c.args.v c.value_at-value.result.now c.requires.ready.layout c.requires.solution.assignment c.value_at-value.ensures

pub is_only-requires-clause-inside : goal.is_only-requires-clause-inside
is_only-requires-clause-inside c = node_there c.args.check.now.problem.now.kinds c.args.check.now.earlier.now.table c.args.sides.now c.args.v _ c.node_of-node.ensures c.requires.sides

pub is_only-requires-clause-fits : goal.is_only-requires-clause-fits
is_only-requires-clause-fits c = node_width c.args.check.now.problem.now.kinds c.args.check.now.earlier.now.table c.args.sides.now c.args.v _ c.in-Some.kind.now c.node_of-node.ensures c.in-Some.ensures.some c.requires.sides

pub returns-in_ok-yes-in-Some : goal.returns-in_ok-yes-in-Some
returns-in_ok-yes-in-Some c =
    only_here c.args.check.now.problem.now.kinds c.args.check.now.earlier.now.table (λ word. c.walks_go_to_children.ensures.everything c.args.check.now.earlier.now.table word) c.args.sides.now c.args.values.now c.args.v c.node_of-node.result c.in-Some.kind.now c.value_at-value.result.now
    c.as_slice.result.now c.in_ok-yes-in-Some.yes c.requires.sides c.requires.solution.assignment c.in-Some.ensures.some c.value_at-value.ensures c.node_of-node.ensures
    (word_is c.args.check.now.problem.now.kinds c.args.check.now.layout.now.kinds c.args.v c.in-Some.kind.now c.value_at-value.result.now _ _ c.requires.ready.layout c.in-Some.ensures.some c.as_slice.ensures.value c.in_ok-word-in-Some.ensures.word)
    c.in-Some.ensures.within.legal c.values_have_words.ensures.apart c.in_ok-yes-in-Some.ensures

pub returns-in-None : goal.returns-in-None
returns-in-None c = only_nowhere c.args.check.now.problem.now.kinds c.args.check.now.earlier.now.table c.args.sides.now c.args.values.now c.args.v c.in-None.ensures.none
