use Rattle.std.proofs.Common.{sym}
use Rattle.learn_search.specs.Stages.{values_in_all}
use Rattle.learn_search.proofs.Answers.{AnswerLaws}
use Rattle.learn_search.proofs.Reaching.{reached_answer, stands_at, stands_after}
use Rattle.learn_search.proofs.answering.answer.Goals as goal

pub returns-clause-means : goal.returns-clause-means
returns-clause-means c =
    let laws : AnswerLaws = record {
      same = c.solutions_are_those_of_the_rules.ensures.same;
      each = c.solutions_are_those_of_the_rules.ensures.each;
      covers = c.answers_cover_as_in_the_rules.ensures;
    } in
    reached_answer laws c.args.p.now c.single_states_are_answers.ensures c.args.ops.now c.args.begun.now (values_in_all c.args.answers.now.items) c.requires.reached
    c.domains.result.now c.domains.ensures c.in_ok-values.values.items (c.in_ok-values.ensures.single c.args.p.now (sym c.requires.reached.standing.compiled.kinds))

pub returns-clause-stands : goal.returns-clause-stands
returns-clause-stands c =
    let laws : AnswerLaws = record {
      same = c.solutions_are_those_of_the_rules.ensures.same;
      each = c.solutions_are_those_of_the_rules.ensures.each;
      covers = c.answers_cover_as_in_the_rules.ensures;
    } in
    stands_at laws c.args.p.now c.single_states_are_answers.ensures c.args.ops.now c.args.begun.now (values_in_all c.args.answers.now.items) c.requires.reached
    c.domains.result.now c.domains.ensures c.in_ok-values.values.items (c.in_ok-values.ensures.single c.args.p.now (sym c.requires.reached.standing.compiled.kinds))

pub returns-clause-legal : goal.returns-clause-legal
returns-clause-legal c =
    stands_after c.args.p.now c.args.ops.now c.args.begun.now (values_in_all c.args.answers.now.items) c.in_ok-values.values.items (returns-clause-stands c)
    c.answers_keep_states_legal.ensures.answer
