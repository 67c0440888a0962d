use Rattle.std.proofs.Common.{refl}
use Rattle.learn_search.proofs.Answers.{AnswerLaws}
use Rattle.learn_search.proofs.Reaching.{found_next}
use Rattle.learn_search.proofs.advancing.find_next.Goals as goal

pub returns-in-Ok-clause-found : goal.returns-in-Ok-clause-found
returns-in-Ok-clause-found c given at =
    let laws : AnswerLaws = record {
      same = c.solutions_are_those_of_the_rules.ensures.same;
      each = c.solutions_are_those_of_the_rules.ensures.each;
      covers = c.answers_cover_as_in_the_rules.ensures;
    } in
    found_next c.args.p.now c.args.ops.now c.args.begun.now given at c.answers_keep_states_legal.ensures.answer laws at.reached.standing.compiled.legal c.resume.new.ops _ c.in-Ok.found
    c.in-Ok.ensures.found c.in-Ok.ensures.resumed refl
    (λ have. c.answers_keep_their_boxes.ensures.resumed _ _ _ _ _ _ _ _ _ _ c.in-Ok.ensures.resumed at.single have)
    c.in-Ok.ensures.standing c.resume.ensures.queue
