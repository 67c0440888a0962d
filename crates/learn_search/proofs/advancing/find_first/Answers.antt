use Rattle.diagram_arena.specs.Arena.{table}
use Rattle.learn_search.proofs.Answers.{AnswerLaws}
use Rattle.learn_search.proofs.Reaching.{found_first}
use Rattle.learn_search.proofs.advancing.find_first.Goals as goal

pub returns-in-Ok-clause-found : goal.returns-in-Ok-clause-found
returns-in-Ok-clause-found c =
    let laws : AnswerLaws = record {
      same = c.solutions_are_those_of_the_rules.ensures.same;
      each = c.solutions_are_those_of_the_rules.ensures.each;
      covers = c.answers_cover_as_in_the_rules.ensures;
    } in
    found_first laws c.args.p.now c.requires.begun.standing.compiled.legal (table c.args.ops.now.arena) c.args.begun.now.boxes c.args.begun.now.trail c.find.new.ops _ c.in-Ok.found
    c.requires.begun.legal c.in-Ok.ensures.found c.in-Ok.ensures.further c.in-Ok.ensures.standing c.find.ensures.queue
