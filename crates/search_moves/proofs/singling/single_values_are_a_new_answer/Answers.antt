use Rattle.std.proofs.lemmas.List.Elements.{recursion_from_All}
use Rattle.search_moves.specs.Answers.{HasBox}
use Rattle.search_moves.proofs.Singles.{in_no_box, not_covered}
use Rattle.search_moves.proofs.singling.single_values_are_a_new_answer.Goals as goal

pub returns-clause-outside : goal.returns-clause-outside
returns-clause-outside g c answers boxes a solution have outside =
    let p = g.P.Rules.problem c.args.problem.now in
    not_covered p answers boxes a solution (recursion_from_All (HasBox p boxes) answers have) outside

pub returns-clause-solution : goal.returns-clause-solution
returns-clause-solution g c boxes es f a trail single left each =
    c.single_values_are_a_solution.ensures f a (c.trails_stay_within.ensures.initial boxes es f trail) single left each

pub returns-clause-uncovered : goal.returns-clause-uncovered
returns-clause-uncovered g c answers boxes es f a trail single solution have quiet =
    let p = g.P.Rules.problem c.args.problem.now in
    let initial = c.trails_stay_within.ensures.initial boxes es f trail in
    not_covered p answers boxes a solution (recursion_from_All (HasBox p boxes) answers have)
    (λ b stored. in_no_box p b f a initial single (quiet b stored).0 (quiet b stored).1)
