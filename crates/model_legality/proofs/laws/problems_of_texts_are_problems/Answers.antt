-- Part by part, so that a wrong part is refused at its own place.
use Rattle.set_meaning.specs.Problems.{IsProblem}
use Rattle.model_legality.proofs.LegalTree.{problem_is_legal}
use Rattle.model_legality.proofs.laws.problems_of_texts_are_problems.Goals as goal

pub returns : goal.returns
returns c = λ is.
    let h : IsProblem c.args.p.now =
    problem_is_legal is.tree c.args.p.now (c.trees_are_in_order.ensures.solves_last _ is.tree is.spelled.spelled.spelled) is.problem in
    record { kinds = h.kinds; names = h.names; constraints = h.constraints; goal = h.goal; shown = h.shown }
