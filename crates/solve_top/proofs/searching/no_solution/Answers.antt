use Rattle.std.proofs.lemmas.Result.{IfOk-weaker}
use Rattle.solve_top.proofs.OneAnswer.{no_solution_answers}
use Rattle.solve_top.proofs.searching.no_solution.Goals as goal

pub returns : goal.returns
returns c = IfOk-weaker c.from_slice.result _ _ (λ out e. no_solution_answers c.args.p.now out.items c.requires e) c.from_slice.ensures.items
