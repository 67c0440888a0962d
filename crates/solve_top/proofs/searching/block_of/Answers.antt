use Rattle.std.proofs.lemmas.Result.{IfOk-weaker}
use Rattle.solve_top.proofs.OneAnswer.{block_answers}
use Rattle.solve_top.proofs.searching.block_of.Goals as goal

pub returns : goal.returns
returns c = IfOk-weaker c.block.result _ _ (λ out e. block_answers c.args.p.now c.args.values.now out.items c.requires e) c.block.ensures
