use Rattle.std.proofs.lemmas.Result.{IfOk-weaker}
use Rattle.sweep_sums.specs.Forms.{IsSumOf}
use Rattle.sweep_sums.specs.SumTables.{summands_of, offset_of, comparison_of, IsSumOver}
use Rattle.sweep_sums.proofs.SumRelations.{sum_is_of}
use Rattle.sweep_sums.proofs.sums.sum_of.Goals as goal

pub returns : goal.returns
returns c =
    let args = c.args.args.now in
    let relation = c.args.relation in
    IfOk-weaker _ (IsSumOver (summands_of relation args) (offset_of relation args) (comparison_of relation)) (IsSumOf c.args.kinds.now relation args)
    (λ s is. sum_is_of c.args.kinds.now relation args s c.requires.shape c.requires.fits c.requires.paired c.requires.constants c.requires.few is) c.table_sum.ensures
