use Rattle.fzn_model.proofs.Parts.{float_part, int_part, large_part}
use Rattle.fzn_model.proofs.expressions.fault_of_number.Goals as goal

pub returns-in-Int : goal.returns-in-Int
returns-in-Int c = λ naming. rw c.in-Int.is (int_part naming c.args.shape c.args.at c.unsuited.result c.in-Int.field-0 (rw c.constant.ensures at c.unsuited.ensures))

pub returns-in-Large : goal.returns-in-Large
returns-in-Large c = λ naming.
    rw (c.in-Large.is, c.earlier.ensures)
    (large_part naming c.args.shape c.args.at c.unsuited-in-Large.result (rw c.constant-in-Large.ensures at c.unsuited-in-Large.ensures))

pub returns-in-Float : goal.returns-in-Float
returns-in-Float c = λ naming. rw c.in-Float.is (float_part naming c.args.shape c.args.at)
