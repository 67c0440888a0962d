use Rattle.fzn_model.specs.State.{naming_of}
use Rattle.fzn_model.proofs.Founds.{found_array}
use Rattle.fzn_model.proofs.expressions.found_in_array.Goals as goal

pub returns : goal.returns
returns c =
    rw c.earlier.ensures
    (found_array (naming_of c.args.declared.now) c.args.shape c.args.start c.args.at c.args.items.now c.stray.result c.in_ok-found.found
    c.stray.ensures (rw c.item_shape.ensures at c.in_ok-found.ensures))
