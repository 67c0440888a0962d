use Rattle.diagram_ops.proofs.Moves.{all_first, all_empty}
use Rattle.diagram_ops.proofs.pairs.first_or_one.Goals as goal

pub returns-in-Some : goal.returns-in-Some
returns-in-Some c t pairs live = all_first t pairs c.args.refs.now _ c.in-Some.ensures.value c.requires live

pub returns-in-None : goal.returns-in-None
returns-in-None c t pairs live = all_empty t pairs c.args.refs.now c.in-None.ensures.value
