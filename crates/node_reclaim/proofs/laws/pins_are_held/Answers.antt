use Rattle.std.proofs.Common.{◌∙◌, arith}
use Rattle.node_reclaim.proofs.Reached.{times-append}
use Rattle.node_reclaim.proofs.laws.pins_are_held.Goals as goal

pub returns-clause-gained : goal.returns-clause-gained
returns-clause-gained c a b d rs qs first second i =
    let one = first i in
    let two = second i in
    let both = times-append i rs qs in
    omega (arith, one, two, both)

pub returns-clause-meant : goal.returns-clause-meant
returns-clause-meant c t u v rs first second r h = ((second r h).0, λ w. (second r h).1 w ∙ (first r h).1 w)
