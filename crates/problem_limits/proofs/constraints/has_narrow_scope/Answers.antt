use Rattle.set_meaning.specs.Relations.{IsScope}
use Rattle.problem_limits.proofs.Members.{each_scope}
use Rattle.problem_limits.proofs.constraints.has_narrow_scope.Goals as goal

pub returns : goal.returns
returns c =
    let scope : IsScope c.args.c.now c.in_ok-scope.scope.items = c.in_ok-scope.ensures in
    let told = rw c.as_slice.ensures.value at c.are_narrow.ensures in
    (λ t. each_scope c.args.kinds.now c.args.c.now c.in_ok-scope.scope.items scope (told.0 t), λ all. told.1 (all c.in_ok-scope.scope.items scope))
