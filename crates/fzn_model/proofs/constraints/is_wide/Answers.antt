use Rattle.set_meaning.specs.Relations.{IsScope}
use Rattle.fzn_model.specs.Shared.{constraint_in}
use Rattle.fzn_model.proofs.ConstraintRules.{wide_by}
use Rattle.fzn_model.proofs.constraints.is_wide.Goals as goal

pub returns : goal.returns
returns c =
    let scope : IsScope (constraint_in c.args.c.now) c.in_ok-scope.scope.items = c.in_ok-scope.ensures in
    let many = rw c.as_slice.ensures.value at c.have_many_bits.ensures in
    (λ t. (c.in_ok-scope.scope.items, scope, many.0 t), λ wide. many.1 (wide_by c.args.kinds.now (constraint_in c.args.c.now) c.in_ok-scope.scope.items scope wide))
