use Rattle.std.proofs.Common.{◌≡◌, true, get_or, refl, subst}
use Rattle.plain_steps.specs.Sets.{has}
use Rattle.plain_steps.proofs.SetLemmas.{has_at}
use Rattle.plain_steps.proofs.step.extending.Goals as goal

pub extends-requires-clause-inside : goal.extends-requires-clause-inside
extends-requires-clause-inside g c =
    subst (λ xs. has xs (get_or c.set_of-x-items.result.now c.loop-x.x-index 0) ≡ true) c.set_of-x-items.ensures
    (has_at c.set_of-x-items.result.now c.loop-x.x-index (get_or c.set_of-x-items.result.now c.loop-x.x-index 0) c.loop-x-test.true refl)
