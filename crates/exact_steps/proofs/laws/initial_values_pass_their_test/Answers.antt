use Rattle.std.specs.Prelude.{slice_get}
use Rattle.set_meaning.specs.Kinds.{InKind}
use Rattle.exact_steps.proofs.Values.{some_and, some_and_from, initial_kind, initial_from}
use Rattle.exact_steps.proofs.laws.initial_values_pass_their_test.Goals as goal

pub returns : goal.returns
returns c l v x ok = (
  λ h. let k = initial_kind l v x ok h in some_and_from (slice_get l.kinds v.0) (λ k. InKind k x) k.0 k.1 k.2,
  λ h. let k = some_and (slice_get l.kinds v.0) (λ k. InKind k x) h in initial_from l v k.0 x ok k.1 k.2,
)
