use Rattle.value_sets.proofs.Staying.{set_same}
use Rattle.exact_steps.proofs.Wanted.{values_same}
use Rattle.value_sets.proofs.laws.value_sets_stay.Goals as goal

pub returns-clause-grown : goal.returns-clause-grown
returns-clause-grown c l t u v r grows is = (set_same l t u v r (grows.live r is.live) (grows.words r is.live) is, values_same l t u v r (grows.words r is.live))

pub returns-clause-meant : goal.returns-clause-meant
returns-clause-meant c l t u v r rs means listed is =
    let m = means r listed in
    (set_same l t u v r m.0 m.1 is, values_same l t u v r m.1)
