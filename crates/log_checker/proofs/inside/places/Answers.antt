use Rattle.log_checker.proofs.Passing.{one_place_more}
use Rattle.log_checker.proofs.inside.places.Goals as goal

pub loop-place-preserved : goal.loop-place-preserved
loop-place-preserved c = one_place_more _ _ _ _ c.loop-place.invariant c.in_ok-push.ensures.items c.from.ensures
