use Rattle.std.proofs.Common.{◌≡◌}
use Rattle.log_checker.specs.Shapes.{own_places}
use Rattle.log_checker.proofs.inside.places.Given as goal

abbrev pub invariant-loop-place : goal.invariant-loop-place
invariant-loop-place l = l.places.items ≡ own_places l.place
