use Rattle.log_checker.proofs.SideLaws.{deepest_fits, untested_fits}
use Rattle.log_checker.proofs.sides.fits_width.Goals as goal

pub returns-in-Some : goal.returns-in-Some
returns-in-Some c = deepest_fits _ _ _ _ _ c.in-Some.ensures.some c.from.ensures

pub returns-in-None : goal.returns-in-None
returns-in-None c = untested_fits _ _ _ c.in-None.ensures.none
