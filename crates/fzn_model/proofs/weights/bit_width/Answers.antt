use Rattle.fzn_model.proofs.Widths.{width_by_leading}
use Rattle.fzn_model.proofs.weights.bit_width.Goals as goal

pub returns : goal.returns
returns c = width_by_leading c.widths_are_least.ensures c.args.number c.ranges.number.fits
