use Rattle.bit_layout.proofs.Numbers.{width_by_leading}
use Rattle.bit_layout.proofs.words.bit_width.Goals as goal

pub returns : goal.returns
returns c = width_by_leading c.args.number c.ranges.number.fits
