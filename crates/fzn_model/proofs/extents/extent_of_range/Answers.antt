use Rattle.std.proofs.Common.{arith}
use Rattle.std.specs.Prelude.{◌≤ℤ◌, FitsSigned}
use Rattle.std.proofs.lemmas.Int.{ints, to_z-of_z}
use Rattle.fzn_model.proofs.Spans.{range_extent}
use mir.Syntax.{w64}
use Rattle.fzn_model.proofs.extents.extent_of_range.Goals as goal

pub returns : goal.returns
returns c =
    let lo_fits : FitsSigned w64 c.args.lo = c.ranges.lo in
    let hi_fits : FitsSigned w64 c.args.hi = c.ranges.hi in
    let up : c.args.lo ≤ℤ c.args.hi = grind (arith, ints, to_z-of_z, c.if-hi-lo.false) in
    let large = simp to_z-of_z at c.is_large_at.ensures in
    rw (c.range_size.ensures, c.abs_diff.ensures)
    (simp to_z-of_z (range_extent c.args.lo c.args.hi c.is_large_at.result up large))
