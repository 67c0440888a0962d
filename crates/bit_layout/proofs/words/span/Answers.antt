use Rattle.std.proofs.Common.{rules}
use Rattle.std.proofs.lemmas.Int.{to_z-of_z}
use Rattle.std.specs.Prelude.{FitsSigned}
use mir.Syntax.{w64}
use Rattle.bit_layout.proofs.Elements.{ends_in_order}
use Rattle.bit_layout.proofs.words.span.Goals as goal

pub distance-requires-clause-up : goal.distance-requires-clause-up
distance-requires-clause-up c =
    let low : FitsSigned w64 c.least.result = search rules in
    let high : FitsSigned w64 c.greatest.result = search rules in
    simp to_z-of_z (rw (c.least.ensures, c.greatest.ensures) (ends_in_order c.args.numbers.now c.requires.ascending))
