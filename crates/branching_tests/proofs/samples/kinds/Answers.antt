use Rattle.std.proofs.Common.{◌∙◌, ap}
use Rattle.set_meaning.specs.declared.kinds.Kind.TheVariants as kind
use Rattle.set_meaning.specs.Sets.{ascending_set}
use Rattle.branching_tests.proofs.KindSamples.{sample_within}
use Rattle.branching_tests.proofs.samples.kinds.Goals as goal

pub returns : goal.returns
returns c =
    sample_within c.in_ok-kinds.kinds.items c.in_ok-to_three.to_three c.in_ok-with_holes.with_holes c.in_ok-empty.empty c.in_ok-kinds.ensures.items
    (c.in_ok-to_three.ensures ∙ ap (λ xs. kind.Set (ascending_set xs)) c.as_slice.ensures)
    (c.in_ok-with_holes.ensures ∙ ap (λ xs. kind.Int (ascending_set xs)) c.as_slice-2.ensures)
    (c.in_ok-empty.ensures ∙ ap (λ xs. kind.Set (ascending_set xs)) c.as_slice-3.ensures)
