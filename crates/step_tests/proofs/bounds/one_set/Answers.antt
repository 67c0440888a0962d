use Rattle.std.proofs.Common.{◌∙◌, ap}
use Rattle.set_meaning.specs.declared.kinds.Kind.TheVariants as kind
use Rattle.set_meaning.specs.Sets.{ascending_set}
use Rattle.step_tests.proofs.BoundSamples.{set_within}
use Rattle.step_tests.proofs.bounds.one_set.Goals as goal

pub returns-clause-limits : goal.returns-clause-limits
returns-clause-limits c =
    set_within c.in_ok-kinds.kinds.items c.in_ok-to_three.to_three c.in_ok-kinds.ensures.items (c.in_ok-to_three.ensures ∙ ap (λ xs. kind.Set (ascending_set xs)) c.as_slice.ensures)
