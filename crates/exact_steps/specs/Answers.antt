-- The answer of a step by the list of what is narrowed. A word of private helpers.
use Rattle.std.specs.Prelude.{◌≡◌, ◌≢◌, List, []}
use Rattle.set_meaning.specs.declared.problems.VarId.{VarId}
use Rattle.diagram_arena.specs.declared.nodes.Ref.{Ref}
use Rattle.exact_steps.specs.declared.steps.StepResult.{StepResult}
use Rattle.exact_steps.specs.declared.steps.StepResult.TheVariants as step

abbrev pub IsAnswer : List (VarId × Ref) → StepResult → Type 0
IsAnswer kept step.Same = kept ≡ []
IsAnswer kept (step.Narrowed listed) = (listed.items ≡ kept) × (kept ≢ [])
IsAnswer kept step.Empty = ⊥
