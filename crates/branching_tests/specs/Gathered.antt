-- For the tests: domains of the first variables.
use Rattle.std.specs.Prelude.{◌≡◌, ℕ, List, Some, length, slice_get}
use Rattle.set_meaning.specs.declared.problems.VarId.{VarId}
use Rattle.bit_layout.specs.Order.{LayoutState}
use Rattle.diagram_arena.specs.declared.nodes.Ref.{Ref}
use Rattle.diagram_arena.specs.Table.{Table}
use Rattle.exact_steps.specs.Domains.{IsDomain}

pub record AreFirstDomains (l : LayoutState) (t : Table) (n : ℕ) (domains : List Ref) : Type 0 where
  pub long : length domains ≡ n
  pub each : (v : VarId) (r : Ref) → slice_get domains v.0 ≡ Some r → IsDomain l t v r
