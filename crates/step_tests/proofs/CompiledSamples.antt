-- What the tests' helpers rest on.
use Rattle.std.proofs.Common.{◌≡◌, ℕ, ◌+◌, ◌<◌, Bool, List, [], length, get_or, Some, ap, arith, Contains}
use Rattle.std.specs.Prelude.{Vec, slice_get}
use Rattle.std.specs.declared.alloc.Global.{Global}
use Rattle.std.specs.Option.{unwrap_or}
use Rattle.std.specs.FinMap as map
use Rattle.std.proofs.lemmas.Option.{slice_get-get_or}
use Rattle.std.proofs.lemmas.Slice.Zip.{AllZip-long}
use Rattle.set_meaning.specs.declared.kinds.Value.{Value}
use Rattle.set_meaning.specs.declared.problems.VarId.{VarId}
use Rattle.set_meaning.specs.declared.problems.ConId.{ConId}
use Rattle.set_meaning.specs.declared.problems.Constraint.{Constraint}
use Rattle.set_meaning.specs.declared.problems.Problem.{Problem}
use Rattle.set_meaning.specs.Relations.{Holds, IsScope}
use Rattle.bit_layout.specs.Order.{LayoutState}
use Rattle.diagram_arena.specs.declared.nodes.Ref.{Ref}
use Rattle.diagram_arena.specs.declared.nodes.Ref.TheVariants.{Zero}
use Rattle.diagram_arena.specs.Table.{Table}
use Rattle.node_reclaim.specs.Pool.{PoolState, pins_of, times}
use Rattle.exact_steps.specs.declared.steps.StepResult.TheVariants as step
use Rattle.exact_steps.specs.Domains.{IsDomain}
use Rattle.exact_steps.specs.Steps.{IsStepOf}
use Rattle.node_reclaim.specs.Holders.{Gains, AreHeld}
use Rattle.propagators.specs.Compiled.{CompiledState, IsDiagramOfConstraint, IsCompiled, IsConstraintAt}
use Rattle.propagators.proofs.Scopes.{entry}

-- a compiled problem has a scope for each constraint
pub scope_there : (l : LayoutState) (p : Problem) (t : Table) (k : CompiledState) (n : ℕ) → IsCompiled l p t k → n < length p.constraints → n < length k.scopes
scope_there l p t k n is within = let long : length k.scopes ≡ length p.constraints = AllZip-long IsScope p.constraints k.scopes is.scopes in omega (arith, long, within)

-- what a step narrows are domains
pub kept_domains : (l : LayoutState) (p : Problem) (t u : Table) (k : CompiledState) (c : ConId) (f : ℕ → Value → Bool) (kept : Vec (VarId × Ref) Global) → IsCompiled l p t k → c.0 < length p.constraints
    → ((con : Constraint) (scope : List VarId) → IsConstraintAt l t k c con scope → IsStepOf l scope (Holds con) f u (step.Narrowed kept))
    → (v : VarId) (r : Ref) → Contains {X = VarId × Ref} kept.items (v, r) → IsDomain l u v r
kept_domains l p t u k c f kept is within answer v r m =
    let n : ℕ = c.0 in
    let scopes : length k.scopes ≡ length p.constraints = AllZip-long IsScope p.constraints k.scopes is.scopes in
    let diagrams : length k.diagrams ≡ length p.constraints = AllZip-long (IsDiagramOfConstraint l t) p.constraints k.diagrams is.diagrams in
    let scope : List VarId = get_or k.scopes n [] in
    let at_scope : slice_get k.scopes n ≡ Some scope = slice_get-get_or k.scopes n [] (omega (arith, scopes, within)) in
    let e = entry l p t k n scope (get_or k.diagrams n Zero) is at_scope (slice_get-get_or k.diagrams n Zero (omega (arith, diagrams, within))) in
    ((answer e.0 scope (record { problem = p; compiled = is; at = e.1; scope_at = at_scope })).2.each v r m).domain

-- pins that were gained are there as long as the counts are the same
pub held_then : (old mid new : PoolState) (rs : List Ref) → Gains old mid rs → new.counts ≡ mid.counts → AreHeld new rs
held_then old mid new rs gains same i =
    let gained : pins_of mid i ≡ pins_of old i + times i rs = gains i in
    let counts : pins_of new i ≡ pins_of mid i = ap (λ m. unwrap_or (map.get m i) 0) same in
    omega (arith, gained, counts)
