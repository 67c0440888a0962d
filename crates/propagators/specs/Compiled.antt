-- A compiled problem: the diagrams of its variables' initial values and of its constraints. This project's own, after the propagators of
-- Hawkins, Lagoon and Stuckey, JAIR 2005.
use Rattle.std.specs.Prelude.{◌≡◌, true, List, ◌++◌, length, Some, slice_get, Contains}
use Rattle.std.specs.List.{AllZip}
use Rattle.set_meaning.specs.declared.kinds.Value.{Value}
use Rattle.set_meaning.specs.declared.problems.VarId.{VarId}
use Rattle.set_meaning.specs.declared.problems.ConId.{ConId}
use Rattle.set_meaning.specs.declared.problems.Constraint.{Constraint}
use Rattle.set_meaning.specs.declared.problems.Problem.{Problem}
use Rattle.set_meaning.specs.Problems.{IsProblem}
use Rattle.set_meaning.specs.Relations.{Holds, variables_of, IsScope}
use Rattle.bit_layout.specs.Order.{LayoutState}
use Rattle.diagram_arena.specs.declared.nodes.Ref.{Ref}
use Rattle.diagram_arena.specs.Table.{Word, Table, has, IsLive}
use Rattle.scope_words.specs.Words.{IsDiagramOf}
use Rattle.exact_steps.specs.Domains.{is_initial, values_in, IsDomain}

-- a compiled problem as its callers see it: for each variable the domain of its initial values, for each constraint its scope and its diagram
pub record CompiledState : Type 0 where
  pub start : List Ref
  pub scopes : List (List VarId)
  pub diagrams : List Ref

-- the refs that it pins, each as often as it stands there
abbrev pub pinned_by : CompiledState → List Ref
pinned_by k = k.start ++ k.diagrams

-- r is the domain of the variable that has all its initial values
pub record IsInitialDomain (l : LayoutState) (t : Table) (v : VarId) (r : Ref) : Type 0 where
  pub domain : IsDomain l t v r
  pub all : (x : Value) → is_initial l v x ≡ true → values_in l t v r x ≡ true

-- that domain for each variable
pub record AreInitialDomains (l : LayoutState) (t : Table) (start : List Ref) : Type 0 where
  pub long : length start ≡ length l.kinds
  pub each : (v : VarId) (r : Ref) → slice_get start v.0 ≡ Some r → IsInitialDomain l t v r

-- r is the diagram of the constraint, its truth value included: the words that give its variables values which satisfy it
abbrev pub IsDiagramOfConstraint : LayoutState → Table → Constraint → Ref → Type 0
IsDiagramOfConstraint l t c r = IsDiagramOf l (variables_of c) (Holds c) t r

-- the problem p, with the layout l, is compiled to k. That p is well formed is kept with it, since it says that each scope has variables of p only
pub record IsCompiled (l : LayoutState) (p : Problem) (t : Table) (k : CompiledState) : Type 0 where
  pub legal : IsProblem p
  pub kinds : l.kinds ≡ p.kinds
  pub start : AreInitialDomains l t k.start
  pub scopes : AllZip IsScope p.constraints k.scopes
  pub diagrams : AllZip (IsDiagramOfConstraint l t) p.constraints k.diagrams

-- some problem is compiled to k
abbrev pub IsCompiledOfSome : LayoutState → Table → CompiledState → Type 0
IsCompiledOfSome l t k = (p : Problem) × IsCompiled l p t k

-- con is constraint number c of a problem that is compiled to k, and scope is its scope
pub record IsConstraintAt (l : LayoutState) (t : Table) (k : CompiledState) (c : ConId) (con : Constraint) (scope : List VarId) : Type 0 where
  pub problem : Problem
  pub compiled : IsCompiled l problem t k
  pub at : slice_get problem.constraints c.0 ≡ Some con
  pub scope_at : slice_get k.scopes c.0 ≡ Some scope
