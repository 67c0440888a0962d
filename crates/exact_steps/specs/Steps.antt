-- The exact step of a constraint on a family of domains, as in search_rules, over assignments as lists and domains as diagrams.
-- Source: domain consistency as in Hawkins, Lagoon and Stuckey, JAIR 2005.
use Rattle.std.specs.Prelude.{◌≡◌, ◌≢◌, ℕ, Bool, true, List, [], ◌∷◌, map, Some, Contains, slice_get}
use Rattle.std.specs.Ordering.{nat_cmp}
use Rattle.std.specs.List.Sorted.{IsStrictlySortedBy}
use Rattle.set_meaning.specs.declared.kinds.Value.{Value}
use Rattle.set_meaning.specs.declared.problems.VarId.{VarId}
use Rattle.set_meaning.specs.Kinds.{IsAssignment}
use Rattle.bit_layout.specs.Order.{LayoutState}
use Rattle.diagram_arena.specs.declared.nodes.Ref.{Ref}
use Rattle.diagram_arena.specs.Table.{Table, has}
use Rattle.search_rules.specs.Trail.{IsPart}
use Rattle.scope_words.specs.Words.{word_of_values, IsDiagramOf}
use Rattle.exact_steps.specs.declared.steps.StepResult.{StepResult}
use Rattle.exact_steps.specs.declared.steps.StepResult.TheVariants as step
use Rattle.exact_steps.specs.Domains.{AtVariable, values_in, IsDomain}

-- the condition that a diagram states: the word of the assignment is in it
abbrev pub IsInDiagram : LayoutState → Table → Ref → List Value → Type 0
IsInDiagram l t r values = has t r (word_of_values l values) ≡ true

-- each of these variables has a value of the family
abbrev pub AreWithin : (ℕ → Value → Bool) → List VarId → List Value → Type 0
AreWithin f variables values = (v : VarId) → Contains variables v → AtVariable v (λ x. f v.0 x ≡ true) values

-- a support of the constraint C: an assignment that satisfies it and gives each variable of its scope a value of the family
pub record IsSupport (l : LayoutState) (scope : List VarId) (C : List Value → Type 0) (f : ℕ → Value → Bool) (values : List Value) : Type 0 where
  pub initial : IsAssignment l.kinds values
  pub within : AreWithin f scope values
  pub holds : C values

-- the value x of the variable v extends: some support has it at v
pub record Extends (l : LayoutState) (scope : List VarId) (C : List Value → Type 0) (f : ℕ → Value → Bool) (v : VarId) (x : Value) : Type 0 where
  pub values : List Value
  pub scoped : Contains scope v
  pub at : slice_get values v.0 ≡ Some x
  pub support : IsSupport l scope C f values

-- there is no support; for an empty scope, C is false
abbrev pub IsViolated : LayoutState → List VarId → (List Value → Type 0) → (ℕ → Value → Bool) → Type 0
IsViolated l scope C f = (values : List Value) → IsSupport l scope C f values → ⊥

-- there is a support
abbrev pub IsSatisfiable : LayoutState → List VarId → (List Value → Type 0) → (ℕ → Value → Bool) → Type 0
IsSatisfiable l scope C f = (values : List Value) × IsSupport l scope C f values

-- each value of the variable extends
abbrev pub AllExtend : LayoutState → List VarId → (List Value → Type 0) → (ℕ → Value → Bool) → VarId → Type 0
AllExtend l scope C f v = (x : Value) → f v.0 x ≡ true → Extends l scope C f v x

-- r is the new domain of v: it has exactly the values that extend, and they are not all
pub record IsNarrowed (l : LayoutState) (scope : List VarId) (C : List Value → Type 0) (f : ℕ → Value → Bool) (t : Table) (v : VarId) (r : Ref) : Type 0 where
  pub scoped : Contains scope v
  pub diagram : IsDiagramOf l (v ∷ []) (AtVariable v (Extends l scope C f v)) t r
  pub domain : IsDomain l t v r
  pub part : IsPart (values_in l t v r) (f v.0)

-- the variables that the list narrows
abbrev pub narrowed_in : List (VarId × Ref) → List VarId
narrowed_in kept = map (λ e. e.0) kept

-- the list, ascending by variable, gives their new domains to exactly the variables of the scope some of whose values do not extend
pub record AreNarrowed (l : LayoutState) (scope : List VarId) (C : List Value → Type 0) (f : ℕ → Value → Bool) (t : Table) (kept : List (VarId × Ref)) : Type 0 where
  pub ascending : IsStrictlySortedBy (λ v w. nat_cmp v.0 w.0) (narrowed_in kept)
  pub each : (v : VarId) (r : Ref) → Contains kept (v, r) → IsNarrowed l scope C f t v r
  pub others : (v : VarId) → Contains scope v → (Contains (narrowed_in kept) v → ⊥) → AllExtend l scope C f v

-- what the step answers: Empty says that there is no support, the other two that there is one; of these Narrowed lists a value that does
-- not extend, and Same says that there is none. So each is the answer exactly where it says so
abbrev pub IsStepOf : LayoutState → List VarId → (List Value → Type 0) → (ℕ → Value → Bool) → Table → StepResult → Type 0
IsStepOf l scope C f t step.Same = IsSatisfiable l scope C f × ((v : VarId) → Contains scope v → AllExtend l scope C f v)
IsStepOf l scope C f t (step.Narrowed kept) = IsSatisfiable l scope C f × (kept.items ≢ []) × AreNarrowed l scope C f t kept.items
IsStepOf l scope C f t step.Empty = IsViolated l scope C f
