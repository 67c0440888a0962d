-- What is known of value sets, constraints, compiled problems and trails: laws of the crates below, as one record.
-- Words of private helpers.
use Rattle.std.specs.Prelude.{◌≡◌, ℕ, true, List, [], ◌∷◌, Some, length, slice_get}
use Rattle.set_meaning.specs.declared.kinds.Value.{Value}
use Rattle.set_meaning.specs.declared.problems.VarId.{VarId}
use Rattle.set_meaning.specs.declared.problems.Constraint.{Constraint}
use Rattle.set_meaning.specs.declared.problems.Problem.{Problem}
use Rattle.set_meaning.specs.Problems.{IsProblem}
use Rattle.set_meaning.specs.Relations.{Holds, IsScope}
use Rattle.bit_layout.specs.Order.{LayoutState}
use Rattle.diagram_arena.specs.declared.nodes.Ref.{Ref}
use Rattle.diagram_arena.specs.Table.{Word, Table, has, IsLive}
use Rattle.diagram_arena.specs.Arena.{Grows}
use Rattle.node_reclaim.specs.Holders.{MeansTheSame}
use Rattle.exact_steps.specs.Domains.{is_initial, values_in, family}
use Rattle.exact_steps.specs.Rules.{IsConstraintOf}
use Rattle.problem_rules.specs.Posed.{problem_of}
use Rattle.value_sets.specs.Sets.{IsValueSet}
use Rattle.propagators.specs.Compiled.{CompiledState, pinned_by, IsCompiled}
use Rattle.domain_trail.specs.declared.entries.Entry.{Entry}
use Rattle.domain_trail.specs.Trail.{TrailState, held}
use Rattle.box_clauses.specs.declared.store.StoredBox.{StoredBox}
use Rattle.box_clauses.specs.Stored.{stored_sets}
use Rattle.search_state.specs.Readings.{entry_of, IsTrailOf}

pub record LowerLaws : Type 0 where
  pub set_of_words : (l : LayoutState) (t u : Table) (v : VarId) (r : Ref) → IsLive u r
      → ((w : Word) → has u r w ≡ has t r w) → IsValueSet l t v r → IsValueSet l u v r
  pub values_of_words : (l : LayoutState) (t u : Table) (v : VarId) (r : Ref)
      → ((w : Word) → has u r w ≡ has t r w) → values_in l u v r ≡ values_in l t v r
  pub grown : (l : LayoutState) (t u : Table) (v : VarId) (r : Ref) → Grows t u → IsValueSet l t v r
      → IsValueSet l u v r × (values_in l u v r ≡ values_in l t v r)
  pub posed : (p : Problem) (l : LayoutState) (c : ℕ) (constraint : Constraint) (scope : List VarId)
      → IsProblem p → l.kinds ≡ p.kinds
      → slice_get p.constraints c ≡ Some constraint → IsScope constraint scope
      → IsConstraintOf (problem_of p) c l scope (Holds constraint)
  pub initial : (p : Problem) (l : LayoutState) (t : Table) (domains : List Ref) → l.kinds ≡ p.kinds
      → length domains ≡ length l.kinds
      → ((v : VarId) (r : Ref) → slice_get domains v.0 ≡ Some r → (x : Value)
      → is_initial l v x ≡ true → values_in l t v r x ≡ true)
      → family l t domains ≡ (problem_of p).initial
  pub compiled : (l : LayoutState) (p : Problem) (t u : Table) (k : CompiledState)
      → MeansTheSame t u (pinned_by k) → IsCompiled l p t k → IsCompiled l p u k
  pub families : (l : LayoutState) (t u : Table) (domains : List Ref) → MeansTheSame t u domains
      → family l u domains ≡ family l t domains
  pub entries : (l : LayoutState) (t u : Table) (stored : List StoredBox) (e : Entry)
      → MeansTheSame t u (e.before ∷ []) → MeansTheSame t u (stored_sets stored)
      → entry_of l u stored e ≡ entry_of l t stored e
  pub trails : (p : Problem) (l : LayoutState) (t u : Table) (stored : List StoredBox) (s : TrailState)
      → MeansTheSame t u (held s) → MeansTheSame t u (stored_sets stored)
      → IsTrailOf p l t stored s → IsTrailOf p l u stored s
