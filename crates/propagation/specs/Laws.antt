-- Laws of the crates below, as one record. Words of private helpers.
use Rattle.std.specs.Prelude.{◌≡◌, ℕ, ◌<◌, Bool, List, ◌∷◌, length, All}
use Rattle.set_meaning.specs.declared.kinds.Value.{Value}
use Rattle.set_meaning.specs.declared.problems.BoxId.{BoxId}
use Rattle.set_meaning.specs.declared.problems.ConId.{ConId}
use Rattle.set_meaning.specs.declared.problems.VarId.{VarId}
use Rattle.set_meaning.specs.declared.problems.Problem.{Problem}
use Rattle.bit_layout.specs.Order.{LayoutState}
use Rattle.diagram_arena.specs.declared.nodes.Ref.{Ref}
use Rattle.diagram_arena.specs.Table.{Table, IsLive}
use Rattle.diagram_arena.specs.Arena.{Grows}
use Rattle.node_reclaim.specs.Holders.{MeansTheSame}
use Rattle.search_rules.specs.Family.{AllLie, put}
use Rattle.search_rules.specs.Problem.{IsViolated}
use Rattle.search_rules.specs.Trail as rules
use Rattle.search_rules.specs.Walk.{conflict_box, IsConflictBox}
use Rattle.exact_steps.specs.Domains.{values_in, IsDomain, AreDomains, family}
use Rattle.problem_rules.specs.Posed.{problem_of}
use Rattle.propagators.specs.Compiled.{CompiledState, pinned_by, IsCompiled}
use Rattle.domain_trail.specs.declared.entries.Entry.{Entry}
use Rattle.domain_trail.specs.declared.entries.Reason.{Reason}
use Rattle.domain_trail.specs.declared.entries.Reason.TheVariants as why
use Rattle.domain_trail.specs.Trail.{TrailState, befores, held, narrowed}
use Rattle.box_clauses.specs.declared.store.StoredBox.{StoredBox}
use Rattle.box_clauses.specs.Boxes.{box_of}
use Rattle.box_clauses.specs.Stored.{stored_sets}
use Rattle.search_state.specs.Readings.{sides_at, boxes_of, entries_of, reason_of}
use Rattle.search_state.specs.Readings.{IsKnown, AreReadable, IsTrailOf, IsLegalState}
use Rattle.search_state.specs.Turns.{CanNarrow, measure_of}

-- what is read of refs stays where they mean the same
pub record StayLaws : Type 0 where
  pub compiled : (l : LayoutState) (p : Problem) (t u : Table) (k : CompiledState)
      → MeansTheSame t u (pinned_by k) → IsCompiled l p t k → IsCompiled l p u k
  pub trails : (p : Problem) (l : LayoutState) (t u : Table) (stored : List StoredBox) (s : TrailState)
      → MeansTheSame t u (held s) → MeansTheSame t u (stored_sets stored)
      → IsTrailOf p l t stored s → IsTrailOf p l u stored s
  pub legal : (p : Problem) (l : LayoutState) (t u : Table) (answers : List (ℕ → Value)) (stored : List StoredBox)
      (s : TrailState) → MeansTheSame t u (held s) → MeansTheSame t u (stored_sets stored)
      → IsLegalState p l t answers stored s → IsLegalState p l u answers stored s
  pub domains : (l : LayoutState) (t u : Table) (domains : List Ref) → MeansTheSame t u domains
      → AreDomains l t domains → AreDomains l u domains
  pub families : (l : LayoutState) (t u : Table) (domains : List Ref) → MeansTheSame t u domains
      → family l u domains ≡ family l t domains
  pub under : (l : LayoutState) (t u : Table) (stored : List StoredBox) (id : ℕ)
      → MeansTheSame t u (stored_sets stored)
      → box_of l u (sides_at stored id) ≡ box_of l t (sides_at stored id)
  pub boxes : (l : LayoutState) (t u : Table) (stored : List StoredBox)
      → MeansTheSame t u (stored_sets stored) → boxes_of l u stored ≡ boxes_of l t stored
  pub entries : (l : LayoutState) (t u : Table) (stored : List StoredBox) (entries : List Entry)
      → MeansTheSame t u (befores entries) → MeansTheSame t u (stored_sets stored)
      → entries_of l u stored entries ≡ entries_of l t stored entries
  pub live : (l : LayoutState) (t : Table) (stored : List StoredBox) (s : TrailState) → AreReadable l t stored s
      → All (IsLive t) (held s) × All (IsLive t) (stored_sets stored)
  pub grown : (t u : Table) (refs : List Ref) → Grows t u → All (IsLive t) refs → MeansTheSame t u refs

-- a narrowed trail, as it is read
pub record NarrowLaws (p : Problem) : Type 0 where
  pub legal : (l : LayoutState) (t : Table) (answers : List (ℕ → Value)) (stored : List StoredBox)
      (s : TrailState) (v : VarId) (to : Ref) (reason : Reason)
      → l.kinds ≡ p.kinds → IsLegalState p l t answers stored s → CanNarrow l t s v to
      → IsKnown stored reason → (reason ≡ why.Decision → ⊥)
      → rules.IsReason (problem_of p) (boxes_of l t stored) (reason_of l t stored reason)
      (family l t s.domains) v.0
      (values_in l t v to)
      → IsLegalState p l t answers stored (narrowed s v to reason)
      × (measure_of p l t stored (narrowed s v to reason) < measure_of p l t stored s)
  pub entries : (l : LayoutState) (t : Table) (stored : List StoredBox) (s : TrailState) (v : VarId) (to : Ref)
      (reason : Reason) → v.0 < length s.domains → s.level ≡ rules.top (entries_of l t stored s.entries)
      → entries_of l t stored (narrowed s v to reason).entries
      ≡ rules.narrowing_entry (entries_of l t stored s.entries) (family l t s.domains) v.0
      (reason_of l t stored reason)
      ∷ entries_of l t stored s.entries
  pub family : (l : LayoutState) (t : Table) (s : TrailState) (v : VarId) (to : Ref) (reason : Reason)
      → AreDomains l t s.domains → v.0 < length s.domains
      → family l t (narrowed s v to reason).domains ≡ put (family l t s.domains) v.0 (values_in l t v to)
  pub readable : (l : LayoutState) (t : Table) (stored : List StoredBox) (s : TrailState) (v : VarId) (to : Ref)
      (reason : Reason) → AreReadable l t stored s → v.0 < length l.kinds → IsDomain l t v to → IsKnown stored reason
      → AreReadable l t stored (narrowed s v to reason)

-- the boxes of conflicts, and the stored boxes under their ids
pub record BoxLaws : Type 0 where
  pub stored : (l : LayoutState) (t : Table) (stored : List StoredBox) (id : ℕ) → id < length stored
      → rules.IsStored (boxes_of l t stored) (box_of l t (sides_at stored id))
  pub each : (l : LayoutState) (t : Table) (stored : List StoredBox) (b : ℕ → Value → Bool)
      → rules.IsStored (boxes_of l t stored) b
      → (id : ℕ) × (id < length stored) × (box_of l t (sides_at stored id) ≡ b)
  pub of_constraint : (p : Problem) (l : LayoutState) (t : Table) (stored : List StoredBox) (c : ConId)
      (f : ℕ → Value → Bool) → c.0 < length p.constraints → IsViolated (problem_of p) c.0 f
      → IsConflictBox (problem_of p) (boxes_of l t stored) f (conflict_box (problem_of p) c.0 f)
  pub of_box : (p : Problem) (l : LayoutState) (t : Table) (stored : List StoredBox) (id : BoxId)
      (f : ℕ → Value → Bool) → id.0 < length stored → AllLie f (box_of l t (sides_at stored id.0))
      → IsConflictBox (problem_of p) (boxes_of l t stored) f (box_of l t (sides_at stored id.0))
