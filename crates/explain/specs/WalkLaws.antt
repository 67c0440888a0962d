-- The laws that the walk rests on, as one record. Words of private helpers.
use Rattle.std.specs.Prelude.{◌≡◌, ◌≢◌, ◌↔◌, ℕ, ◌+◌, ◌<◌, Bool, Some, List, ◌∷◌, ◌++◌}
use Rattle.std.specs.Prelude.{All, Contains, take, drop, slice_get}
use Rattle.set_meaning.specs.declared.kinds.Value.{Value}
use Rattle.set_meaning.specs.declared.problems.Problem.{Problem}
use Rattle.bit_layout.specs.Order.{LayoutState}
use Rattle.diagram_arena.specs.declared.nodes.Ref.{Ref}
use Rattle.diagram_arena.specs.Table.{Table}
use Rattle.node_reclaim.specs.Holders.{MeansTheSame}
use Rattle.search_rules.specs.Family.{Lies}
use Rattle.search_rules.specs.Box.{resolvent}
use Rattle.search_rules.specs.Trail as rules
use Rattle.search_rules.specs.Walk.{Matters, SomeMatters, Stops, GoesOn, Walk, reason_box}
use Rattle.search_moves.specs.Scans.{NoneMatters, NoOtherMatters}
use Rattle.exact_steps.specs.Domains.{values_in, family}
use Rattle.problem_rules.specs.Posed.{problem_of}
use Rattle.propagators.specs.Compiled.{CompiledState, pinned_by, IsCompiled}
use Rattle.domain_trail.specs.declared.entries.Entry.{Entry}
use Rattle.domain_trail.specs.Trail.{TrailState, befores, held, IsUndone}
use Rattle.box_clauses.specs.declared.store.StoredBox.{StoredBox}
use Rattle.box_clauses.specs.Stored.{stored_sets}
use Rattle.search_state.specs.Readings.{boxes_of, entry_of, entries_of, AreReadable, IsTrailOf}
use Rattle.search_state.specs.Turns.{IsPartlyUndone}

-- the walk goes on over a trail whose newest entry is undone
pub record GoingLaws (p : Problem) : Type 0 where
  pub passed : (l : LayoutState) (t : Table) (stored : List StoredBox) (now next : TrailState)
      (es : List (rules.Entry Value)) (f b c : ℕ → Value → Bool)
      → AreReadable l t stored now → (undone : IsUndone now next)
      → Walk (problem_of p) es f b (entries_of l t stored now.entries) (family l t now.domains) c
      → GoesOn (entries_of l t stored now.entries) c
      → let e = entry_of l t stored undone.entry in Lies e.before (c e.var)
      → Walk (problem_of p) es f b (entries_of l t stored next.entries) (family l t next.domains) c
  pub resolved : (l : LayoutState) (t : Table) (stored : List StoredBox) (now next : TrailState)
      (es : List (rules.Entry Value)) (f b c : ℕ → Value → Bool)
      → AreReadable l t stored now → (undone : IsUndone now next)
      → Walk (problem_of p) es f b (entries_of l t stored now.entries) (family l t now.domains) c
      → GoesOn (entries_of l t stored now.entries) c
      → let e = entry_of l t stored undone.entry in let g = family l t now.domains in Matters e c
      → let r = reason_box (problem_of p) e.reason (rules.undo g e) e.var (g e.var) in
      Walk (problem_of p) es f b (entries_of l t stored next.entries) (family l t next.domains)
      (resolvent c r e.var)
  pub entries : (l : LayoutState) (t : Table) (stored : List StoredBox) (old new : TrailState)
      → (undone : IsUndone old new)
      → entries_of l t stored old.entries ≡ entry_of l t stored undone.entry ∷ entries_of l t stored new.entries
  pub trail : (l : LayoutState) (t : Table) (stored : List StoredBox) (old new : TrailState)
      → IsUndone old new → IsTrailOf p l t stored old → IsTrailOf p l t stored new
  pub itself : (s : TrailState) → IsPartlyUndone s s
  pub further : (l : LayoutState) (t : Table) (stored : List StoredBox) (old now next : TrailState)
      → IsTrailOf p l t stored now → IsUndone now next → IsPartlyUndone old now → IsPartlyUndone old next
  pub one : (e : rules.Entry Value) (rest : List (rules.Entry Value)) (b : ℕ → Value → Bool)
      → Lies e.before (b e.var) → GoesOn (e ∷ rest) b ↔ GoesOn rest b
  pub none : (es : List (rules.Entry Value)) (b : ℕ → Value → Bool) → NoneMatters es b → GoesOn es b
  pub no_decision : (boxes : List (rules.Stored Value)) (e : rules.Entry Value) (es rest : List (rules.Entry Value))
      (f b g c : ℕ → Value → Bool) → rules.IsTrail (problem_of p) boxes es f
      → Walk (problem_of p) es f b (e ∷ rest) g c → GoesOn (e ∷ rest) c → Matters e c → e.reason ≡ rules.Decision → ⊥

-- what is read stays where refs mean the same
pub record StayingLaws (p : Problem) : Type 0 where
  pub families : (l : LayoutState) (t u : Table) (domains : List Ref) → MeansTheSame t u domains
      → family l u domains ≡ family l t domains
  pub entries : (l : LayoutState) (t u : Table) (stored : List StoredBox) (entries : List Entry)
      → MeansTheSame t u (befores entries) → MeansTheSame t u (stored_sets stored)
      → entries_of l u stored entries ≡ entries_of l t stored entries
  pub boxes : (l : LayoutState) (t u : Table) (stored : List StoredBox)
      → MeansTheSame t u (stored_sets stored) → boxes_of l u stored ≡ boxes_of l t stored
  pub trail : (l : LayoutState) (t u : Table) (stored : List StoredBox) (s : TrailState)
      → MeansTheSame t u (held s) → MeansTheSame t u (stored_sets stored)
      → IsTrailOf p l t stored s → IsTrailOf p l u stored s
  pub compiled : (l : LayoutState) (t u : Table) (k : CompiledState)
      → MeansTheSame t u (pinned_by k) → IsCompiled l p t k → IsCompiled l p u k

-- where the walk goes on and where it stops, for one who looks through the trail by places
pub record StoppingLaws (p : Problem) : Type 0 where
  pub split : (l : LayoutState) (t : Table) (stored : List StoredBox) (entries : List Entry) (i : ℕ) (e : Entry)
      → slice_get entries i ≡ Some e
      → entries_of l t stored entries
      ≡ entries_of l t stored (drop (i + 1) entries)
      ++ entry_of l t stored e ∷ entries_of l t stored (take i entries)
  pub none : (l : LayoutState) (t : Table) (stored : List StoredBox) (es : List Entry) (b : ℕ → Value → Bool)
      → All (λ (e : Entry). Lies (values_in l t e.var e.before) (b e.var.0)) es
      → NoneMatters (entries_of l t stored es) b
  pub no_other : (l : LayoutState) (t : Table) (stored : List StoredBox) (es : List Entry) (b : ℕ → Value → Bool)
      (k v : ℕ)
      → All (λ (e : Entry). e.level ≡ k → e.var.0 ≢ v → Lies (values_in l t e.var e.before) (b e.var.0)) es
      → NoOtherMatters (entries_of l t stored es) b k v
  pub some : (l : LayoutState) (t : Table) (stored : List StoredBox) (es : List Entry) (b : ℕ → Value → Bool)
      (e : Entry) → Contains es e → Matters (entry_of l t stored e) b
      → SomeMatters (entries_of l t stored es) b e.level e.var.0
  pub two : (boxes : List (rules.Stored Value)) (e : rules.Entry Value) (passed rest : List (rules.Entry Value))
      (f b : ℕ → Value → Bool) (v : ℕ)
      → rules.IsTrail (problem_of p) boxes (passed ++ e ∷ rest) f → NoneMatters passed b → Matters e b
      → SomeMatters rest b e.level v → v ≢ e.var → GoesOn (passed ++ e ∷ rest) b
  pub root : (boxes : List (rules.Stored Value)) (e : rules.Entry Value) (passed rest : List (rules.Entry Value))
      (f b : ℕ → Value → Bool)
      → rules.IsTrail (problem_of p) boxes (passed ++ e ∷ rest) f → NoneMatters passed b → e.level ≡ 0
      → GoesOn (passed ++ e ∷ rest) b
  pub here : (boxes : List (rules.Stored Value)) (e : rules.Entry Value) (passed rest : List (rules.Entry Value))
      (f b : ℕ → Value → Bool)
      → rules.IsTrail (problem_of p) boxes (passed ++ e ∷ rest) f → NoneMatters passed b → Matters e b → 0 < e.level
      → NoOtherMatters rest b e.level e.var → Stops (passed ++ e ∷ rest) b e.level e.var
