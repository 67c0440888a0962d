-- What a search does to its state: narrowings, and the turn of a conflict.
-- Source: this project's own.
use Rattle.std.specs.Prelude.{◌≡◌, ℕ, ◌<◌, Bool, List, length}
use Rattle.set_meaning.specs.declared.kinds.Value.{Value}
use Rattle.set_meaning.specs.declared.problems.VarId.{VarId}
use Rattle.set_meaning.specs.declared.problems.Problem.{Problem}
use Rattle.bit_layout.specs.Order.{LayoutState}
use Rattle.diagram_arena.specs.declared.nodes.Ref.{Ref}
use Rattle.diagram_arena.specs.Table.{Table}
use Rattle.search_rules.specs.Trail as rules
use Rattle.search_rules.specs.Walk.{Derives, IsBackLevel}
use Rattle.search_rules.specs.Measure.{measure}
use Rattle.exact_steps.specs.Domains.{values_in, IsDomain, family}
use Rattle.problem_rules.specs.Posed.{problem_of}
use Rattle.domain_trail.specs.Trail.{TrailState, newest_first, top, IsUndoneTo}
use Rattle.box_clauses.specs.declared.store.StoredBox.{StoredBox}
use Rattle.search_state.specs.Readings.{boxes_of, entries_of}

-- the measure by which the search ends
abbrev pub measure_of : Problem → LayoutState → Table → List StoredBox → TrailState → ℕ
measure_of p l t stored s = measure (problem_of p) (entries_of l t stored s.entries) (family l t s.domains)

-- the ref is a domain of the variable, one of the problem's, and a proper part of what the trail has there
pub record CanNarrow (l : LayoutState) (t : Table) (s : TrailState) (v : VarId) (to : Ref) : Type 0 where
  pub known : v.0 < length l.kinds
  pub domain : IsDomain l t v to
  pub part : rules.IsPart (values_in l t v to) (family l t s.domains v.0)

-- the walk from a conflict of the trail derives the box, for the variable `v`, and `k` is the level to go back to
pub record IsTurn (p : Problem) (l : LayoutState) (t : Table) (stored : List StoredBox) (s : TrailState)
    (b : ℕ → Value → Bool) (v k : ℕ) : Type 0 where
  pub level : ℕ
  pub derives : Derives (problem_of p) (boxes_of l t stored) (entries_of l t stored s.entries)
      (family l t s.domains) b level v
  pub back : IsBackLevel (entries_of l t stored s.entries) (family l t s.domains) b v k

-- The trail `new` reads in the table `u` as the trail `old`, gone back to the end of level `k`, reads in `t`, and the
-- stored boxes read alike.
pub record HasGoneBack (l : LayoutState) (t u : Table) (stored : List StoredBox) (k : ℕ)
    (old new : TrailState) : Type 0 where
  pub boxes : boxes_of l u stored ≡ boxes_of l t stored
  pub entries : entries_of l u stored new.entries ≡ rules.cut k (entries_of l t stored old.entries)
  pub family : family l u new.domains ≡ rules.back k (entries_of l t stored old.entries) (family l t old.domains)

-- what `now` becomes by undoing to a level below its newest, `old` becomes by undoing to that level
abbrev pub IsPartlyUndone : TrailState → TrailState → Type 0
IsPartlyUndone old now =
    (k : ℕ) (new : TrailState) → k < top (newest_first now) → IsUndoneTo k now new → IsUndoneTo k old new
