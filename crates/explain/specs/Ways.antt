-- Where a walk back over the trail has come. The walk is that of search_rules, read on the trail and the boxes.
-- This project's own (conflict analysis to a first unique implication point, with boxes in place of clauses).
use Rattle.std.specs.Prelude.{◌≡◌, ℕ, Bool, List, ◌++◌}
use Rattle.set_meaning.specs.declared.kinds.Value.{Value}
use Rattle.set_meaning.specs.declared.problems.Problem.{Problem}
use Rattle.bit_layout.specs.Order.{LayoutState}
use Rattle.diagram_arena.specs.Table.{Table}
use Rattle.search_rules.specs.Walk.{Walk}
use Rattle.exact_steps.specs.Domains.{family}
use Rattle.problem_rules.specs.Posed.{problem_of}
use Rattle.domain_trail.specs.Trail.{TrailState}
use Rattle.domain_trail.specs.declared.entries.Entry.{Entry}
use Rattle.box_clauses.specs.declared.store.StoredBox.{StoredBox}
use Rattle.search_state.specs.Readings.{boxes_of, entries_of, IsTrailOf}

-- the entries of the trail are the oldest ones of another
abbrev pub IsCutFrom : TrailState → TrailState → Type 0
IsCutFrom old new = (undone : List Entry) × (old.entries ≡ new.entries ++ undone)

-- The walk from the box `first` has come from the trail `old`, of the table t, to the trail `new` and the running
-- box b, of the table u.
pub record IsWalkTo (p : Problem) (l : LayoutState) (t u : Table) (stored : List StoredBox) (old new : TrailState)
    (first b : ℕ → Value → Bool) : Type 0 where
  pub trail : IsTrailOf p l u stored new
  pub left : IsCutFrom old new
  pub boxes : boxes_of l u stored ≡ boxes_of l t stored
  pub walk : Walk (problem_of p) (entries_of l t stored old.entries) (family l t old.domains) first
      (entries_of l u stored new.entries) (family l u new.domains) b
