-- A walk on its way. Words of private helpers.
use Rattle.std.specs.Prelude.{◌≡◌, ℕ, Bool, List, [], ◌∷◌, ◌++◌, Some, slice_get}
use Rattle.set_meaning.specs.declared.kinds.Value.{Value}
use Rattle.set_meaning.specs.declared.problems.Problem.{Problem}
use Rattle.set_meaning.specs.declared.problems.VarId.{VarId}
use Rattle.bit_layout.specs.Order.{LayoutState}
use Rattle.diagram_arena.specs.declared.nodes.Ref.{Ref}
use Rattle.diagram_arena.specs.Table.{Table}
use Rattle.search_rules.specs.Walk.{Stops, DerivesAtRoot}
use Rattle.exact_steps.specs.Domains.{family}
use Rattle.problem_rules.specs.Posed.{problem_of}
use Rattle.domain_trail.specs.Trail.{TrailState, held, IsUndone}
use Rattle.domain_trail.specs.declared.entries.Entry.{Entry}
use Rattle.box_clauses.specs.declared.store.StoredBox.{StoredBox}
use Rattle.box_clauses.specs.Stored.{stored_sets}
use Rattle.propagators.specs.Compiled.{CompiledState, pinned_by}
use Rattle.search_state.specs.Readings.{boxes_of, entries_of}
use Rattle.search_state.specs.Turns.{IsPartlyUndone}
use Rattle.running_boxes.specs.Running.{AreRunning}
use Rattle.explain.specs.Ways.{IsWalkTo}

-- what stands pinned while a walk is on its way
abbrev pub pinned_on_walk : CompiledState → TrailState → List StoredBox → List Ref → List Ref
pinned_on_walk k s stored running = pinned_by k ++ (held s ++ (stored_sets stored ++ running))

-- the walk has come to this trail and this running box
pub record IsOnWalk (p : Problem) (l : LayoutState) (t u : Table) (stored : List StoredBox) (old new : TrailState)
    (first : ℕ → Value → Bool) (running : List Ref) : Type 0 where
  pub running_is : AreRunning l u running
  pub walk : IsWalkTo p l t u stored old new first (family l u running)
  pub partly : IsPartlyUndone old new

-- and it stops there for v
pub record IsStop (p : Problem) (l : LayoutState) (t u : Table) (stored : List StoredBox) (old new : TrailState)
    (first : ℕ → Value → Bool) (running : List Ref) (v : VarId) : Type 0 where
  pub way : IsOnWalk p l t u stored old new first running
  pub level : ℕ
  pub stops : Stops (entries_of l u stored new.entries) (family l u running) level v.0

-- and no entry that is left matters, so that it passes the first one
pub record IsPassed (p : Problem) (l : LayoutState) (t u : Table) (stored : List StoredBox) (old new : TrailState)
    (first : ℕ → Value → Bool) (running : List Ref) : Type 0 where
  pub way : IsOnWalk p l t u stored old new first running
  pub derives : DerivesAtRoot (problem_of p) (boxes_of l t stored) (entries_of l t stored old.entries)
      (family l t old.domains) (family l u running)

-- the walk stops for the variable of the entry at this place, above level 0
pub record IsStopAt (l : LayoutState) (t : Table) (stored : List StoredBox) (entries : List Entry) (place : ℕ)
    (running : List Ref) : Type 0 where
  pub entry : Entry
  pub there : slice_get entries place ≡ Some entry
  pub stops : Stops (entries_of l t stored entries) (family l t running) entry.level entry.var.0

-- these entries, oldest first, are taken back one after another, the newest first
abbrev pub AreUndone : List Entry → TrailState → TrailState → Type 0
AreUndone [] old new = old ≡ new
AreUndone (e ∷ es) old new =
    (mid : TrailState) × AreUndone es old mid × (undone : IsUndone mid new) × (undone.entry ≡ e)
