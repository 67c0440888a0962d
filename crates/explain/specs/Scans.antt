-- What a scan of a trail finds, by places: entries stand oldest first. Words of private helpers.
use Rattle.std.specs.Prelude.{◌≡◌, ◌≢◌, ◌⊎◌, ℕ, ◌<◌, ◌+◌, List, drop, length, slice_get, All, Some}
use Rattle.set_meaning.specs.declared.problems.VarId.{VarId}
use Rattle.bit_layout.specs.Order.{LayoutState}
use Rattle.diagram_arena.specs.declared.nodes.Ref.{Ref}
use Rattle.diagram_arena.specs.Table.{Table}
use Rattle.search_rules.specs.Family.{Lies, Leaves}
use Rattle.exact_steps.specs.Domains.{values_in, IsDomain, family}
use Rattle.domain_trail.specs.declared.entries.Entry.{Entry}

-- the entry is of a variable of the problem, with a domain of it
pub record IsOld (l : LayoutState) (t : Table) (e : Entry) : Type 0 where
  pub known : e.var.0 < length l.kinds
  pub before : IsDomain l t e.var e.before

-- the domain from before does not lie in the side, or it does
abbrev pub Matters : LayoutState → Table → List Ref → Entry → Type 0
Matters l t running e = Leaves (values_in l t e.var e.before) (family l t running e.var.0)

abbrev pub Passes : LayoutState → Table → List Ref → Entry → Type 0
Passes l t running e = Lies (values_in l t e.var e.before) (family l t running e.var.0)

-- it matters and is of another variable than v, or it is of v or does not matter
abbrev pub MattersOf : LayoutState → Table → List Ref → VarId → Entry → Type 0
MattersOf l t running v e = (e.var ≢ v) × Matters l t running e

abbrev pub PassesOrIs : LayoutState → Table → List Ref → VarId → Entry → Type 0
PassesOrIs l t running v e = (e.var ≡ v) ⊎ Passes l t running e

-- the entry at this place matters, and no later one does
pub record IsNewest (l : LayoutState) (t : Table) (running : List Ref) (entries : List Entry)
    (place : ℕ) : Type 0 where
  pub entry : Entry
  pub there : slice_get entries place ≡ Some entry
  pub matters : Matters l t running entry
  pub later : All (Passes l t running) (drop (place + 1) entries)

-- the entry matters, and is of another variable at this level; or if it is, it does not matter
pub record IsOther (l : LayoutState) (t : Table) (running : List Ref) (level : ℕ) (v : VarId)
    (e : Entry) : Type 0 where
  pub level_is : e.level ≡ level
  pub other : e.var ≢ v
  pub matters : Matters l t running e

abbrev pub IsNoOther : LayoutState → Table → List Ref → ℕ → VarId → Entry → Type 0
IsNoOther l t running level v e = e.level ≡ level → e.var ≢ v → Passes l t running e
