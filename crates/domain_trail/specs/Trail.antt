-- A trail as its callers see it, and how it is undone. The words on entries that stand newest first are those of the
-- search's rules, read on refs. This project's own (the trail of a conflict-driven search, with domains in place of
-- literals).
use Rattle.std.specs.Prelude.{◌≡◌, ℕ, ◌≤◌, nat_lt, cond, List, [], ◌∷◌, ◌++◌, map, reverse, slice_index_or, slice_set}
use Rattle.diagram_arena.specs.declared.nodes.Ref.{Ref}
use Rattle.diagram_arena.specs.declared.nodes.Ref.TheVariants.{Zero}
use Rattle.set_meaning.specs.declared.problems.VarId.{VarId}
use Rattle.domain_trail.specs.declared.entries.Entry.{Entry}
use Rattle.domain_trail.specs.declared.entries.Reason.{Reason}

-- the variables' domains, the narrowings that led to them, oldest first, and the level of the next narrowing
pub record TrailState : Type 0 where
  pub domains : List Ref
  pub entries : List Entry
  pub level : ℕ

abbrev pub befores : List Entry → List Ref
befores es = map (λ (e : Entry). e.before) es

-- what it pins: each domain, and each domain from before
abbrev pub held : TrailState → List Ref
held s = s.domains ++ befores s.entries

abbrev pub newest_first : TrailState → List Entry
newest_first s = reverse s.entries

-- the entry of a narrowing of `v`
abbrev pub entry_of : TrailState → VarId → Reason → Entry
entry_of s v why = record { var = v; before = slice_index_or s.domains v.0 Zero; reason = why; level = s.level }

-- the trail after `v` was narrowed to a domain
abbrev pub narrowed : TrailState → VarId → Ref → Reason → TrailState
narrowed s v to why =
    record { domains = slice_set s.domains v.0 to; entries = s.entries ++ entry_of s v why ∷ []; level = s.level }

-- the domains just before the entry
abbrev pub undo : List Ref → Entry → List Ref
undo ds e = slice_set ds e.var.0 e.before

-- the level of the newest entry, 0 where there is none
abbrev pub top : List Entry → ℕ
top [] = 0
top (e ∷ es) = e.level

-- the domains at the end of level `k`, and the entries up to there
abbrev pub back : ℕ → List Entry → List Ref → List Ref
back k [] ds = ds
back k (e ∷ es) ds = cond (nat_lt k e.level) (back k es (undo ds e)) ds

abbrev pub cut : ℕ → List Entry → List Entry
cut k [] = []
cut k (e ∷ es) = cond (nat_lt k e.level) (cut k es) (e ∷ es)

-- no entry's level is below that of the entry before it
abbrev pub HaveLevels : List Entry → Type 0
HaveLevels [] = Unit {0}
HaveLevels (e ∷ es) = (top es ≤ e.level) × HaveLevels es

-- the newest entry is taken back: its variable has its domain from before, and the level is that of the entry newest
-- now
pub record IsUndone (old new : TrailState) : Type 0 where
  pub entry : Entry
  pub newest : newest_first old ≡ entry ∷ newest_first new
  pub domains : new.domains ≡ undo old.domains entry
  pub level : new.level ≡ top (newest_first new)

-- the entries above level `k` are taken back, one after another
pub record IsUndoneTo (k : ℕ) (old new : TrailState) : Type 0 where
  pub entries : newest_first new ≡ cut k (newest_first old)
  pub domains : new.domains ≡ back k (newest_first old) old.domains
  pub level : new.level ≡ top (newest_first new)
