-- The trail and the stored boxes of the search, read as those of search_rules.
-- Source: this project's own.
use Rattle.std.specs.Prelude.{◌≡◌, ℕ, ◌<◌, List, [], map, reverse, length, All}
use Rattle.std.specs.Option.{option_map_or}
use Rattle.set_meaning.specs.declared.kinds.Value.{Value}
use Rattle.set_meaning.specs.declared.problems.Problem.{Problem}
use Rattle.bit_layout.specs.Order.{LayoutState}
use Rattle.diagram_arena.specs.Table.{Table}
use Rattle.search_rules.specs.Trail as rules
use Rattle.search_rules.specs.State.{IsLegal}
use Rattle.exact_steps.specs.Domains.{values_in, IsDomain, AreDomains, family}
use Rattle.problem_rules.specs.Posed.{problem_of}
use Rattle.domain_trail.specs.declared.entries.Entry.{Entry}
use Rattle.domain_trail.specs.declared.entries.Reason.{Reason}
use Rattle.domain_trail.specs.declared.entries.Reason.TheVariants as why
use Rattle.domain_trail.specs.Trail.{TrailState}
use Rattle.box_clauses.specs.declared.sides.Side.{Side}
use Rattle.box_clauses.specs.declared.store.StoredBox.{StoredBox}
use Rattle.box_clauses.specs.Boxes.{box_of, AreSides}
use Rattle.box_clauses.specs.Stored.{box_at}

-- ---- readings

-- the sides of the box under an id
abbrev pub sides_at : List StoredBox → ℕ → List Side
sides_at stored b = option_map_or (λ (s : StoredBox). s.sides) (box_at stored b) []

abbrev pub reason_of : LayoutState → Table → List StoredBox → Reason → rules.Reason Value
reason_of l t stored why.Decision = rules.Decision
reason_of l t stored (why.Constraint c) = rules.ByConstraint c.0
reason_of l t stored (why.Box b) = rules.ByBox (box_of l t (sides_at stored b.0))

abbrev pub entry_of : LayoutState → Table → List StoredBox → Entry → rules.Entry Value
entry_of l t stored e = record {
  var = e.var.0;
  before = values_in l t e.var e.before;
  level = e.level;
  reason = reason_of l t stored e.reason;
}

-- the entries, newest first; the trail has them oldest first
abbrev pub entries_of : LayoutState → Table → List StoredBox → List Entry → List (rules.Entry Value)
entries_of l t stored entries = map (entry_of l t stored) (reverse entries)

-- the stored boxes, newest first; the store has them oldest first
abbrev pub stored_of : LayoutState → Table → StoredBox → rules.Stored Value
stored_of l t b = record { sides = box_of l t b.sides; learned = b.learned }

abbrev pub boxes_of : LayoutState → Table → List StoredBox → List (rules.Stored Value)
boxes_of l t stored = map (stored_of l t) (reverse stored)

-- ---- states

-- a box that is a reason is stored
abbrev pub IsKnown : List StoredBox → Reason → Type 0
IsKnown stored why.Decision = Unit {0}
IsKnown stored (why.Constraint c) = Unit {0}
IsKnown stored (why.Box b) = b.0 < length stored

pub record IsEntry (l : LayoutState) (t : Table) (stored : List StoredBox) (e : Entry) : Type 0 where
  pub known : e.var.0 < length l.kinds
  pub before : IsDomain l t e.var e.before
  pub reason : IsKnown stored e.reason

-- the refs are domains and sides of the problem's variables
pub record AreReadable (l : LayoutState) (t : Table) (stored : List StoredBox) (s : TrailState) : Type 0 where
  pub domains : AreDomains l t s.domains
  pub entries : All (IsEntry l t stored) s.entries
  pub boxes : All (λ (b : StoredBox). AreSides l t b.sides) stored

-- the trail over the stored boxes is one by the rules, and its level is that of the newest entry
pub record IsTrailOf (p : Problem) (l : LayoutState) (t : Table) (stored : List StoredBox)
    (s : TrailState) : Type 0 where
  pub readable : AreReadable l t stored s
  pub level : s.level ≡ rules.top (entries_of l t stored s.entries)
  pub trail : rules.IsTrail (problem_of p) (boxes_of l t stored) (entries_of l t stored s.entries)
      (family l t s.domains)

-- the state is legal by the rules, with these answers, newest first
pub record IsLegalState (p : Problem) (l : LayoutState) (t : Table) (answers : List (ℕ → Value))
    (stored : List StoredBox) (s : TrailState) : Type 0 where
  pub readable : AreReadable l t stored s
  pub level : s.level ≡ rules.top (entries_of l t stored s.entries)
  pub legal : IsLegal (problem_of p) answers (boxes_of l t stored) (entries_of l t stored s.entries)
      (family l t s.domains)
