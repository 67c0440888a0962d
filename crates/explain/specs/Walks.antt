-- What the walk from a conflict leaves: the trail, and the box that it derived. The walk is that of search_rules, read
-- on the trail and the boxes.
-- This project's own (conflict analysis to a first unique implication point, with boxes in place of clauses).
use Rattle.std.specs.Prelude.{◌≡◌, ℕ, Bool, List, []}
use Rattle.set_meaning.specs.declared.kinds.Value.{Value}
use Rattle.set_meaning.specs.declared.problems.Problem.{Problem}
use Rattle.bit_layout.specs.Order.{LayoutState}
use Rattle.diagram_arena.specs.declared.nodes.Ref.{Ref}
use Rattle.diagram_arena.specs.Table.{Table}
use Rattle.node_reclaim.specs.Pool.{PoolState}
use Rattle.node_reclaim.specs.Growth.{IsFull}
use Rattle.search_rules.specs.Family.{Leaves, IsWithin, AllLie}
use Rattle.search_rules.specs.Trail.{IsLearned}
use Rattle.search_rules.specs.Walk.{DerivesAtRoot}
use Rattle.search_rules.specs.State.{IsExcluded}
use Rattle.exact_steps.specs.Domains.{family}
use Rattle.problem_rules.specs.Posed.{problem_of}
use Rattle.domain_trail.specs.Trail.{TrailState}
use Rattle.box_clauses.specs.declared.sides.Side.{Side}
use Rattle.box_clauses.specs.declared.store.StoredBox.{StoredBox}
use Rattle.box_clauses.specs.Boxes.{box_of, AreSides}
use Rattle.box_clauses.specs.Sides.{sets_of}
use Rattle.search_state.specs.Readings.{boxes_of, entries_of, IsTrailOf}
use Rattle.search_state.specs.Turns.{IsTurn, HasGoneBack}
use Rattle.running_boxes.specs.Nodes.{AreReachedOrMade}
use Rattle.explain.specs.Ways.{IsCutFrom, IsWalkTo}
use Rattle.explain.specs.declared.analysing.Learned.{Learned}
use Rattle.explain.specs.declared.analysing.Learned.TheVariants as learned
use Rattle.explain.specs.declared.analysing.AnalyseStop.{AnalyseStop}
use Rattle.explain.specs.declared.analysing.AnalyseStop.TheVariants as stop

-- every assignment in the box is in a stored box or violates a constraint
abbrev pub HoldsExcluded : Problem → LayoutState → Table → List StoredBox → (ℕ → Value → Bool) → Type 0
HoldsExcluded p l t stored b = (a : ℕ → Value) → IsWithin b a → IsExcluded (problem_of p) (boxes_of l t stored) a

-- the box lies in no learned box
abbrev pub IsNewBox : LayoutState → Table → List StoredBox → (ℕ → Value → Bool) → Type 0
IsNewBox l t stored b = (c : ℕ → Value → Bool) → IsLearned (boxes_of l t stored) c → (v : ℕ) × Leaves (b v) (c v)

-- ---- what is answered

-- The walk stopped above level 0 with the box of these sides, and the trail went back to the least level at which at
-- most the set of v is not inside its side.
pub record IsAsserting (p : Problem) (l : LayoutState) (t u : Table) (stored : List StoredBox) (old new : TrailState)
    (sides : List Side) (v k : ℕ) : Type 0 where
  pub sides_are : AreSides l u sides
  pub turn : IsTurn p l t stored old (box_of l u sides) v k
  pub gone : HasGoneBack l t u stored k old new
  pub trail : IsTrailOf p l u stored new
  pub excluded : HoldsExcluded p l t stored (box_of l u sides)
  pub is_new : IsNewBox l t stored (box_of l u sides)

-- the walk passed the first entry
pub record IsRoot (p : Problem) (l : LayoutState) (t u : Table) (stored : List StoredBox) (old new : TrailState)
    : Type 0 where
  pub last : ℕ → Value → Bool
  pub derives : DerivesAtRoot (problem_of p) (boxes_of l t stored) (entries_of l t stored old.entries)
      (family l t old.domains)
      last
  pub trail : IsTrailOf p l u stored new
  pub left : IsCutFrom old new
  pub boxes : boxes_of l u stored ≡ boxes_of l t stored

abbrev pub IsLearnedFrom :
    Problem → LayoutState → Table → Table → List StoredBox → TrailState → TrailState → Learned → Type 0
IsLearnedFrom p l t u stored old new learned.Root = IsRoot p l t u stored old new
IsLearnedFrom p l t u stored old new (learned.Asserting held v k) = IsAsserting p l t u stored old new held v.0 k

-- The walk has come to the trail that is left and the box of these sides, in which all its domains lie.
pub record IsStoppedAt (p : Problem) (l : LayoutState) (t u : Table) (stored : List StoredBox) (old new : TrailState)
    (first : ℕ → Value → Bool) (sides : List Side) : Type 0 where
  pub sides_are : AreSides l u sides
  pub walk : IsWalkTo p l t u stored old new first (box_of l u sides)
  pub inside : AllLie (family l u new.domains) (box_of l u sides)
  pub excluded : HoldsExcluded p l t stored (box_of l u sides)

abbrev pub IsStopped :
    Problem → LayoutState → Table → Table → List StoredBox → TrailState → TrailState → (ℕ → Value → Bool)
    → AnalyseStop → Type 0
IsStopped p l t u stored old new first (stop.Full held) = IsStoppedAt p l t u stored old new first held
IsStopped p l t u stored old new first stop.Memory = Unit {0}

-- there was no room for a node, and each node is reached by a pin or was made of pinned sets
abbrev pub IsFullAt : LayoutState → AnalyseStop → PoolState → Type 0
IsFullAt l (stop.Full held) s = IsFull s × AreReachedOrMade l s
IsFullAt l stop.Memory s = Unit {0}

-- ---- what is pinned of it

abbrev pub held_by : Learned → List Ref
held_by learned.Root = []
held_by (learned.Asserting held v k) = sets_of held

abbrev pub held_at : AnalyseStop → List Ref
held_at (stop.Full held) = sets_of held
held_at stop.Memory = []
