-- Which nodes are made for a resolvent.
use Rattle.std.proofs.Common.{◌≡◌, ℕ, ◌<◌, ◌==◌, Bool, true, false, cond, List, length, subst, Contains}
use Rattle.set_meaning.specs.declared.kinds.Value.{Value}
use Rattle.set_meaning.specs.declared.problems.VarId.{VarId}
use Rattle.bit_layout.specs.Order.{LayoutState}
use Rattle.diagram_arena.specs.declared.nodes.Ref.{Ref}
use Rattle.diagram_arena.specs.declared.nodes.Ref.TheVariants.{Node}
use Rattle.diagram_arena.specs.Table.{Word, Words, Table, has, IsLive}
use Rattle.diagram_arena.specs.Arena.{table}
use Rattle.node_reclaim.specs.Pool.{PoolState, IsPinned}
use Rattle.node_reclaim.specs.Growth.{NewAre}
use Rattle.search_rules.specs.Family.{without}
use Rattle.exact_steps.specs.Domains.{values_in, family}
use Rattle.value_sets.specs.Sets.{IsValueSet, both, either, NewArePartsOfValues}
use Rattle.box_clauses.specs.declared.sides.Side.{Side}
use Rattle.running_boxes.specs.Nodes.{IsPartOfValues, IsOfVariable, IsMade, IsMadeOf}
use Rattle.running_boxes.specs.Nodes.IsMade.{pinned, union, intersection, difference}
use Rattle.running_boxes.specs.Work.{resolved_values, IsOfResolved}
use Rattle.running_boxes.specs.Laws.{LowerLaws}

-- ---- parts

pub parts_of_values : (l : LayoutState) (v : VarId) (f : Value → Bool) (old new : Table) → NewArePartsOfValues l v f old new → NewAre old new (IsPartOfValues l v f)
parts_of_values l v f old new parts i fresh live = record { set = parts.0; words = parts.1; part = parts.2 i fresh live }

pub of_variable : (l : LayoutState) (s : PoolState) (W : Words) → IsMadeOf l s W → IsOfVariable l W
of_variable l s W is = record { variable = is.variable; known = is.known; values = is.values; part = is.part }

-- ---- what is made

made_case : (l : LayoutState) (s : PoolState) (v : VarId) (b : Bool) (f g : Value → Bool) → IsMade l s v 1 f → IsMade l s v 1 g → IsMade l s v 3 (cond b (either f g) (both f g))
made_case l s v true f g first second = union first second
made_case l s v false f g first second = intersection first second

-- the nodes made for sides, each of which is made by one operation at most
pub made_of : (l : LayoutState) (s : PoolState) (t : Table) (running : List Ref) (v : VarId) (sides : List Side) (W : Words)
    → ((side : Side) → Contains sides side → (side.var.0 < length l.kinds) × IsMade l s side.var 1 (family l t running side.var.0) × IsMade l s side.var 1 (values_in l t side.var side.set))
    → IsOfResolved l t running v sides W → IsMadeOf l s W
made_of l s t running v sides W each is =
    let r = each is.side is.listed in
    record {
      variable = is.side.var;
      known = r.0;
      values = resolved_values l t running v is.side;
      made = made_case l s is.side.var (is.side.var.0 == v.0) (family l t running is.side.var.0) (values_in l t is.side.var is.side.set) r.1 r.2;
      part = is.part;
    }

-- the nodes made for the removed values
pub made_removed : (l : LayoutState) (s : PoolState) (v : VarId) (before now : Ref) (W : Words) → v.0 < length l.kinds → IsPinned s before → IsPinned s now → IsValueSet l (table s.arena) v before → IsValueSet l (table s.arena) v now
    → IsPartOfValues l v (without (values_in l (table s.arena) v before) (values_in l (table s.arena) v now)) W → IsMadeOf l s W
made_removed l s v before now W within p q set set' part =
    let first : IsMade l s v 1 (values_in l (table s.arena) v before) = pinned p set in
    let second : IsMade l s v 1 (values_in l (table s.arena) v now) = pinned q set' in
    record {
      variable = v;
      known = within;
      values = without (values_in l (table s.arena) v before) (values_in l (table s.arena) v now);
      made = difference first second;
      part = part;
    }

-- ---- other words

pub new_also : (t u : Table) (P Q : Words → Type 0) → ((W : Words) → P W → Q W) → NewAre t u P → NewAre t u Q
new_also t u P Q into a i fresh live = into (has u (Node i)) (a i fresh live)

-- ---- in another pool, where what is pinned means the same

module _ (laws : LowerLaws) (l : LayoutState) (a b : PoolState) (still : (r : Ref) → IsPinned a r → IsPinned b r)
    (means : (r : Ref) → IsPinned a r → IsLive (table b.arena) r × ((w : Word) → has (table b.arena) r w ≡ has (table a.arena) r w)) where
  made_still : (v : VarId) {n : ℕ} {f : Value → Bool} → IsMade l a v n f → IsMade l b v n f
  made_still v (pinned {n} {r} p set) =
      let m = means r p in
      let here : IsMade l b v n (values_in l (table b.arena) v r) = pinned (still r p) (laws.set_of_words l (table a.arena) (table b.arena) v r m.0 m.1 set) in
      subst (IsMade l b v n) (laws.values_of_words l (table a.arena) (table b.arena) v r m.1) here
  made_still v (union x y) = union (made_still v x) (made_still v y)
  made_still v (intersection x y) = intersection (made_still v x) (made_still v y)
  made_still v (difference x y) = difference (made_still v x) (made_still v y)

  pub made_of_still : (W : Words) → IsMadeOf l a W → IsMadeOf l b W
  made_of_still W is = record { variable = is.variable; known = is.known; values = is.values; made = made_still is.variable is.made; part = is.part }
