-- What units begin with and leave, one after another.
use Rattle.std.proofs.Common.{◌≡◌, ◌<◌, ◌≤◌, List, ◌++◌, subst, arith}
use Rattle.std.proofs.lemmas.List.Elements.{Contains-append_left}
use Rattle.set_meaning.specs.declared.problems.Problem.{Problem}
use Rattle.bit_layout.specs.Order.{LayoutState}
use Rattle.diagram_arena.specs.declared.nodes.Ref.{Ref}
use Rattle.diagram_arena.specs.Table.{Words, Table, IsReduced}
use Rattle.diagram_arena.specs.Arena.{table}
use Rattle.node_reclaim.specs.Pool.{PoolState}
use Rattle.node_reclaim.specs.Holders.{AreHeld, MeansTheSame}
use Rattle.pin_lists.specs.Units.{PinnedAreLive, Moves}
use Rattle.pin_lists.proofs.Counting.{times-append}
use Rattle.pin_lists.proofs.Leaving.{units_itself, units_then, units_begun}
use Rattle.search_rules.proofs.MeasureLemmas.{total_mono}
use Rattle.exact_steps.specs.Domains.{family}
use Rattle.problem_rules.specs.Posed.{problem_of}
use Rattle.propagators.specs.Compiled.{CompiledState, pinned_by}
use Rattle.domain_trail.specs.Trail.{TrailState, befores, held}
use Rattle.box_clauses.specs.declared.store.StoredBox.{StoredBox}
use Rattle.box_clauses.specs.Stored.{stored_sets}
use Rattle.propagation.specs.Quiet.{HasNarrowed}
use Rattle.propagation.specs.Nodes.{IsOfPropagation}
use Rattle.propagation.specs.Work.{IsReady, IsOnward, values_left}
use Rattle.propagation.specs.Laws.{StayLaws}
use Rattle.propagation.proofs.Narrowings.{narrowed_itself, narrowed_then}

-- ---- what is held

pub front_held : (s : PoolState) (k h b : List Ref) → AreHeld s (k ++ (h ++ b)) → AreHeld s (k ++ h)
front_held s k h b all i =
    let m = all i in
    let one = times-append i k (h ++ b) in
    let two = times-append i h b in
    let three = times-append i k h in
    omega (arith, m, one, two, three)

pub back_held : (s : PoolState) (k h b : List Ref) → AreHeld s (k ++ (h ++ b)) → AreHeld s (b ++ h)
back_held s k h b all i =
    let m = all i in
    let one = times-append i k (h ++ b) in
    let two = times-append i h b in
    let three = times-append i b h in
    omega (arith, m, one, two, three)

pub middle_held : (s : PoolState) (k h b : List Ref) → AreHeld s (k ++ (h ++ b)) → AreHeld s h
middle_held s k h b all i =
    let m = all i in
    let one = times-append i k (h ++ b) in
    let two = times-append i h b in
    omega (arith, m, one, two)

pub last_held : (s : PoolState) (k h b : List Ref) → AreHeld s (k ++ (h ++ b)) → AreHeld s b
last_held s k h b all i =
    let m = all i in
    let one = times-append i k (h ++ b) in
    let two = times-append i h b in
    omega (arith, m, one, two)

pub moved_held : (a c : PoolState) (k h g b : List Ref) → Moves a c h g → AreHeld a (k ++ (h ++ b)) → AreHeld c (k ++ (g ++ b))
moved_held a c k h g b moved all i =
    let m = all i in
    let n = moved i in
    let one = times-append i k (h ++ b) in
    let two = times-append i h b in
    let three = times-append i k (g ++ b) in
    let four = times-append i g b in
    omega (arith, m, n, one, two, three, four)

-- ---- families

-- the domains of a trail read the same where what it holds means the same
pub family_kept : (laws : StayLaws) (l : LayoutState) (t u : Table) (s : TrailState) → MeansTheSame t u (held s) → family l u s.domains ≡ family l t s.domains
family_kept laws l t u s means = laws.families l t u s.domains (λ r h. means r (Contains-append_left s.domains (befores s.entries) r h))

-- ---- onward

module _ (p : Problem) (l : LayoutState) (stored : List StoredBox) where
  abbrev P : Words → Type 0
  P = IsOfPropagation p l

  pub onward_itself : (s : PoolState) (k : CompiledState) (trail : TrailState) → PinnedAreLive s → IsReduced (table s.arena) → IsReady p l s k stored trail → IsOnward p l stored s s trail trail
  onward_itself s k trail pinned ok ready = record {
    left = units_itself P s (held trail) pinned ok;
    narrowed = narrowed_itself p l (table s.arena) stored trail ready.legal;
  }

  pub onward_then : (a b c : PoolState) (x y z : TrailState) → IsOnward p l stored a b x y → IsOnward p l stored b c y z → IsOnward p l stored a c x z
  onward_then a b c x y z first second = record {
    left = units_then P a b c (held x) (held y) (held z) first.left second.left;
    narrowed = narrowed_then p l (table a.arena) (table b.arena) (table c.arena) stored x y z first.narrowed second.narrowed;
  }

  pub onward_begun : (a b c : PoolState) (x y : TrailState) → b ≡ record a { units = b.units } → IsOnward p l stored b c x y → IsOnward p l stored a c x y
  onward_begun a b c x y begun onward = record {
    left = units_begun P a b c (held x) (held y) begun onward.left;
    narrowed = subst (λ (s : PoolState). HasNarrowed p l (table s.arena) (table c.arena) stored x y) begun onward.narrowed;
  }

  module _ (laws : StayLaws) (k : CompiledState) (a b : PoolState) (old new : TrailState) (ready : IsReady p l a k stored old) (onward : IsOnward p l stored a b old new) where
    pub stored_kept : MeansTheSame (table a.arena) (table b.arena) (stored_sets stored)
    stored_kept = onward.left.kept (stored_sets stored) (back_held a (pinned_by k) (held old) (stored_sets stored) ready.pinned)

    pub ready_on : IsReady p l b k stored new
    ready_on = record {
      compiled = laws.compiled l p (table a.arena) (table b.arena) k (onward.left.kept (pinned_by k) (front_held a (pinned_by k) (held old) (stored_sets stored) ready.pinned)) ready.compiled;
      legal = onward.narrowed.trail;
      pinned = moved_held a b (pinned_by k) (held old) (held new) (stored_sets stored) onward.left.pins ready.pinned;
    }

  -- ---- how many values are left

  pub left_on : (t u : Table) (old new : TrailState) → HasNarrowed p l t u stored old new → values_left p l u new ≤ values_left p l t old
  left_on t u old new is = total_mono (problem_of p) (family l u new.domains) (family l t old.domains) is.smaller

  pub fewer_first : (t u w : Table) (x y z : TrailState) → values_left p l u y < values_left p l t x → HasNarrowed p l u w stored y z → values_left p l w z < values_left p l t x
  fewer_first t u w x y z less is = let more = left_on u w y z is in omega (arith, less, more)

  pub fewer_last : (t u w : Table) (x y z : TrailState) → HasNarrowed p l t u stored x y → values_left p l w z < values_left p l u y → values_left p l w z < values_left p l t x
  fewer_last t u w x y z is less = let more = left_on t u x y is in omega (arith, less, more)
