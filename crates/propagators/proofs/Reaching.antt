-- The nodes of a unit reach only bits of its variables; and what a compilation ends with.
use Rattle.std.proofs.Common.{◌≡◌, List, [], ◌∷◌, refl, sym, ap, subst, inl, inr, arith, Contains}
use Rattle.std.specs.List.{AllZip}
use Rattle.std.specs.FinMap as map
use Rattle.set_meaning.specs.declared.kinds.Value.{Value}
use Rattle.set_meaning.specs.declared.problems.VarId.{VarId}
use Rattle.set_meaning.specs.declared.problems.Constraint.{Constraint}
use Rattle.set_meaning.specs.declared.problems.Problem.{Problem}
use Rattle.set_meaning.specs.Problems.{IsProblem}
use Rattle.set_meaning.specs.Relations.{Holds, variables_of, IsScope}
use Rattle.bit_layout.specs.Order.{LayoutState, IsLayout}
use Rattle.diagram_arena.specs.declared.nodes.NodeId.{NodeId}
use Rattle.diagram_arena.specs.declared.nodes.Ref.{Ref}
use Rattle.diagram_arena.specs.declared.nodes.Ref.TheVariants.{Node}
use Rattle.diagram_arena.specs.declared.nodes.Stop.{Stop}
use Rattle.diagram_arena.specs.declared.nodes.Stop.TheVariants.{Full, Memory}
use Rattle.diagram_arena.specs.Table.{Words, Table, has, IsLive, IsReduced}
use Rattle.diagram_arena.specs.Reach.{Bits, DependsOn}
use Rattle.diagram_arena.specs.Arena.{ArenaState, table}
use Rattle.diagram_arena.proofs.Reach.{reaches_only, part_depends}
use Rattle.node_reclaim.specs.Pool.{PoolState, Unpins}
use Rattle.scope_words.specs.Words.{variables_in}
use Rattle.scope_words.proofs.Bits.{place_of_bit, is_bit_of}
use Rattle.exact_steps.proofs.Wanted.{Covers, words_depend}
use Rattle.node_reclaim.specs.Holders.{Gains, AreHeld, MeansTheSame}
use Rattle.pin_lists.specs.Units.{AllAre}
use Rattle.pin_lists.proofs.Leaving.{gained_from, held_after, held_none, held_beside}
use Rattle.propagators.specs.Compiled.{CompiledState, pinned_by, AreInitialDomains, IsDiagramOfConstraint, IsCompiled}
use Rattle.propagators.specs.Units.{Anything, Relates, Fails, HasTruth, HasTruthOfRelation, truth_variables, IsPartOfWords, IsWantedBy, IsOfUnit, ReachesUnit, AllReachUnits, PinsAfter}
use Rattle.propagators.specs.Units.IsWantedBy.{initial, holding, failing, truth, truth_of_relation, satisfying}
use Rattle.propagators.specs.Units.IsOfUnit.{of_variable, of_constraint}
use Rattle.propagators.specs.Units.ReachesUnit.{of_variable as reaches_variable, of_constraint as reaches_constraint}
use Rattle.propagators.specs.Work.{LeavesUnits, HoldsUnits, IsGivenBack}
use Rattle.propagators.proofs.Narrow.{argument_variable}
use Rattle.propagators.proofs.Truths.{truth_variable}

-- ---- bits

covers_less : (l : LayoutState) (few many : List VarId) (set : Bits) → ((v : VarId) → Contains few v → Contains many v) → Covers l many set → Covers l few set
covers_less l few many set inside covers b h = let p = place_of_bit l few b h in covers b (is_bit_of l many b p.0 p.1 (inside p.0.variable p.2))

part_of_words_depends : (l : LayoutState) (vs : List VarId) (C : List Value → Type 0) (W : Words) (set : Bits) → IsLayout l → Covers l vs set → IsPartOfWords l vs C W → DependsOn set W
part_of_words_depends l vs C W set ok covers p = part_depends set W p.set p.part (words_depend l vs C p.set set ok p.words covers)

wanted_depends : (l : LayoutState) (c : Constraint) (W : Words) (set : Bits) → IsLayout l → Covers l (variables_of c) set → IsWantedBy l c W → DependsOn set W
wanted_depends l c W set ok covers (initial p) = part_of_words_depends l (variables_in c.args) Anything W set ok (covers_less l (variables_in c.args) (variables_of c) set (argument_variable c) covers) p
wanted_depends l c W set ok covers (holding p) = part_of_words_depends l (variables_in c.args) (Relates c) W set ok (covers_less l (variables_in c.args) (variables_of c) set (argument_variable c) covers) p
wanted_depends l c W set ok covers (failing p) = part_of_words_depends l (variables_in c.args) (Fails c) W set ok (covers_less l (variables_in c.args) (variables_of c) set (argument_variable c) covers) p
wanted_depends l c W set ok covers (truth b p) = part_of_words_depends l (truth_variables c) (HasTruth c b) W set ok (covers_less l (truth_variables c) (variables_of c) set (truth_variable c) covers) p
wanted_depends l c W set ok covers (truth_of_relation b p) = part_of_words_depends l (variables_of c) (HasTruthOfRelation c b) W set ok covers p
wanted_depends l c W set ok covers (satisfying p) = part_of_words_depends l (variables_of c) (Holds c) W set ok covers p

unit_reaches : (l : LayoutState) (p : Problem) (t : Table) (i : NodeId) → IsLayout l → IsReduced t → IsLive t (Node i) → IsOfUnit l p (has t (Node i)) → ReachesUnit l p t (Node i)
unit_reaches l p t i ok reduced live (of_variable v within part) =
    reaches_variable v within (λ set covers. reaches_only t reduced set (Node i) live (part_of_words_depends l (v ∷ []) Anything (has t (Node i)) set ok covers part))
unit_reaches l p t i ok reduced live (of_constraint c listed wanted) =
    reaches_constraint c listed (λ set covers. reaches_only t reduced set (Node i) live (wanted_depends l c (has t (Node i)) set ok covers wanted))

pub units_reach : (l : LayoutState) (p : Problem) (old new : Table) → IsLayout l → IsReduced new → AllAre old new (IsOfUnit l p) → AllReachUnits l p old new
units_reach l p old new ok reduced all i live = elim (all i live) [ inl stood ↦ inl stood | inr wanted ↦ inr (unit_reaches l p new i ok reduced live wanted) ]

-- ---- the ends of a compilation

pub held_there : (l : LayoutState) (p : Problem) (old new : PoolState) (held : List Ref) → LeavesUnits l p old new held → AreHeld new held
held_there l p old new held left = held_after old new [] held left.pins (held_none old)

pub all_compiled : (l : LayoutState) (p : Problem) (t : Table) (k : CompiledState) → IsProblem p → l.kinds ≡ p.kinds → AreInitialDomains l t k.start → AllZip IsScope p.constraints k.scopes → AllZip (IsDiagramOfConstraint l t) p.constraints k.diagrams
    → IsCompiled l p t k
all_compiled l p t k legal same start scopes diagrams = record { legal = legal; kinds = same; start = start; scopes = scopes; diagrams = diagrams }

pub gained_all : (l : LayoutState) (p : Problem) (old new : PoolState) (held : List Ref) (k : CompiledState) → HoldsUnits l p old new held → held ≡ pinned_by k → Gains old new (pinned_by k)
gained_all l p old new held k units e = subst (Gains old new) e (gained_from old new held units.left.pins)

pub stopped_full : (l : LayoutState) (p : Problem) (old new : PoolState) (held : List Ref) → HoldsUnits l p old new held → PinsAfter l p old new Full
stopped_full l p old new held units = (units.domains, units.diagrams, units.done, subst (Gains old new) units.all (gained_from old new held units.left.pins))

pub stopped_memory : (l : LayoutState) (p : Problem) (old mid new : PoolState) (held : List Ref) → LeavesUnits l p old mid held → Unpins mid new held → PinsAfter l p old new Memory
stopped_memory l p old mid new held left un i = let g = left.pins i in let h = un.lost i in omega (arith, g, h)

pub same_arena : (mid new : PoolState) → new ≡ record mid { counts = new.counts } → new.arena ≡ mid.arena
same_arena mid new e = ap (λ (s : PoolState). s.arena) e

-- after the pins were spent

pub stopped_so : (l : LayoutState) (p : Problem) (old mid new : PoolState) (held : List Ref) (stop : Stop) → HoldsUnits l p old mid held → IsGivenBack stop mid new held → PinsAfter l p old new stop
stopped_so l p old mid new held Full units e = subst (λ (s : PoolState). PinsAfter l p old s Full) (sym e) (stopped_full l p old mid held units)
stopped_so l p old mid new held Memory units un = stopped_memory l p old mid new held units.left un

pub arena_so : (mid new : PoolState) (held : List Ref) (stop : Stop) → IsGivenBack stop mid new held → new.arena ≡ mid.arena
arena_so mid new held Full e = ap (λ (s : PoolState). s.arena) e
arena_so mid new held Memory un = same_arena mid new un.only

-- what is there after the pins were spent
pub record IsLeft (l : LayoutState) (p : Problem) (old : PoolState) (new : ArenaState) : Type 0 where
  pub reduced : IsReduced (table new)
  pub limit : new.limit ≡ old.arena.limit
  pub kept : (rs : List Ref) → AreHeld old rs → MeansTheSame (table old.arena) (table new) rs
  pub sets : AllAre (table old.arena) (table new) (IsOfUnit l p)

pub left_now : (l : LayoutState) (p : Problem) (old new : PoolState) (held : List Ref) → LeavesUnits l p old new held → IsLeft l p old new.arena
left_now l p old new held left = record { reduced = left.reduced; limit = left.limit; kept = λ rs is. left.kept rs (held_beside old rs is); sets = left.sets }

pub left_so : (l : LayoutState) (p : Problem) (old mid new : PoolState) (held : List Ref) (stop : Stop) → HoldsUnits l p old mid held → IsGivenBack stop mid new held → IsLeft l p old new.arena
left_so l p old mid new held stop units spent = subst (IsLeft l p old) (sym (arena_so mid new held stop spent)) (left_now l p old mid held units.left)

pub full_so : (mid new : PoolState) (held : List Ref) (stop : Stop) → (stop ≡ Full → map.len mid.arena.nodes ≡ mid.arena.limit) → IsGivenBack stop mid new held → stop ≡ Full → map.len new.arena.nodes ≡ new.arena.limit
full_so mid new held Full full e is = subst (λ (s : PoolState). map.len s.arena.nodes ≡ s.arena.limit) (sym e) (full refl)
full_so mid new held Memory full un is = absurd (cc)
