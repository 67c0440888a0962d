-- The pins of a compilation are taken back, or left.
use Rattle.std.proofs.Common.{◌≡◌, List, [], ◌++◌, length, take, Some, refl, sym, ap, ◌∙◌, subst, inl, inr, arith}
use Rattle.std.specs.List.{AllZip}
use Rattle.std.proofs.lemmas.List.{take_all}
use Rattle.std.proofs.lemmas.Slice.Zip.{AllZip-long}
use Rattle.set_meaning.specs.declared.problems.Constraint.{Constraint}
use Rattle.set_meaning.specs.declared.problems.Problem.{Problem}
use Rattle.bit_layout.specs.Order.{LayoutState, IsLayout}
use Rattle.diagram_arena.specs.declared.nodes.Ref.{Ref}
use Rattle.diagram_arena.specs.declared.nodes.Stop.{Stop}
use Rattle.diagram_arena.specs.declared.nodes.Stop.TheVariants.{Full, Memory}
use Rattle.diagram_arena.specs.Table.{Table, IsReduced}
use Rattle.diagram_arena.specs.Arena.{ArenaState, table}
use Rattle.node_reclaim.specs.Pool.{PoolState, Unpins}
use Rattle.node_reclaim.specs.Holders.{Gains, AreHeld, KeepsPins, MeansTheSame}
use Rattle.pin_lists.specs.Units.{PinnedAreLive, AllAre, UnitsLeave}
use Rattle.pin_lists.proofs.Counting.{times-append}
use Rattle.pin_lists.proofs.Leaving.{means_itself, means_then, all_itself, all_then, held_beside, only_then}
use Rattle.propagators.specs.Compiled.{CompiledState, pinned_by, IsCompiled, IsDiagramOfConstraint}
use Rattle.propagators.specs.Units.{AreDone, IsOfUnit, PinsAfter}
use Rattle.learn_search.specs.Pinned.{AreDomainsOfFirst, LeavesPinned, PinsAfterStop}
use Rattle.learn_search.specs.Nodes.{IsOfRoot, RootLeaves}
use Rattle.learn_search.specs.Nodes.IsOfRoot.{of_compilation}
use Rattle.learn_search.proofs.Keeping.{held_on, compiled_kept}

-- all units are done
all_done : (l : LayoutState) (p : Problem) (t : Table) (k : CompiledState) → IsCompiled l p t k → AreDone l p t k.start k.diagrams
all_done l p t k is = record {
  variables = let long = is.start.long in let same = ap length is.kinds in omega (arith, long, same);
  each = is.start.each;
  constraints =
      let long : length k.diagrams ≡ length p.constraints = AllZip-long (IsDiagramOfConstraint l t) p.constraints k.diagrams is.diagrams in
      let whole : take (length k.diagrams) p.constraints ≡ p.constraints = take_all (length k.diagrams) p.constraints (omega (arith, long)) in
      subst (λ (cs : List Constraint). AllZip (IsDiagramOfConstraint l t) cs k.diagrams) (sym whole) is.diagrams;
}

-- ---- what the whole search leaves

pub root_itself : (p : Problem) (s : PoolState) → PinnedAreLive s → IsReduced (table s.arena) → RootLeaves p s s
root_itself p s pinned ok = record { limit = refl; kept = λ rs h. means_itself s rs pinned h; wanted = all_itself (table s.arena) (IsOfRoot p) }

unit_of_root : (p : Problem) (l : LayoutState) (t u : Table) → IsLayout l → l.kinds ≡ p.kinds → AllAre t u (IsOfUnit l p) → AllAre t u (IsOfRoot p)
unit_of_root p l t u ok same all i live = elim (all i live) [ inl stood ↦ inl stood | inr unit ↦ inr (of_compilation l ok same unit) ]

-- a compilation, whatever came of it
pub compile_leaves : (p : Problem) (l : LayoutState) (a b : PoolState) → IsLayout l → l.kinds ≡ p.kinds → b.arena.limit ≡ a.arena.limit → ((rs : List Ref) → AreHeld a rs → MeansTheSame (table a.arena) (table b.arena) rs)
    → AllAre (table a.arena) (table b.arena) (IsOfUnit l p) → RootLeaves p a b
compile_leaves p l a b ok same limit kept all = record { limit = limit; kept = kept; wanted = unit_of_root p l (table a.arena) (table b.arena) ok same all }

pub compile_stopped : (p : Problem) (l : LayoutState) (a b : PoolState) (stop : Stop) → IsLayout l → l.kinds ≡ p.kinds → PinsAfter l p a b stop → PinsAfterStop p a b stop
compile_stopped p l a b Full ok same h = record {
  layout = l;
  ordered = ok;
  kinds = same;
  domains = h.0;
  diagrams = h.1;
  done = h.2;
  way = [];
  on_way = record { each = λ v r e. absurd (cc) };
  gains = λ i. let g = h.3 i in let e = times-append i (h.0 ++ h.1) [] in omega (arith, g, e);
}
compile_stopped p l a b Memory ok same h = h

module _ (p : Problem) (l : LayoutState) (a b c : PoolState) (k : CompiledState) (way : List Ref) (ok : IsLayout l) (is : IsCompiled l p (table b.arena) k) (reduced : IsReduced (table b.arena)) (first : RootLeaves p a b)
    (gained : Gains a b (pinned_by k)) (second : UnitsLeave (IsOfRoot p) b c [] way) where
  held : AreHeld b (pinned_by k)
  held i = let g = gained i in omega (arith, g)

  pub held_all : AreHeld c (pinned_by k ++ way)
  held_all = held_on b c (pinned_by k) [] way second.pins (held_beside b (pinned_by k) held)

  compiled_now : IsCompiled l p (table c.arena) k
  compiled_now = compiled_kept (IsOfRoot p) p l b c k [] way second (held_beside b (pinned_by k) held) is

  pub all_pins : Gains a c (pinned_by k ++ way)
  all_pins i = let g = gained i in let m = second.pins i in let e = times-append i (pinned_by k) way in omega (arith, g, m, e)

  pub root_leaves : (d : PoolState) → d.arena ≡ c.arena → RootLeaves p a d
  root_leaves d same =
      let here : RootLeaves p a c = record {
        limit = second.limit ∙ first.limit;
        kept = λ rs h. means_then (table a.arena) (table b.arena) (table c.arena) rs (first.kept rs h) (second.kept rs (held_beside b rs (λ i. let n = h i in let g = gained i in omega (arith, n, g))));
        wanted = all_then (table a.arena) (table b.arena) (table c.arena) (IsOfRoot p) first.wanted second.sets;
      } in record {
        limit = ap (λ (x : ArenaState). x.limit) same ∙ here.limit;
        kept = λ rs h. subst (λ (x : ArenaState). MeansTheSame (table a.arena) (table x) rs) (sym same) (here.kept rs h);
        wanted = subst (λ (x : ArenaState). AllAre (table a.arena) (table x) (IsOfRoot p)) (sym same) here.wanted;
      }

  pub spent_pins : (d : PoolState) → Unpins c d (pinned_by k ++ way) → KeepsPins a d
  spent_pins d spent i = let g = all_pins i in let l = spent.lost i in omega (arith, g, l)

  pub spent_leaves : (d : PoolState) → Unpins c d (pinned_by k ++ way) → RootLeaves p a d
  spent_leaves d spent = root_leaves d (ap (λ (s : PoolState). s.arena) spent.only)

  left_pins : AreDomainsOfFirst l (table c.arena) way → LeavesPinned p a c
  left_pins on_way = record {
    layout = l;
    ordered = ok;
    kinds = is.kinds;
    domains = k.start;
    diagrams = k.diagrams;
    done = all_done l p (table c.arena) k compiled_now;
    way = way;
    on_way = on_way;
    gains = all_pins;
  }

  module _ (d : PoolState) where
    pub after_stop : (stop : Stop) → (stop ≡ Full → AreDomainsOfFirst l (table c.arena) way) → (Some stop ≡ Some Full → d ≡ c) → ((Some stop ≡ Some Full → ⊥) → Unpins c d (pinned_by k ++ way)) → PinsAfterStop p a d stop
    after_stop Full on_way left spent = subst (LeavesPinned p a) (sym (left refl)) (left_pins (on_way refl))
    after_stop Memory on_way left spent = spent_pins d (spent (λ e. cc))

    pub leaves_after : (stop : Stop) → (Some stop ≡ Some Full → d ≡ c) → ((Some stop ≡ Some Full → ⊥) → Unpins c d (pinned_by k ++ way)) → RootLeaves p a d
    leaves_after Full left spent = root_leaves d (ap (λ (s : PoolState). s.arena) (left refl))
    leaves_after Memory left spent = spent_leaves d (spent (λ e. cc))

-- ---- pins that are taken back one list after another

module _ (a b : PoolState) (frame way : List Ref) (held : AreHeld a (frame ++ way)) where
  pub held_way : AreHeld a way
  held_way i = let h = held i in let e = times-append i frame way in omega (arith, h, e)

  pub held_frame : Unpins a b way → AreHeld b frame
  held_frame spent i = let h = held i in let e = times-append i frame way in let l = spent.lost i in omega (arith, h, e, l)

  pub both_spent : (c : PoolState) → Unpins a b way → Unpins b c frame → Unpins a c (frame ++ way)
  both_spent c first second = record {
    only = only_then a b c first.only second.only;
    lost = λ i. let f = first.lost i in let s = second.lost i in let e = times-append i frame way in omega (arith, f, s, e);
  }
