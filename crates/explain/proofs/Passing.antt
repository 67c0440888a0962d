-- Entries that do not matter, passed one after another.
use Rattle.std.proofs.Common.{List, [], ◌∷◌, sym, subst}
use Rattle.std.specs.List.{All}
use Rattle.std.proofs.lemmas.List.Elements.{All-head, All-tail}
use Rattle.set_meaning.specs.declared.kinds.Value.{Value}
use Rattle.set_meaning.specs.declared.problems.Problem.{Problem}
use Rattle.bit_layout.specs.Order.{LayoutState}
use Rattle.diagram_arena.specs.declared.nodes.Ref.{Ref}
use Rattle.diagram_arena.specs.Table.{Table}
use Rattle.search_rules.specs.Trail as rules
use Rattle.search_rules.specs.Walk.{GoesOn, Walk, begin}
use Rattle.exact_steps.specs.Domains.{family}
use Rattle.problem_rules.specs.Posed.{problem_of}
use Rattle.domain_trail.specs.declared.entries.Entry.{Entry}
use Rattle.domain_trail.specs.Trail.{TrailState, IsUndone}
use Rattle.box_clauses.specs.declared.store.StoredBox.{StoredBox}
use Rattle.search_state.specs.Readings.{entry_of, entries_of, IsTrailOf}
use Rattle.search_state.specs.Turns.{IsPartlyUndone}
use Rattle.explain.specs.Scans.{Passes}
use Rattle.explain.specs.Work.{AreUndone}
use Rattle.explain.specs.WalkLaws.{GoingLaws}

-- the walk from the running box has come to the trail `now` with that box, and goes on
pub record IsPassing (p : Problem) (l : LayoutState) (t : Table) (stored : List StoredBox) (old now : TrailState) (running : List Ref) : Type 0 where
  pub trail : IsTrailOf p l t stored now
  pub walk : Walk (problem_of p) (entries_of l t stored old.entries) (family l t old.domains) (family l t running)
      (entries_of l t stored now.entries) (family l t now.domains) (family l t running)
  pub on : GoesOn (entries_of l t stored now.entries) (family l t running)
  pub partly : IsPartlyUndone old now

module _ (p : Problem) (laws : GoingLaws p) (l : LayoutState) (t : Table) (stored : List StoredBox) (old : TrailState) (running : List Ref) where
  pub starts : IsTrailOf p l t stored old → GoesOn (entries_of l t stored old.entries) (family l t running) → IsPassing p l t stored old old running
  starts trail on = record { trail = trail; walk = begin; on = on; partly = laws.itself old }

  one_passed : (mid new : TrailState) → (undone : IsUndone mid new) → Passes l t running undone.entry → IsPassing p l t stored old mid running → IsPassing p l t stored old new running
  one_passed mid new undone lies h = record {
    trail = laws.trail l t stored mid new undone h.trail;
    walk = laws.passed l t stored mid new (entries_of l t stored old.entries) (family l t old.domains) (family l t running) (family l t running) h.trail.readable undone h.walk h.on lies;
    on = (laws.one (entry_of l t stored undone.entry) (entries_of l t stored new.entries) (family l t running) lies).0
        (subst (λ (xs : List (rules.Entry Value)). GoesOn xs (family l t running)) (laws.entries l t stored mid new undone) h.on);
    partly = laws.further l t stored old mid new h.trail undone h.partly;
  }

  pub passing : (es : List Entry) (now new : TrailState) → AreUndone es now new → All (Passes l t running) es → IsPassing p l t stored old now running → IsPassing p l t stored old new running
  passing [] now new same pass h = subst (λ (s : TrailState). IsPassing p l t stored old s running) same h
  passing (e ∷ es) now new (mid, chain, undone, is) pass h =
      one_passed mid new undone (subst (Passes l t running) (sym is) (All-head (Passes l t running) e es pass))
      (passing es now mid chain (All-tail (Passes l t running) e es pass) h)
