-- The walk from a conflict over a trail that is undone as it goes.
use Rattle.std.proofs.Common.{ℕ, ◌<◌, ◌≤◌, Bool, List, sym, subst, arith}
use Rattle.set_meaning.specs.declared.kinds.Value.{Value}
use Rattle.set_meaning.specs.declared.problems.Problem.{Problem}
use Rattle.bit_layout.specs.Order.{LayoutState}
use Rattle.diagram_arena.specs.Table.{Table}
use Rattle.search_rules.specs.Family.{Lies}
use Rattle.search_rules.specs.Box.{resolvent}
use Rattle.search_rules.specs.Trail as rules
use Rattle.search_rules.specs.Walk.{GoesOn, Matters, Walk, pass, resolve, reason_box}
use Rattle.exact_steps.specs.Domains.{family}
use Rattle.problem_rules.specs.Posed.{problem_of}
use Rattle.domain_trail.specs.Trail.{TrailState, newest_first, top, IsUndone}
use Rattle.box_clauses.specs.declared.store.StoredBox.{StoredBox}
use Rattle.search_state.specs.Readings.{entry_of, entries_of, AreReadable, IsTrailOf}
use Rattle.search_state.specs.Turns.{IsPartlyUndone}
use Rattle.search_state.proofs.Changes.{DomainLaws, undone_again, top_reads}
use Rattle.search_state.proofs.Legal.{entries_undone, family_undone}

pub walk_passed : (laws : DomainLaws) (p : Problem) (l : LayoutState) (t : Table) (stored : List StoredBox) (now next : TrailState) (es : List (rules.Entry Value)) (f b c : ℕ → Value → Bool)
    → AreReadable l t stored now → (undone : IsUndone now next) → Walk (problem_of p) es f b (entries_of l t stored now.entries) (family l t now.domains) c
    → GoesOn (entries_of l t stored now.entries) c → Lies (entry_of l t stored undone.entry).before (c (entry_of l t stored undone.entry).var)
    → Walk (problem_of p) es f b (entries_of l t stored next.entries) (family l t next.domains) c
walk_passed laws p l t stored now next es f b c are undone walk on lies =
    let same = entries_undone l t stored now next undone in
    subst (λ (g : ℕ → Value → Bool). Walk (problem_of p) es f b (entries_of l t stored next.entries) g c) (sym (family_undone laws l t stored now next undone are))
    (pass (subst (λ xs. Walk (problem_of p) es f b xs (family l t now.domains) c) same walk) (subst (λ xs. GoesOn xs c) same on) lies)

-- the running box resolved with the reason box of the entry
abbrev resolved_with : Problem → (ℕ → Value → Bool) → (ℕ → Value → Bool) → rules.Entry Value → ℕ → Value → Bool
resolved_with p g c e = resolvent c (reason_box (problem_of p) e.reason (rules.undo g e) e.var (g e.var)) e.var

pub walk_resolved : (laws : DomainLaws) (p : Problem) (l : LayoutState) (t : Table) (stored : List StoredBox) (now next : TrailState) (es : List (rules.Entry Value)) (f b c : ℕ → Value → Bool)
    → AreReadable l t stored now → (undone : IsUndone now next) → Walk (problem_of p) es f b (entries_of l t stored now.entries) (family l t now.domains) c
    → GoesOn (entries_of l t stored now.entries) c → Matters (entry_of l t stored undone.entry) c
    → Walk (problem_of p) es f b (entries_of l t stored next.entries) (family l t next.domains) (resolved_with p (family l t now.domains) c (entry_of l t stored undone.entry))
walk_resolved laws p l t stored now next es f b c are undone walk on matters =
    let same = entries_undone l t stored now next undone in
    subst (λ (g : ℕ → Value → Bool). Walk (problem_of p) es f b (entries_of l t stored next.entries) g (resolved_with p (family l t now.domains) c (entry_of l t stored undone.entry)))
    (sym (family_undone laws l t stored now next undone are))
    (resolve (subst (λ xs. Walk (problem_of p) es f b xs (family l t now.domains) c) same walk) (subst (λ xs. GoesOn xs c) same on) matters)

-- the level of the entries that are left is at most that of the undone one
level_falls : (p : Problem) (l : LayoutState) (t : Table) (stored : List StoredBox) (now next : TrailState) → IsTrailOf p l t stored now → (undone : IsUndone now next)
    → top (newest_first next) ≤ undone.entry.level
level_falls p l t stored now next is undone =
    let replays = subst (λ es. rules.Replays (problem_of p) es (family l t now.domains)) (entries_undone l t stored now next undone) is.trail.replays in
    subst (λ n. n ≤ undone.entry.level) (top_reads l t stored (newest_first next)) replays.0.low

pub undone_further : (p : Problem) (l : LayoutState) (t : Table) (stored : List StoredBox) (old now next : TrailState) → IsTrailOf p l t stored now → IsUndone now next
    → IsPartlyUndone old now → IsPartlyUndone old next
undone_further p l t stored old now next is undone way k new below to =
    let low : top (newest_first next) ≤ undone.entry.level = level_falls p l t stored now next is undone in
    let above : k < undone.entry.level = omega (arith, low, below) in
    way k new (subst (λ es. k < top es) (sym undone.newest) above) (undone_again k now next new undone above to)
