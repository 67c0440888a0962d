-- The initial domains are on the way to the root family, and what a root family that was reached says.
use Rattle.std.specs.List.{All}
use Rattle.std.proofs.lemmas.Option.{slice_get-get_or}
use Rattle.exact_steps.specs.Domains.{variable}
use Rattle.std.proofs.Common.{◌≡◌, ℕ, get_or, Bool, true, false, not, List, [], length, refl, sym, subst}
use Rattle.set_meaning.specs.declared.problems.Bounds.{Bounds}
use Rattle.set_meaning.specs.declared.problems.Problem.{Problem}
use Rattle.bit_layout.specs.Order.{LayoutState, IsLayout}
use Rattle.diagram_arena.specs.declared.nodes.Ref.{Ref}
use Rattle.diagram_arena.specs.Table.{Table, IsLive, IsReduced}
use Rattle.search_rules.specs.Problem as rules
use Rattle.search_rules.specs.Problem.Steps.{start}
use Rattle.problem_rules.specs.Posed.{problem_of}
use Rattle.problem_rules.proofs.Starting.{initial_family}
use Rattle.propagators.specs.Compiled.{CompiledState, IsCompiled}
use Rattle.propagators.proofs.Moving.{initial_domains}
use Rattle.learn_search.specs.Way.{IsOnWay, IsFixed, IsRootFamily, AreRowsAt}
use Rattle.learn_search.specs.Roots.{AreRowsOf}
use Rattle.learn_search.proofs.Sizes.{rows_are, not_refuted}

pub start_way : (p : Problem) (l : LayoutState) (t : Table) (k : CompiledState) (domains : List Ref) → IsCompiled l p t k → domains ≡ k.start → IsOnWay p l t domains
start_way p l t k domains is e = subst (IsOnWay p l t) (sym e) (record {
  domains_are = initial_domains l t k.start is.start;
  constraints = [];
  steps = subst (rules.Steps (problem_of p) (problem_of p).initial []) (sym (initial_family p l t k.start is.kinds is.start.long (λ v r at x initial. (is.start.each v r at).all x initial))) start;
})

pub not_false : (b : Bool) → not b ≡ false → b ≡ true
not_false true h = refl
not_false false h = absurd (let e : true ≡ false = h in cc)

pub found_rows : (p : Problem) (l : LayoutState) (t : Table) (domains lent : List Ref) (b : Bool) (rows : List (Bounds × ℕ)) → IsLayout l → l.kinds ≡ p.kinds → IsReduced t → IsFixed p l t domains b → b ≡ true
    → lent ≡ domains → AreRowsAt l t lent (length lent) rows → (rules.IsRootRefuted (problem_of p) → ⊥) × AreRowsOf p rows
found_rows p l t domains lent b rows ok same reduced fixed on is_lent are =
    let root : IsRootFamily p l t domains = subst (IsFixed p l t domains) on fixed in
    let own : AreRowsAt l t domains (length domains) rows = subst (λ ds. AreRowsAt l t ds (length ds) rows) is_lent are in
    (not_refuted p l t domains ok same root, rows_are p l t domains ok same root rows reduced own)

pub start_live : (p : Problem) (l : LayoutState) (t : Table) (k : CompiledState) (lent : List Ref) → IsCompiled l p t k → lent ≡ k.start → All (IsLive t) lent
start_live p l t k lent is e = subst (All (IsLive t)) (sym e) (λ i d within. (is.start.each (variable i) (get_or k.start i d) (slice_get-get_or k.start i d within)).domain.diagram.live)
