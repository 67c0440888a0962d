use Rattle.std.proofs.Common.{◌≡◌, ℕ, ◌<◌, ◌≤◌, List, [], ◌∷◌, ◌++◌, length, get_or, take, sym, ap, ◌∙◌, subst, arith, Contains}
use Rattle.std.specs.List.{AllZip}
use Rattle.std.proofs.lemmas.List.{take_all}
use Rattle.std.proofs.lemmas.List.Elements.{All-contains, Contains-get_or}
use Rattle.set_meaning.specs.declared.problems.VarId.{VarId}
use Rattle.set_meaning.specs.declared.problems.Constraint.{Constraint}
use Rattle.set_meaning.specs.Relations.{IsScope}
use Rattle.set_meaning.specs.Rows.{FitsRow}
use Rattle.diagram_arena.specs.Arena.{table}
use Rattle.problem_limits.specs.Limits.{IsWithinLimits}
use Rattle.propagators.specs.Compiled.{IsDiagramOfConstraint}
use Rattle.propagators.proofs.Narrow.{few_bits}
use Rattle.propagators.proofs.Holding.{constraints_first, constraints_held, constraints_refused, constraints_more, constraints_next}
use Rattle.propagators.proofs.units.constraints.Goals as goal

listed : (items all : List Constraint) (i : ℕ) (c : Constraint) → items ≡ all → i < length items → c ≡ get_or items i c → Contains all c
listed items all i c same within at = subst (λ (cs : List Constraint). Contains cs c) same (subst (Contains items) (sym at) (Contains-get_or items i c within))

inside : (items all : List Constraint) (i : ℕ) → items ≡ all → i < length items → i < length all
inside items all i same within = subst (λ (cs : List Constraint). i < length cs) same within

at_all : (items all : List Constraint) (i : ℕ) (c : Constraint) → items ≡ all → c ≡ get_or items i c → c ≡ get_or all i c
at_all items all i c same at = subst (λ (cs : List Constraint). c ≡ get_or cs i c) same at

pub loop-c-init : goal.loop-c-init
loop-c-init c =
    constraints_first c.args.layout.now c.args.p.now c.args.ops.now c.args.start.now c.args.pins.now c.new-scopes.result.items c.new-diagrams.result.items c.pool.ensures.pinned_live c.pool.ensures.reduced c.new-scopes.ensures.items c.new-diagrams.ensures.items c.requires.domains c.requires.held c.requires.pinned

pub held_diagram-requires-clause-listed : goal.held_diagram-requires-clause-listed
held_diagram-requires-clause-listed c = listed c.items-c-items.result.now c.args.p.now.constraints c.loop-c.c-index c.c-item.result c.items-c-items.ensures c.loop-c-test.true c.c-item.is

pub held_diagram-requires-clause-fits : goal.held_diagram-requires-clause-fits
held_diagram-requires-clause-fits c =
    All-contains (FitsRow c.args.p.now.kinds) c.args.p.now.constraints c.c-item.result c.requires.limits.legal.constraints
    (listed c.items-c-items.result.now c.args.p.now.constraints c.loop-c.c-index c.c-item.result c.items-c-items.ensures c.loop-c-test.true c.c-item.is)

pub held_diagram-requires-clause-limits : goal.held_diagram-requires-clause-limits
held_diagram-requires-clause-limits c =
    All-contains (IsWithinLimits c.args.p.now.kinds) c.args.p.now.constraints c.c-item.result c.requires.limits.constraints
    (listed c.items-c-items.result.now c.args.p.now.constraints c.loop-c.c-index c.c-item.result c.items-c-items.ensures c.loop-c-test.true c.c-item.is)

pub held_diagram-requires-clause-few : goal.held_diagram-requires-clause-few
held_diagram-requires-clause-few c bits are =
    few_bits c.args.layout.now c.args.p.now.kinds c.c-item.result c.in_ok-variables.variables.items bits c.obeys_order.ensures c.requires.layout
    (All-contains (IsWithinLimits c.args.p.now.kinds) c.args.p.now.constraints c.c-item.result c.requires.limits.constraints
    (listed c.items-c-items.result.now c.args.p.now.constraints c.loop-c.c-index c.c-item.result c.items-c-items.ensures c.loop-c-test.true c.c-item.is)) c.in_ok-variables.ensures are

pub returns-in_err-variables-clause-held : goal.returns-in_err-variables-clause-held
returns-in_err-variables-clause-held c =
    let within = inside c.items-c-items.result.now c.args.p.now.constraints c.loop-c.c-index c.items-c-items.ensures c.loop-c-test.true in
    constraints_held c.args.layout.now c.args.p.now c.args.ops.now c.loop-c.ops c.args.start.now c.loop-c.pins c.loop-c.scopes.items c.loop-c.diagrams.items c.loop-c.c-index (omega (arith, within)) c.loop-c.invariant

pub returns-in_err-r-clause-held : goal.returns-in_err-r-clause-held
returns-in_err-r-clause-held c =
    let within = inside c.items-c-items.result.now c.args.p.now.constraints c.loop-c.c-index c.items-c-items.ensures c.loop-c-test.true in
    constraints_refused c.args.layout.now c.args.p.now c.args.ops.now c.loop-c.ops c.held_diagram.new.ops c.args.start.now c.loop-c.pins c.held_diagram.new.pins c.loop-c.scopes.items c.loop-c.diagrams.items c.loop-c.c-index (omega (arith, within))
    c.loop-c.invariant c.in_err-r.ensures.refused

pub returns-in_err-append-clause-held : goal.returns-in_err-append-clause-held
returns-in_err-append-clause-held c =
    constraints_more c.args.layout.now c.args.p.now c.args.ops.now c.loop-c.ops c.held_diagram.new.ops c.args.start.now c.loop-c.pins c.held_diagram.new.pins c.loop-c.scopes.items c.loop-c.diagrams.items c.loop-c.c-index c.c-item.result c.in_ok-r.r
    (inside c.items-c-items.result.now c.args.p.now.constraints c.loop-c.c-index c.items-c-items.ensures c.loop-c-test.true)
    (at_all c.items-c-items.result.now c.args.p.now.constraints c.loop-c.c-index c.c-item.result c.items-c-items.ensures c.c-item.is) c.loop-c.invariant c.in_ok-r.ensures.diagram c.in_ok-r.ensures.held

pub returns-in_err-append-2-clause-held : goal.returns-in_err-append-2-clause-held
returns-in_err-append-2-clause-held c =
    constraints_more c.args.layout.now c.args.p.now c.args.ops.now c.loop-c.ops c.held_diagram.new.ops c.args.start.now c.loop-c.pins c.held_diagram.new.pins c.loop-c.scopes.items c.loop-c.diagrams.items c.loop-c.c-index c.c-item.result c.in_ok-r.r
    (inside c.items-c-items.result.now c.args.p.now.constraints c.loop-c.c-index c.items-c-items.ensures c.loop-c-test.true)
    (at_all c.items-c-items.result.now c.args.p.now.constraints c.loop-c.c-index c.c-item.result c.items-c-items.ensures c.c-item.is) c.loop-c.invariant c.in_ok-r.ensures.diagram c.in_ok-r.ensures.held

pub loop-c-preserved : goal.loop-c-preserved
loop-c-preserved c =
    constraints_next c.args.layout.now c.args.p.now c.args.ops.now c.loop-c.ops c.held_diagram.new.ops c.args.start.now c.loop-c.pins c.held_diagram.new.pins c.loop-c.scopes.items c.append.new.list.items c.loop-c.diagrams.items c.append-in-loop-c.new.list.items
    c.loop-c.c-index c.c-item.result c.in_ok-variables.variables.items c.in_ok-r.r (inside c.items-c-items.result.now c.args.p.now.constraints c.loop-c.c-index c.items-c-items.ensures c.loop-c-test.true)
    (at_all c.items-c-items.result.now c.args.p.now.constraints c.loop-c.c-index c.c-item.result c.items-c-items.ensures c.c-item.is) c.loop-c.invariant c.in_ok-variables.ensures c.in_ok-r.ensures.diagram c.in_ok-r.ensures.held
    (c.in_ok-append.ensures ∙ ap (λ (vs : List VarId). c.loop-c.scopes.items ++ vs ∷ []) c.of.ensures) c.in_ok-append-2.ensures

ended : (items all : List Constraint) (i : ℕ) → items ≡ all → length items ≤ i → take i all ≡ all
ended items all i same long = take_all i all (subst (λ (cs : List Constraint). length cs ≤ i) same long)

pub returns-clause-scopes : goal.returns-clause-scopes
returns-clause-scopes c =
    subst (λ (cs : List Constraint). AllZip IsScope cs c.loop-c.scopes.items) (ended c.items-c-items.result.now c.args.p.now.constraints c.loop-c.c-index c.items-c-items.ensures c.loop-c-test.false) c.loop-c.invariant.scoped

pub returns-clause-diagrams : goal.returns-clause-diagrams
returns-clause-diagrams c =
    subst (λ (cs : List Constraint). AllZip (IsDiagramOfConstraint c.args.layout.now (table c.loop-c.ops.arena)) cs c.loop-c.diagrams.items)
    (ended c.items-c-items.result.now c.args.p.now.constraints c.loop-c.c-index c.items-c-items.ensures c.loop-c-test.false) c.loop-c.invariant.done

pub returns-clause-pinned : goal.returns-clause-pinned
returns-clause-pinned c = c.loop-c.invariant.all

pub returns-clause-held : goal.returns-clause-held
returns-clause-held c =
    let same = ap (λ (cs : List Constraint). length cs) c.items-c-items.ensures in
    constraints_held c.args.layout.now c.args.p.now c.args.ops.now c.loop-c.ops c.args.start.now c.loop-c.pins c.loop-c.scopes.items c.loop-c.diagrams.items c.loop-c.c-index (omega (arith, same)) c.loop-c.invariant
