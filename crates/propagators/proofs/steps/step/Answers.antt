use Rattle.std.proofs.Common.{◌≡◌, subst}
use Rattle.std.specs.Prelude.{slice_get, IfOk}
use Rattle.std.proofs.lemmas.Result.{IfOk-weaker}
use Rattle.diagram_arena.specs.Arena.{table}
use Rattle.scope_words.specs.Words.{NewReachOnlyScope}
use Rattle.exact_steps.specs.Domains.{family}
use Rattle.exact_steps.specs.Steps.{IsInDiagram, IsStepOf}
use Rattle.exact_steps.specs.Parts.{NewAreWanted}
use Rattle.exact_steps.proofs.Values.{same_some}
use Rattle.propagators.proofs.Scopes.{entry, entry_at, diagram_there}
use Rattle.propagators.proofs.steps.step.Goals as goal

pub diagram-requires : goal.diagram-requires
diagram-requires c = diagram_there c.args.layout.now c.requires.compiled.0 (table c.args.ops.now.arena) c.args.compiled.now c.args.c.0 c.requires.compiled.1 c.requires.constraint

pub step-requires-clause-known : goal.step-requires-clause-known
step-requires-clause-known c =
    (entry c.args.layout.now c.requires.compiled.0 (table c.args.ops.now.arena) c.args.compiled.now c.args.c.0 c.scope.result.now c.diagram.result c.requires.compiled.1 c.scope.ensures c.diagram.ensures).2.known

pub step-requires-clause-ascending : goal.step-requires-clause-ascending
step-requires-clause-ascending c =
    (entry c.args.layout.now c.requires.compiled.0 (table c.args.ops.now.arena) c.args.compiled.now c.args.c.0 c.scope.result.now c.diagram.result c.requires.compiled.1 c.scope.ensures c.diagram.ensures).2.is_scope.ascending

pub step-requires-clause-constraint : goal.step-requires-clause-constraint
step-requires-clause-constraint c =
    let e = entry c.args.layout.now c.requires.compiled.0 (table c.args.ops.now.arena) c.args.compiled.now c.args.c.0 c.scope.result.now c.diagram.result c.requires.compiled.1 c.scope.ensures c.diagram.ensures in
    c.diagrams_state_their_conditions.ensures e.0 c.args.layout.now c.scope.result.now (table c.args.ops.now.arena) c.diagram.result c.obeys_order.ensures e.2.known e.2.diagram

pub returns-clause-answer : goal.returns-clause-answer
returns-clause-answer c con scope at =
    let same : c.scope.result.now ≡ scope = same_some (slice_get c.args.compiled.now.scopes c.args.c.0) c.scope.result.now scope c.scope.ensures at.scope_at in
    let e = entry_at c.args.layout.now (table c.args.ops.now.arena) c.args.compiled.now c.args.c con scope c.diagram.result at c.diagram.ensures in
    let f = family c.args.layout.now (table c.args.ops.now.arena) c.args.domains.now in
    IfOk-weaker c.step.result (IsStepOf c.args.layout.now scope (IsInDiagram c.args.layout.now (table c.args.ops.now.arena) c.diagram.result) f (table c.step.new.ops.arena)) _
    (λ o h. c.steps_of_a_condition.ensures.step con c.args.layout.now scope (table c.args.ops.now.arena) (table c.step.new.ops.arena) c.diagram.result f o c.obeys_order.ensures e.known e.diagram h)
    (subst (λ s. IfOk c.step.result (IsStepOf c.args.layout.now s (IsInDiagram c.args.layout.now (table c.args.ops.now.arena) c.diagram.result) f (table c.step.new.ops.arena))) same c.step.ensures.answer)

pub returns-clause-parts : goal.returns-clause-parts
returns-clause-parts c con scope at =
    let same : c.scope.result.now ≡ scope = same_some (slice_get c.args.compiled.now.scopes c.args.c.0) c.scope.result.now scope c.scope.ensures at.scope_at in
    let e = entry_at c.args.layout.now (table c.args.ops.now.arena) c.args.compiled.now c.args.c con scope c.diagram.result at c.diagram.ensures in
    let f = family c.args.layout.now (table c.args.ops.now.arena) c.args.domains.now in
    c.steps_of_a_condition.ensures.parts con c.args.layout.now scope (table c.args.ops.now.arena) (table c.step.new.ops.arena) c.diagram.result f c.obeys_order.ensures e.known e.diagram
    (subst (λ s. NewAreWanted c.args.layout.now s (IsInDiagram c.args.layout.now (table c.args.ops.now.arena) c.diagram.result) f (table c.args.ops.now.arena) (table c.step.new.ops.arena)) same c.step.ensures.parts)

pub returns-clause-reach : goal.returns-clause-reach
returns-clause-reach c con scope at =
    let same : c.scope.result.now ≡ scope = same_some (slice_get c.args.compiled.now.scopes c.args.c.0) c.scope.result.now scope c.scope.ensures at.scope_at in
    subst (λ s. NewReachOnlyScope c.args.layout.now s (table c.args.ops.now.arena) (table c.step.new.ops.arena)) same c.step.ensures.reach
