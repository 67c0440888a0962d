use Rattle.std.proofs.Common.{List, sym, subst, Contains}
use Rattle.set_meaning.specs.declared.problems.VarId.{VarId}
use Rattle.set_meaning.specs.Relations.{Holds}
use Rattle.diagram_arena.specs.declared.nodes.Ref.{Ref}
use Rattle.diagram_arena.specs.Arena.{table}
use Rattle.exact_steps.specs.declared.steps.StepResult.{StepResult}
use Rattle.exact_steps.specs.Domains.{IsDomain, family}
use Rattle.exact_steps.specs.Steps.{IsStepOf}
use Rattle.step_tests.proofs.CompiledSamples.{scope_there, kept_domains}
use Rattle.step_tests.proofs.cases.narrow.Goals as goal

pub step-requires-clause-constraint : goal.step-requires-clause-constraint
step-requires-clause-constraint c = scope_there c.args.layout.now c.args.p.now (table c.args.ops.now.arena) c.args.compiled.now c.args.c.0 c.requires.compiled c.requires.number

pub put_all-requires-clause-kept : goal.put_all-requires-clause-kept
put_all-requires-clause-kept c =
    let l = c.args.layout.now in
    let t = table c.args.ops.now.arena in
    let u = table c.step.new.ops.arena in
    let f = family l t c.as_slice.result.now in
    subst (λ (kept : List (VarId × Ref)). (v : VarId) (r : Ref) → Contains {X = VarId × Ref} kept (v, r) → IsDomain l u v r) (sym c.as_slice-in-Narrowed.ensures.value)
    (kept_domains l c.args.p.now t u c.args.compiled.now c.args.c f c.in-Narrowed.kept c.requires.compiled c.requires.number
    (λ con scope at. subst (IsStepOf l scope (Holds con) f u) c.in-Narrowed.is (c.in_ok-step.ensures.answer con scope at)))
