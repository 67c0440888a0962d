use Rattle.std.proofs.Common.{◌≡◌, ◌≤◌, ◌<◌, ◌^◌, List, length, ap, sym, ◌∙◌, subst, arith, take}
use Rattle.std.specs.List.{All}
use Rattle.std.proofs.lemmas.List.{take_all}
use Rattle.set_meaning.specs.declared.problems.VarId.{VarId}
use Rattle.set_meaning.specs.declared.kinds.Kind.{Kind}
use Rattle.set_meaning.specs.declared.problems.Constraint.{Constraint}
use Rattle.diagram_arena.specs.Arena.{table}
use Rattle.propagation.proofs.Settling.{scopes_long, scopes_count}
use Rattle.propagation_tests.proofs.Queues.{scope_more, scopes_known, scopes_all}
use Rattle.propagation_tests.proofs.propagating.queue_of.Goals as goal

pub scope_of-requires : goal.scope_of-requires
scope_of-requires c =
    scopes_long c.args.layout.now c.args.p.now (table c.args.ops.now.arena) c.args.compiled.now c.loop-c.c c.requires.compiled
    (subst (λ (cs : List Constraint). c.loop-c.c < length cs) c.items.ensures c.loop-c-test.true)

pub loop-c-preserved : goal.loop-c-preserved
loop-c-preserved c = c.in_ok-push.ensures.items ∙ scope_more c.args.compiled.now.scopes c.loop-c.c c.in_ok-scope_of.field-0 c.loop-c.scopes.items c.in_ok-scope_of.ensures c.loop-c.invariant

pub new-requires : goal.new-requires
new-requires c =
    let count = scopes_count c.args.layout.now c.args.p.now (table c.args.ops.now.arena) c.args.compiled.now c.requires.compiled in
    let past : length c.args.p.now.constraints ≤ c.loop-c.c = subst (λ (cs : List Constraint). length cs ≤ c.loop-c.c) c.items.ensures c.loop-c-test.false in
    let all = scopes_all c.args.p.now c.args.compiled.now c.loop-c.c c.loop-c.scopes.items count past c.loop-c.invariant in
    record {
      few =
          let few = c.requires.limits.few in
          let long : length c.loop-c.scopes.items ≡ length c.args.p.now.constraints = ap length all ∙ count in
          omega (arith, few, long);
      known =
          subst (λ (n : List Kind). All (All (λ (v : VarId). v.0 < length n)) c.loop-c.scopes.items) (sym c.items-2.ensures)
          (subst (All (All (λ (v : VarId). v.0 < length c.args.p.now.kinds))) (sym all) (scopes_known c.args.layout.now c.args.p.now (table c.args.ops.now.arena) c.args.compiled.now c.requires.compiled count));
    }

pub returns-clause-queue : goal.returns-clause-queue
returns-clause-queue c =
    let count = scopes_count c.args.layout.now c.args.p.now (table c.args.ops.now.arena) c.args.compiled.now c.requires.compiled in
    let past : length c.args.p.now.constraints ≤ c.loop-c.c = subst (λ (cs : List Constraint). length cs ≤ c.loop-c.c) c.items.ensures c.loop-c-test.false in
    let all = scopes_all c.args.p.now c.args.compiled.now c.loop-c.c c.loop-c.scopes.items count past c.loop-c.invariant in
    record {
      scopes = c.flag_all.ensures.scopes ∙ c.in_ok-queue.ensures.scopes ∙ all;
      long = c.flag_all.ensures.long ∙ c.in_ok-queue.ensures.flags ∙ ap length all;
    }

pub returns-clause-all : goal.returns-clause-all
returns-clause-all c n within =
    let count = scopes_count c.args.layout.now c.args.p.now (table c.args.ops.now.arena) c.args.compiled.now c.requires.compiled in
    let past : length c.args.p.now.constraints ≤ c.loop-c.c = subst (λ (cs : List Constraint). length cs ≤ c.loop-c.c) c.items.ensures c.loop-c-test.false in
    let all = scopes_all c.args.p.now c.args.compiled.now c.loop-c.c c.loop-c.scopes.items count past c.loop-c.invariant in
    c.flag_all.ensures.flags n (subst (λ m. n < m) (sym (ap length (c.in_ok-queue.ensures.scopes ∙ all) ∙ count)) within)
