use Rattle.std.proofs.Common.{◌<◌, length, refl, sym, ap, ◌∙◌, subst, List}
use Rattle.std.specs.List.{All}
use Rattle.set_meaning.specs.declared.problems.VarId.{VarId}
use Rattle.diagram_arena.specs.declared.nodes.Ref.{Ref}
use Rattle.diagram_arena.specs.Table.{IsLive}
use Rattle.diagram_arena.specs.Arena.{table}
use Rattle.node_reclaim.specs.Pool.{PoolState}
use Rattle.propagators.specs.Compiled.{pinned_by}
use Rattle.learn_search.specs.declared.narrowing.Taken.TheVariants as taken
use Rattle.learn_search.specs.Way.{IsTaken, put_each}
use Rattle.learn_search.proofs.Taking.{scopes_long, taken_quiet, taken_violated, taken_narrowed, kept_within, kept_live}
use Rattle.learn_search.proofs.Attempting.{held_of_step, step_leaves, step_keeps, put_leaves}
use Rattle.learn_search.proofs.narrowing.attempt.Goals as goal

pub step-requires-clause-constraint : goal.step-requires-clause-constraint
step-requires-clause-constraint c = scopes_long c.args.layout.now c.args.p.now (table c.args.ops.now.arena) c.args.compiled.now c.args.c.0 c.requires.compiled c.requires.known

pub returns-in_err-step-clause-left : goal.returns-in_err-step-clause-left
returns-in_err-step-clause-left c = step_keeps c.args.p.now c.args.layout.now c.args.ops.now c.step.new.ops c.args.compiled.now c.args.c c.args.domains.now c.refs.result.now c.obeys_order.ensures c.requires.known c.requires.compiled c.requires.way c.refs.ensures c.pool.ensures.pinned_live c.step.ensures.stays c.step.ensures.parts

pub returns-in_err-step-clause-refused : goal.returns-in_err-step-clause-refused
returns-in_err-step-clause-refused c e = (refl, step_leaves c.args.p.now c.args.layout.now c.args.ops.now c.step.new.ops c.args.compiled.now c.args.c c.args.domains.now c.refs.result.now c.obeys_order.ensures c.requires.known c.requires.compiled c.requires.way c.refs.ensures c.pool.ensures.pinned_live c.step.ensures.stays c.step.ensures.parts)

pub returns-in-Same-clause-taken : goal.returns-in-Same-clause-taken
returns-in-Same-clause-taken c = taken_quiet c.args.p.now c.args.layout.now (table c.args.ops.now.arena) (table c.step.new.ops.arena) c.args.compiled.now c.args.c c.args.domains.now c.obeys_order.ensures c.requires.known c.requires.compiled c.requires.way c.step.ensures.stays.grows c.in_ok-step.field-0 c.refs.result.now c.refs.ensures c.in_ok-step.ensures.answer c.in-Same.is

pub returns-in-Same-clause-left : goal.returns-in-Same-clause-left
returns-in-Same-clause-left c = step_keeps c.args.p.now c.args.layout.now c.args.ops.now c.step.new.ops c.args.compiled.now c.args.c c.args.domains.now c.refs.result.now c.obeys_order.ensures c.requires.known c.requires.compiled c.requires.way c.refs.ensures c.pool.ensures.pinned_live c.step.ensures.stays c.step.ensures.parts

pub put-requires-clause-known : goal.put-requires-clause-known
put-requires-clause-known c =
    subst (λ (kept : List (VarId × Ref)). All (λ x. x.0.0 < length c.args.domains.now) kept) (sym c.as_slice.ensures.value) (kept_within c.args.p.now c.args.layout.now (table c.args.ops.now.arena) (table c.step.new.ops.arena) c.args.compiled.now c.args.c c.args.domains.now c.obeys_order.ensures c.requires.known c.requires.compiled c.requires.way c.step.ensures.stays.grows c.in_ok-step.field-0 c.refs.result.now c.refs.ensures c.in_ok-step.ensures.answer c.in-Narrowed.kept c.in-Narrowed.is)

pub put-requires-clause-live : goal.put-requires-clause-live
put-requires-clause-live c =
    subst (λ (kept : List (VarId × Ref)). All (λ x. IsLive (table c.step.new.ops.arena) x.1) kept) (sym c.as_slice.ensures.value) (kept_live c.args.p.now c.args.layout.now (table c.args.ops.now.arena) (table c.step.new.ops.arena) c.args.compiled.now c.args.c c.args.domains.now c.obeys_order.ensures c.requires.known c.requires.compiled c.requires.way c.step.ensures.stays.grows c.in_ok-step.field-0 c.refs.result.now c.refs.ensures c.in_ok-step.ensures.answer c.in-Narrowed.kept c.in-Narrowed.is)

pub put-requires-clause-held : goal.put-requires-clause-held
put-requires-clause-held c = held_of_step c.args.ops.now c.step.new.ops (pinned_by c.args.compiled.now) c.args.domains.now c.step.ensures.stays c.requires.held

pub returns-in_err-put-in-Narrowed-clause-left : goal.returns-in_err-put-in-Narrowed-clause-left
returns-in_err-put-in-Narrowed-clause-left c = put_leaves c.args.p.now c.args.layout.now c.args.ops.now c.step.new.ops c.args.compiled.now c.args.c c.args.domains.now c.refs.result.now c.obeys_order.ensures c.requires.known c.requires.compiled c.requires.way c.refs.ensures c.pool.ensures.pinned_live c.step.ensures.stays c.step.ensures.parts c.put.new.ops c.put.new.domains (ap (λ (s : PoolState). s.arena) c.put.ensures.only) c.put.ensures.moved

pub returns-in_ok-put-in-Narrowed-clause-left : goal.returns-in_ok-put-in-Narrowed-clause-left
returns-in_ok-put-in-Narrowed-clause-left c = put_leaves c.args.p.now c.args.layout.now c.args.ops.now c.step.new.ops c.args.compiled.now c.args.c c.args.domains.now c.refs.result.now c.obeys_order.ensures c.requires.known c.requires.compiled c.requires.way c.refs.ensures c.pool.ensures.pinned_live c.step.ensures.stays c.step.ensures.parts c.put.new.ops c.put.new.domains (ap (λ (s : PoolState). s.arena) c.put.ensures.only) c.put.ensures.moved

pub returns-in_ok-put-in-Narrowed-clause-taken : goal.returns-in_ok-put-in-Narrowed-clause-taken
returns-in_ok-put-in-Narrowed-clause-taken c =
    subst (λ (s : PoolState). IsTaken c.args.p.now c.args.layout.now (table c.args.ops.now.arena) (table s.arena) c.args.c.0 c.args.domains.now c.put.new.domains (taken.Narrowed c.in-Narrowed.kept)) (sym c.put.ensures.only)
    (taken_narrowed c.args.p.now c.args.layout.now (table c.args.ops.now.arena) (table c.step.new.ops.arena) c.args.compiled.now c.args.c c.args.domains.now c.obeys_order.ensures c.requires.known c.requires.compiled c.requires.way c.step.ensures.stays.grows c.in_ok-step.field-0 c.refs.result.now c.refs.ensures c.in_ok-step.ensures.answer c.in-Narrowed.kept c.put.new.domains c.in-Narrowed.is (c.in_ok-put-in-Narrowed.ensures.put ∙ ap (λ kept. put_each kept c.args.domains.now) c.as_slice.ensures.value))

pub returns-in-Empty-clause-taken : goal.returns-in-Empty-clause-taken
returns-in-Empty-clause-taken c = taken_violated c.args.p.now c.args.layout.now (table c.args.ops.now.arena) (table c.step.new.ops.arena) c.args.compiled.now c.args.c c.args.domains.now c.obeys_order.ensures c.requires.known c.requires.compiled c.requires.way c.step.ensures.stays.grows c.in_ok-step.field-0 c.refs.result.now c.refs.ensures c.in_ok-step.ensures.answer c.args.domains.now c.in-Empty.is

pub returns-in-Empty-clause-left : goal.returns-in-Empty-clause-left
returns-in-Empty-clause-left c = step_keeps c.args.p.now c.args.layout.now c.args.ops.now c.step.new.ops c.args.compiled.now c.args.c c.args.domains.now c.refs.result.now c.obeys_order.ensures c.requires.known c.requires.compiled c.requires.way c.refs.ensures c.pool.ensures.pinned_live c.step.ensures.stays c.step.ensures.parts
