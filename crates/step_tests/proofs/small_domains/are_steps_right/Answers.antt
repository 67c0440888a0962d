use Rattle.std.proofs.Common.{sym, ◌∙◌, subst}
use Rattle.diagram_arena.specs.Arena.{table}
use Rattle.diagram_ops.proofs.Steps.{stays_self, stays_then}
use Rattle.exact_steps.specs.Domains.{AreDomains}
use Rattle.propagators.proofs.Moving.{initial_domains, compiled_grows}
use Rattle.step_tests.proofs.small_domains.are_steps_right.Goals as goal

pub loop-number-init : goal.loop-number-init
loop-number-init c =
    let l = c.args.layout.now in
    let t = table c.args.ops.now.arena in
    record {
      stays = stays_self c.args.ops.now c.pool.ensures.reduced;
      domains_are = subst (AreDomains l t) (sym (c.in_ok-domains.ensures.items ∙ c.start.ensures)) (initial_domains l t c.args.compiled.now.start c.requires.compiled.start);
    }

pub is_step_right-requires-clause-compiled : goal.is_step_right-requires-clause-compiled
is_step_right-requires-clause-compiled c =
    compiled_grows c.args.layout.now c.args.p.now (table c.args.ops.now.arena) (table c.loop-number.ops.arena) c.args.compiled.now c.loop-number.invariant.stays.grows c.requires.compiled

pub is_step_right-requires-in-loop-number-clause-compiled : goal.is_step_right-requires-in-loop-number-clause-compiled
is_step_right-requires-in-loop-number-clause-compiled c =
    compiled_grows c.args.layout.now c.args.p.now (table c.args.ops.now.arena) (table c.is_step_right.new.ops.arena) c.args.compiled.now
    (stays_then _ _ _ c.loop-number.invariant.stays c.is_step_right.ensures.stays).grows c.requires.compiled
