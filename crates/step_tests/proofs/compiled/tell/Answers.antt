use Rattle.std.proofs.Common.{rules, ◌<◌, length, Some, sym, ap, ◌∙◌, subst}
use Rattle.std.proofs.lemmas.Option.{slice_get-get_or}
use Rattle.diagram_arena.specs.Arena.{table}
use Rattle.diagram_ops.proofs.Steps.{stays_self}
use Rattle.exact_steps.specs.Domains.{variable, AreDomains}
use Rattle.propagators.proofs.Moving.{initial_domains, compiled_grows}
use Rattle.step_tests.proofs.compiled.tell.Goals as goal

pub loop-number-init : goal.loop-number-init
loop-number-init c =
    let l = c.args.layout.now in
    let t = table c.args.ops.now.arena in
    record {
      stays = stays_self c.args.ops.now c.pool.ensures.reduced;
      domains_are = subst (AreDomains l t) (sym (c.in_ok-domains.ensures.items ∙ c.start.ensures)) (initial_domains l t c.args.compiled.now.start c.requires.compiled.start);
    }

pub narrow-requires-clause-compiled : goal.narrow-requires-clause-compiled
narrow-requires-clause-compiled c =
    compiled_grows c.args.layout.now c.args.p.now (table c.args.ops.now.arena) (table c.loop-number.ops.arena) c.args.compiled.now c.loop-number.invariant.stays.grows c.requires.compiled

pub root_bounds-requires-clause-domain : goal.root_bounds-requires-clause-domain
root_bounds-requires-clause-domain c =
    let domains = c.loop-number.domains.items in
    let r = c.index.result.now in
    let within : c.args.v < length domains = search rules in
    c.loop-number.invariant.domains_are.each (variable c.args.v) r (slice_get-get_or domains c.args.v r within ∙ ap Some (sym c.index.ensures))
