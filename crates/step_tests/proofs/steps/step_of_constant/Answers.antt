use Rattle.std.proofs.Common.{sym, subst}
use Rattle.diagram_arena.specs.Arena.{table}
use Rattle.exact_steps.specs.Domains.{variable, AreDomains}
use Rattle.exact_steps.proofs.Wanted.{domain_grows}
use Rattle.step_tests.proofs.StepSamples.{two_domains, constant_diagram, none_ascend}
use Rattle.step_tests.proofs.steps.step_of_constant.Goals as goal

pub step-requires-clause-ascending : goal.step-requires-clause-ascending
step-requires-clause-ascending c = none_ascend c.as_slice.result.now c.as_slice.ensures

pub step-requires-clause-constraint : goal.step-requires-clause-constraint
step-requires-clause-constraint c =
    constant_diagram c.args.layout.now (table c.domain-2.new.ops.arena) c.args.holds c.constant.result c.as_slice.result.now c.obeys_order.ensures c.requires.sets c.as_slice.ensures c.constant.ensures

pub step-requires-clause-domains : goal.step-requires-clause-domains
step-requires-clause-domains c =
    let l = c.args.layout.now in
    let t = table c.domain-2.new.ops.arena in
    subst (AreDomains l t) (sym c.as_slice-2.ensures)
    (two_domains l t c.in_ok-first.first c.in_ok-second.second c.requires.two
    (domain_grows l _ t (variable 0) c.in_ok-first.first c.domain-2.ensures.stays.grows c.in_ok-first.ensures.domain) c.in_ok-second.ensures.domain)
