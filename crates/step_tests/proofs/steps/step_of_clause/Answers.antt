use Rattle.std.proofs.Common.{sym, subst}
use Rattle.std.specs.Ordering.{nat_cmp}
use Rattle.std.specs.List.Sorted.{IsStrictlySortedBy}
use Rattle.diagram_arena.specs.Arena.{table}
use Rattle.diagram_ops.proofs.Steps.{stays_then}
use Rattle.exact_steps.specs.Domains.{variable, AreDomains}
use Rattle.exact_steps.proofs.Wanted.{domain_grows}
use Rattle.step_tests.proofs.StepSamples.{two_domains, two_ascend}
use Rattle.step_tests.proofs.steps.step_of_clause.Goals as goal

pub returns-in_err-second : goal.returns-in_err-second
returns-in_err-second c = stays_then _ _ _ c.domain.ensures.stays c.domain-2.ensures.stays

pub returns-in_err-constraint : goal.returns-in_err-constraint
returns-in_err-constraint c = stays_then _ _ _ (stays_then _ _ _ c.domain.ensures.stays c.domain-2.ensures.stays) c.clause.ensures.stays

pub step-requires-clause-ascending : goal.step-requires-clause-ascending
step-requires-clause-ascending c = subst (IsStrictlySortedBy (λ v w. nat_cmp v.0 w.0)) (sym c.as_slice.ensures) two_ascend

pub step-requires-clause-domains : goal.step-requires-clause-domains
step-requires-clause-domains c =
    let l = c.args.layout.now in
    let t = table c.clause.new.ops.arena in
    subst (AreDomains l t) (sym c.as_slice-2.ensures)
    (two_domains l t c.in_ok-first.first c.in_ok-second.second c.requires.two
    (domain_grows l _ t (variable 0) c.in_ok-first.first c.clause.ensures.stays.grows (domain_grows l _ _ (variable 0) c.in_ok-first.first c.domain-2.ensures.stays.grows c.in_ok-first.ensures.domain))
    (domain_grows l _ t (variable 1) c.in_ok-second.second c.clause.ensures.stays.grows c.in_ok-second.ensures.domain))

pub returns : goal.returns
returns c = stays_then _ _ _ (stays_then _ _ _ (stays_then _ _ _ c.domain.ensures.stays c.domain-2.ensures.stays) c.clause.ensures.stays) c.step.ensures.stays
