use Rattle.log_checker.proofs.Passing.{domain_values}
use Rattle.log_checker.proofs.inside.some_value.Goals as goal

pub sweep-requires-clause-values : goal.sweep-requires-clause-values
sweep-requires-clause-values g c =
    domain_values c.domains_accept_values.ensures c.args.kind.now _ _ _ c.in_ok-domain.ensures.offsets c.in_ok-domain.ensures.width c.in_ok-domain.ensures.free
    c.requires.kind.legal c.requires.kind.narrow
