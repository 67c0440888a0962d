use Rattle.fzn_model.proofs.Declaring.{domain_first}
use Rattle.fzn_model.proofs.declarations.bad_domain.Goals as goal

pub returns-in-Some : goal.returns-in-Some
returns-in-Some c =
    domain_first c.args.item.now c.in-Some.domain c.in_ok-domain.field-0 c.in_ok-domain.ensures c.in-Some.is c.fault_if.result c.fault_if-in-Some.result c.earlier.result
    c.is_empty.result c.spans_too_much.result c.fault_if.ensures c.is_empty.ensures c.fault_if-in-Some.ensures c.spans_too_much.ensures c.earlier.ensures
