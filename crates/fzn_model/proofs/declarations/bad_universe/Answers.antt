use Rattle.std.proofs.Common.{refl}
use Rattle.fzn_model.proofs.Declaring.{universe_first}
use Rattle.fzn_model.proofs.declarations.bad_universe.Goals as goal

pub returns-in-Some : goal.returns-in-Some
returns-in-Some c =
    universe_first c.args.item.now c.in-Some.universe c.in_ok-universe.field-0 c.in_ok-universe.ensures c.in-Some.is c.fault_if.result c.fault_if-in-Some.result c.earlier.result
    c.is_wide.result c.in-Some.universe.extent.has_large c.fault_if.ensures c.is_wide.ensures c.fault_if-in-Some.ensures refl c.earlier.ensures
