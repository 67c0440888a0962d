use Rattle.std.proofs.Math.Path.{fun_ext}
use Rattle.fzn_model.specs.State.{naming_of}
use Rattle.fzn_model.proofs.TheObjective.{objective_first}
use Rattle.fzn_model.proofs.objectives.fault_in_objective.Goals as goal

pub returns-in-Some : goal.returns-in-Some
returns-in-Some c =
    let s = c.args.so_far.now in
    objective_first c.args.before.now c.args.item.now (naming_of s.declared) (fun_ext c.requires.naming) s.kinds.items c.requires.known s.counts.bits s.counts.integer_values
    c.requires.bits c.requires.values c.in-Some.objective.now c.in-Some.ensures c.place_of-at.result c.place_of-at.ensures
    c.is_no_integer.result c.is_no_integer.ensures c.fault_if.result c.fault_if.ensures
    c.is_one_too_many.result c.is_one_too_many.ensures c.fault_if-in-Some.result c.fault_if-in-Some.ensures c.earlier.result c.earlier.ensures
