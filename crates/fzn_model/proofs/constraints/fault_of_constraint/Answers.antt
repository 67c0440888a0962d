use Rattle.std.proofs.Common.{length}
use Rattle.std.specs.Prelude.{IsTrue}
use Rattle.fzn_model.specs.ConstraintFaults.{OfCounts, OfGood, OfNaming, before_of}
use Rattle.fzn_model.specs.ProblemOf.{constraint_named}
use Rattle.fzn_model.specs.State.{naming_of}
use Rattle.fzn_model.proofs.ConstraintRules.{well_named}
use Rattle.fzn_model.proofs.constraints.fault_of_constraint.Goals as goal

pub returns-in_ok-own-in-None : goal.returns-in_ok-own-in-None
returns-in_ok-own-in-None c =
    let state = c.args.so_far.now in
    rw c.earlier.ensures
    (well_named (OfNaming c.args.at c.args.name.now (length c.args.args.now))
    (OfGood (IsTrue c.args.is_good) c.args.at state.kinds.items (constraint_named (naming_of state.declared) c.args.name.now c.args.args.now))
    (OfCounts (IsTrue c.args.is_good) c.args.at (before_of state) 0 c.args.args.now)
    c.in_ok-own-in-None.own c.fault_of_counts-counted.result c.in-None.ensures c.in_ok-own-in-None.ensures c.fault_of_counts-counted.ensures)
