use Rattle.fzn_model.proofs.expressions.fault_in_goal.Goals as goal

pub returns-in-Minimize : goal.returns-in-Minimize
returns-in-Minimize c = rw c.in-Minimize.is c.fault_in_value.ensures

pub returns-in-Maximize : goal.returns-in-Maximize
returns-in-Maximize c = rw c.in-Maximize.is c.fault_in_value-in-Maximize.ensures
