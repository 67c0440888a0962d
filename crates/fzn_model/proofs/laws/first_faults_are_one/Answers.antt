-- The laws of the first fault.
use Rattle.fzn_model.proofs.FirstFaults as faults
use Rattle.fzn_model.proofs.laws.first_faults_are_one.Goals as goal

pub returns-clause-one : goal.returns-clause-one
returns-clause-one c = faults.one

pub returns-clause-apart : goal.returns-clause-apart
returns-clause-apart c = faults.apart
