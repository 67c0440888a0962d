use Rattle.desk.specs.Causes.{Faults}
use Rattle.desk.specs.declared.faults.FaultCounts.{FaultCounts}

abbrev pub faults_of : FaultCounts → Faults
faults_of c = record { reads = c.reads; writes = c.writes }
