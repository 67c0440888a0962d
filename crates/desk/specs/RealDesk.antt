-- What a real desk tells: no bytes, but how many.
use Rattle.std.specs.Prelude.{ℕ, true, false, List, [], Option, None, Some}
use Rattle.std.proofs.Common.{refl, arith}
use Rattle.desk.specs.State.{State, Reading, Logging, IsLegal, IsLegalReading, IsLegalLogging}
use Rattle.desk.specs.declared.outside.Asked.{Asked}
use Rattle.desk.specs.declared.counted.Counted.{Counted}

abbrev pub real_reading : {F : Type 0} → Option (Counted F) → Reading
real_reading None = record { begun = false; given = 0; left = None }
real_reading (Some f) = record { begun = true; given = f.count; left = None }

abbrev pub real_logging : {F : Type 0} → Option (Counted F) → Logging
real_logging None = record { begun = false; logged = 0; text = None }
real_logging (Some f) = record { begun = true; logged = f.count; text = None }

abbrev pub real_state : {F : Type 0} → List (Asked × List ℕ) → Option (Counted F) → Option (Counted F) → Option (Counted F) → State
real_state asked model log_read log = record {
  asked = asked;
  files = None;
  model = real_reading model;
  log_read = real_reading log_read;
  log = real_logging log;
  out = None;
}

reading_legal : {F : Type 0} (f : Option (Counted F)) → IsLegalReading None (real_reading f)
reading_legal None = record { bound = omega arith; told = refl; unbegun = λ _. (refl, tt) }
reading_legal (Some f) = record { bound = f.bound; told = refl; unbegun = λ h. cc }

logging_legal : {F : Type 0} (f : Option (Counted F)) → IsLegalLogging (real_logging f)
logging_legal None = record { bound = omega arith; counted = tt; unbegun = λ _. refl }
logging_legal (Some f) = record { bound = f.bound; counted = tt; unbegun = λ h. cc }

pub real_legal : {F : Type 0} (asked : List (Asked × List ℕ)) (model log_read log : Option (Counted F)) → IsLegal (real_state asked model log_read log)
real_legal asked model log_read log = record {
  model = reading_legal model;
  log_read = reading_legal log_read;
  log = logging_legal log;
}

-- nothing was asked, read or written, and no bytes are told
abbrev pub nothing_told : State
nothing_told = record {
  asked = [];
  files = None;
  model = record { begun = false; given = 0; left = None };
  log_read = record { begun = false; given = 0; left = None };
  log = record { begun = false; logged = 0; text = None };
  out = None;
}
