-- What a desk in memory tells: everything.
use Rattle.std.specs.Prelude.{ℕ, min, List, [], length, unwrap_or, Option, None, Some, if◌then◌else◌, false}
use Rattle.std.proofs.Common.{refl, arith}
use Rattle.std.specs.Option.{option_map}
use Rattle.std.specs.Str.{bytes_eq}
use Rattle.std.specs.BTreeMap.{get_by_text}
use Rattle.desk.specs.declared.outside.Slot.{Slot}
use Rattle.desk.specs.State.{State, reading, IsLegal, IsLegalReading, IsLegalLogging}
use Rattle.desk.specs.Causes.{Faults}
use Rattle.desk.specs.FaultCounts.{faults_of}
use Rattle.desk.specs.Plan.{Plan, CallPlan}
use Rattle.desk.specs.Requests.{requests_of}
use Rattle.desk.specs.Opened.{reading_of, logging_of}
use Rattle.desk.specs.declared.opened.Opened.{Opened}
use Rattle.desk.specs.declared.opened.Logged.{Logged}
use Rattle.desk.specs.declared.plan.Calls.{Calls}
use Rattle.desk.specs.declared.plan.FailurePlan.{FailurePlan}
use Rattle.desk.specs.declared.memory_desk.MemoryDesk.{MemoryDesk}

abbrev pub memory_state : MemoryDesk → State
memory_state m = record {
  asked = requests_of m.asked.items;
  files = Some (λ name. option_map (λ text. text.items) (get_by_text m.files name));
  model = reading_of m.model;
  log_read = reading_of m.log_read;
  log = logging_of m.log;
  out = Some m.out.items;
}

abbrev pub memory_faults : MemoryDesk → Faults
memory_faults m = faults_of m.faults

abbrev pub call_plan : Calls → CallPlan
call_plan c = record { made = c.made; failing = c.failing.items }

abbrev pub plan_of : FailurePlan → Plan
plan_of p = record {
  begin_read = call_plan p.begin_read;
  read = call_plan p.read;
  begin_log = call_plan p.begin_log;
  write_out = call_plan p.write_out;
  write_log = call_plan p.write_log;
}

abbrev pub memory_plan : MemoryDesk → Plan
memory_plan m = plan_of m.plan

-- the state with this file in place of the one of that name
abbrev pub with_file : List ℕ → List ℕ → State → State
with_file name bytes s =
    record s { files = option_map (λ find other. if bytes_eq name other then Some bytes else find other) s.files }

-- how many bytes the next read moves into so much room
abbrev pub next_count : Slot → ℕ → State → ℕ
next_count slot room s = min (length (unwrap_or (reading slot s).left [])) room

reading_legal : (files : List ℕ → Option (List ℕ)) (o : Option Opened) → IsLegalReading (Some files) (reading_of o)
reading_legal files None = record { bound = omega arith; told = refl; unbegun = λ _. (refl, refl) }
reading_legal files (Some o) = record { bound = o.bound; told = refl; unbegun = λ h. cc }

logging_legal : (l : Option Logged) → IsLegalLogging (logging_of l)
logging_legal None = record { bound = omega arith; counted = refl; unbegun = λ _. refl }
logging_legal (Some l) = record { bound = l.bound; counted = omega arith; unbegun = λ h. cc }

pub memory_legal : (m : MemoryDesk) → IsLegal (memory_state m)
memory_legal m = record {
  model = reading_legal _ m.model;
  log_read = reading_legal _ m.log_read;
  log = logging_legal m.log;
}

-- the state of a new desk
abbrev pub nothing_yet : State
nothing_yet = record {
  asked = [];
  files = Some (λ name. None);
  model = record { begun = false; given = 0; left = Some [] };
  log_read = record { begun = false; given = 0; left = Some [] };
  log = record { begun = false; logged = 0; text = Some [] };
  out = Some [];
}
