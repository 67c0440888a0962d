-- Which calls of a memory desk are to fail (this project's own).
use Rattle.std.specs.Prelude.{ℕ, ◌+◌, ◌-◌, ◌^◌, ◌==◌, ◌&&◌, nat_lt, Bool, List, [], ◌∷◌, ◌++◌}
use Rattle.std.specs.List.{list_any}
use Rattle.desk.specs.Causes.{one_more}
use Rattle.desk.specs.declared.outside.To.{To}
use Rattle.desk.specs.declared.outside.To.TheVariants as to
use Rattle.desk.specs.declared.plan.DeskCall.{DeskCall}
use Rattle.desk.specs.declared.plan.DeskCall.TheVariants as call

-- the calls of one kind: how many were made, and the numbers of those that are to fail, counted from 1
pub record CallPlan : Type 0 where
  pub made : ℕ
  pub failing : List ℕ

pub record Plan : Type 0 where
  pub begin_read : CallPlan
  pub read : CallPlan
  pub begin_log : CallPlan
  pub write_out : CallPlan
  pub write_log : CallPlan

abbrev pub calls : DeskCall → Plan → CallPlan
calls call.BeginRead p = p.begin_read
calls call.Read p = p.read
calls call.BeginLog p = p.begin_log
calls call.WriteOut p = p.write_out
calls call.WriteLog p = p.write_log

abbrev pub with_calls : DeskCall → CallPlan → Plan → Plan
with_calls call.BeginRead c p = record p { begin_read = c }
with_calls call.Read c p = record p { read = c }
with_calls call.BeginLog c p = record p { begin_log = c }
with_calls call.WriteOut c p = record p { write_out = c }
with_calls call.WriteLog c p = record p { write_log = c }

abbrev pub write_call_of : To → DeskCall
write_call_of to.Out = call.WriteOut
write_call_of to.Log = call.WriteLog

-- The number of the next call is among these. Where the counter of 64 bits stands at its last value, it has none.
abbrev pub is_next : CallPlan → Bool
is_next c = nat_lt c.made (2 ^ 64 - 1) && list_any (λ n. n == c.made + 1) c.failing

-- one more call was made
abbrev pub counted : DeskCall → Plan → Plan
counted kind p = with_calls kind (record (calls kind p) { made = one_more (calls kind p).made }) p

-- the call of this number is to fail too
abbrev pub planning : DeskCall → ℕ → Plan → Plan
planning kind number p =
    with_calls kind (record (calls kind p) { failing = (calls kind p).failing ++ number ∷ [] }) p

-- the next call of this kind is to fail
abbrev pub is_planned : DeskCall → Plan → Bool
is_planned kind p = is_next (calls kind p)

-- nothing was called, and nothing is to fail
abbrev pub no_plan : Plan
no_plan =
    let none : CallPlan = record { made = 0; failing = [] } in
    record { begin_read = none; read = none; begin_log = none; write_out = none; write_log = none }
