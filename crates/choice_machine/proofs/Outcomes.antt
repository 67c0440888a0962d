-- What follows where a call succeeds.
use Rattle.std.proofs.Common.{Result, Ok, Err}
use Rattle.std.specs.Prelude.{OnOk}

pub on_ok_then : {A E : Type 0} (o : Result A E) (P Q : Type 0) → (P → Q) → OnOk o P → OnOk o Q
on_ok_then (Ok x) P Q f h = f h
on_ok_then (Err e) P Q f h = tt

pub on_ok_any : {A E : Type 0} (o : Result A E) (P : Type 0) → P → OnOk o P
on_ok_any (Ok x) P h = h
on_ok_any (Err e) P h = tt
