-- Options and their clauses.
use Rattle.std.proofs.Common.{◌≡◌, Option, Some, None}
use Rattle.std.specs.Prelude.{IfNone}

pub if_none : {X : Type 0} (o : Option X) (P Q : Type 0) → (P → Q) → IfNone o P → IfNone o Q
if_none None P Q to h = to h
if_none (Some x) P Q to h = tt

pub from_none : {X : Type 0} (o : Option X) (P : Type 0) → o ≡ None → IfNone o P → P
from_none None P e h = h
from_none (Some x) P e h = absurd (cc)
