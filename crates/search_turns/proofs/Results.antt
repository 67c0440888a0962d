-- What holds unless memory was wanting.
use Rattle.std.proofs.Common.{◌≡◌, sym, subst}
use Rattle.std.specs.Prelude.{Result, Ok, Err}
use Rattle.search_turns.specs.Outcomes.{UnlessMemory}
use Rattle.search_turns.specs.declared.outcomes.FindStop.{FindStop}
use Rattle.search_turns.specs.declared.outcomes.FindStop.TheVariants as stop

pub unless_weaker : {A : Type 0} (r : Result A FindStop) (P Q : Type 0) → (P → Q) → UnlessMemory r P → UnlessMemory r Q
unless_weaker (Ok x) P Q f h = f h
unless_weaker (Err stop.Conflicts) P Q f h = f h
unless_weaker (Err stop.Full) P Q f h = f h
unless_weaker (Err stop.Memory) P Q f h = tt

pub unless_always : {A : Type 0} (r : Result A FindStop) (P : Type 0) → P → UnlessMemory r P
unless_always (Ok x) P h = h
unless_always (Err stop.Conflicts) P h = h
unless_always (Err stop.Full) P h = h
unless_always (Err stop.Memory) P h = tt

pub full_handed : {A B : Type 0} (s : FindStop) (r : Result A FindStop) (q : Result B FindStop) → r ≡ Err s → q ≡ Err s → r ≡ Err stop.Full → q ≡ Err stop.Full
full_handed s r q is same e = cc

-- a stop handed on
pub unless_handed : {A B : Type 0} (s : FindStop) (P : Type 0) (r : Result A FindStop) (q : Result B FindStop) → r ≡ Err s → q ≡ Err s → UnlessMemory r P → UnlessMemory q P
unless_handed {A} {B} s P r q is same h = subst (λ (z : Result B FindStop). UnlessMemory z P) (sym same) (at s (subst (λ (z : Result A FindStop). UnlessMemory z P) is h))
  where
    at : (s : FindStop) → UnlessMemory {A = A} (Err s) P → UnlessMemory {A = B} (Err s) P
    at stop.Conflicts h = h
    at stop.Full h = h
    at stop.Memory h = tt
