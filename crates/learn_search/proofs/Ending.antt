-- Why a search ended, told of each call on the way.
use Rattle.std.proofs.Common.{◌≡◌, ℕ, Option, Some, Result, Ok, Err, refl, sym, subst}
use Rattle.std.specs.Prelude.{IfErr, OnOk}
use Rattle.node_reclaim.specs.Pool.{PoolState}
use Rattle.node_reclaim.specs.Growth.{IsFull}
use Rattle.search_turns.specs.declared.outcomes.FindStop.{FindStop}
use Rattle.search_turns.specs.declared.outcomes.FindStop.TheVariants as stop
use Rattle.learn_search.specs.declared.search.SearchEnd.{SearchEnd}
use Rattle.learn_search.specs.declared.search.SearchEnd.TheVariants as end
use Rattle.learn_search.specs.Stages.{IsEndBy}

module _ (s : PoolState) (conflicts : Option ℕ) (learned : ℕ) where
  pub ended_by : (why : FindStop) (e : SearchEnd) → (e ≡ end.Conflicts → why ≡ stop.Conflicts) → (e ≡ end.Nodes → why ≡ stop.Full) → (e ≡ end.Ended → ⊥)
      → (why ≡ stop.Full → IsFull s) → (why ≡ stop.Conflicts → conflicts ≡ Some learned) → IsEndBy s conflicts learned e
  ended_by why end.Conflicts on_conflicts on_nodes never full met = met (on_conflicts refl)
  ended_by why end.Nodes on_conflicts on_nodes never full met = full (on_nodes refl)
  ended_by why end.Memory on_conflicts on_nodes never full met = tt
  ended_by why end.Ended on_conflicts on_nodes never full met = never refl

  pub memory_ends : {A : Type 0} (r : Result A SearchEnd) → IfErr r (λ e. e ≡ end.Memory) → IfErr r (IsEndBy s conflicts learned)
  memory_ends (Ok x) h = tt
  memory_ends (Err e) h = subst (IsEndBy s conflicts learned) (sym h) tt

  -- what it says of each end
  pub at_conflicts : (e : SearchEnd) → IsEndBy s conflicts learned e → e ≡ end.Conflicts → conflicts ≡ Some learned
  at_conflicts e h is = subst (IsEndBy s conflicts learned) is h

  pub at_nodes : (e : SearchEnd) → IsEndBy s conflicts learned e → e ≡ end.Nodes → IsFull s
  at_nodes e h is = subst (IsEndBy s conflicts learned) is h

  pub not_again : (e : SearchEnd) → IsEndBy s conflicts learned e → e ≡ end.Ended → ⊥
  not_again e h is = subst (IsEndBy s conflicts learned) is h

pub on_any : {A E : Type 0} (r : Result A E) (P : Type 0) → P → OnOk r P
on_any (Ok x) P h = h
on_any (Err e) P h = tt
