-- A search as its callers see it.
use Rattle.std.specs.Prelude.{◌≡◌, ℕ, Bool, true, List, Option, Some, None, refl}
use Rattle.std.specs.Coded.{Coded, code_by, coded×, coded_option, coded_list, coded_bool, coded_ℕ}
use Rattle.set_meaning.specs.declared.problems.Problem.{Problem}
use Rattle.set_meaning.specs.contracts.problems.Problem as problem_row
use Rattle.set_meaning.specs.declared.kinds.Value.{Value}
use Rattle.set_meaning.specs.contracts.kinds.Value as value_row
use Rattle.set_meaning.specs.Solutions.{CoverAll}
use Rattle.node_reclaim.specs.Pool.{PoolState, pool_code, pinned_refs}
use Rattle.node_reclaim.specs.Growth.{IsFull}
use Rattle.learn_search.specs.contracts.search.SearchEnd as end_row
use Rattle.problem_limits.specs.Limits.{KeepsLimits}
use Rattle.learn_search.specs.declared.search.SearchEnd.{SearchEnd}
use Rattle.learn_search.specs.declared.search.SearchEnd.TheVariants.{Nodes, Ended}
use Rattle.learn_search.specs.declared.search.LastState.{LastState}

-- the problem that was handed in, the nodes with their limit and their pins, the answers given, whether nothing more is to be
-- found, whether answers were asked for, how many boxes may be learned and how many were, and the first refusal
pub record SearchState : Type 0 where
  pub problem : Problem
  pub pool : PoolState
  pub answers : List (List Value)
  pub complete : Bool
  pub searched : Bool
  pub conflicts : Option ℕ
  pub learned : ℕ
  pub ended : Option SearchEnd

-- it is stored as its parts, one within another
abbrev pub search_code : Coded SearchState
search_code =
    code_by ((Problem × (PoolState × Option SearchEnd)) × ((List (List Value) × (Bool × Bool)) × (Option ℕ × ℕ)))
    (coded× (coded× problem_row.the_row.coded (coded× pool_code (coded_option end_row.the_row.coded)))
    (coded× (coded× (coded_list (coded_list value_row.the_row.coded)) (coded× coded_bool coded_bool))
    (coded× (coded_option coded_ℕ) coded_ℕ)))
    (λ s. ((s.problem, (s.pool, s.ended)), ((s.answers, (s.complete, s.searched)), (s.conflicts, s.learned))))
    (λ x. record {
      problem = x.0.0;
      pool = x.0.1.0;
      ended = x.0.1.1;
      answers = x.1.0.0;
      complete = x.1.0.1.0;
      searched = x.1.0.1.1;
      conflicts = x.1.1.0;
      learned = x.1.1.1;
    }) (λ _. refl)

-- what holds of every search
pub record IsSearch (s : SearchState) : Type 0 where
  pub limits : KeepsLimits s.problem
  pub full : s.ended ≡ Some Nodes → IsFull s.pool
  pub not_ended : s.ended ≡ Some Ended → ⊥
  pub covered : s.complete ≡ true → CoverAll s.problem s.answers

-- the nodes of a search that ended for want of nodes, and what is pinned of them, each as often as it is pinned; of any other search nothing
abbrev pub IsLastOf : SearchState → Option LastState → Type 0
IsLastOf s None = s.ended ≡ Some Nodes → ⊥
IsLastOf s (Some last) = (s.ended ≡ Some Nodes) × (last.pool ≡ s.pool) × (last.named.items ≡ pinned_refs s.pool)
