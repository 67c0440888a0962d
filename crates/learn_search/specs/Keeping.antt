-- What holds of a search and of what it stands at. A word of private helpers.
use Rattle.std.specs.Prelude.{◌≡◌, ◌<◌, false, Option, None, IfSome}
use Rattle.learn_search.specs.declared.beginning.Begun.{Begun}
use Rattle.learn_search.specs.Searches.{SearchState, IsSearch}
use Rattle.learn_search.specs.Stages.{IsStage}

-- before the first `next` the search stands at nothing; where nothing was refused, it goes on from a stage
pub record IsKept (s : SearchState) (begun : Option Begun) : Type 0 where
  pub search : IsSearch s
  pub unsearched : s.searched ≡ false → begun ≡ None
  pub capped : s.ended ≡ None → IfSome s.conflicts (λ n. s.learned < n)
  pub stage : s.ended ≡ None → s.complete ≡ false → IsStage s.problem s.pool begun s.answers s.learned
