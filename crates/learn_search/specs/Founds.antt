-- What `next` answers. This project's own.
use Rattle.std.specs.Prelude.{List, [], ◌∷◌, ◌++◌, Bool, true, false}
use Rattle.set_meaning.specs.declared.kinds.Value.{Value}
use Rattle.set_meaning.specs.declared.problems.Problem.{Problem}
use Rattle.set_meaning.specs.Solutions.{IsAnswer, CoverAll}
use Rattle.learn_search.specs.declared.search.Found.{Found}
use Rattle.learn_search.specs.declared.search.Found.TheVariants as found

-- an answer after those given before, or that these cover every solution
abbrev pub IsFoundOf : Problem → List (List Value) → Found → Type 0
IsFoundOf p given (found.Answer values) = IsAnswer p given values.items
IsFoundOf p given found.Complete = CoverAll p given

-- the answers given, with what was found now
abbrev pub given_with : List (List Value) → Found → List (List Value)
given_with given (found.Answer values) = given ++ values.items ∷ []
given_with given found.Complete = given

-- that nothing more is to be found
abbrev pub is_complete : Found → Bool
is_complete (found.Answer values) = false
is_complete found.Complete = true
