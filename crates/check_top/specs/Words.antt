-- What the words of the command line ask for (this project's own).
use Rattle.std.specs.Prelude.{ℕ, List, [], ◌∷◌, Option, None, Some}

-- the name of the model's file and that of the log's
abbrev pub Command : Type 0
Command = List ℕ × List ℕ

-- Just two words name a model and a log.
abbrev pub command_of : List (List ℕ) → Option Command
command_of (model ∷ log ∷ []) = Some (model, log)
command_of words = None
