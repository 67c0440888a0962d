-- The words of the command line (this project's own). They are read as the parser of command lines reads a simple
-- command, one with plain flags and positional words (crate `clap`, specs/Walk and specs/Faults).
use Rattle.std.specs.Prelude.{Bool, true, false, List, [], ◌∷◌, codes, Option, Some, None, if◌then◌else◌}
use Rattle.std.specs.Option.{option_map, option_map_or}
use Rattle.std.specs.Str.{bytes_eq}
use Rattle.clap.specs.Words.{App, Kinds, Row, Rule, Text, new_app, new_rule, with_rule, matches_of, fault_of, first_of}
use Rattle.clap.specs.Simple.{on_top}
use Rattle.clap.specs.declared.builder.action.ArgAction.TheVariants.{SetTrue}
use Rattle.solve_top.specs.declared.words.Task.{Task}
use Rattle.solve_top.specs.declared.words.Task.TheVariants.{Solve, Root}

-- the flag `--root`
abbrev pub root_flag : Rule
root_flag = record (new_rule (codes "root")) { long = Some (codes "root"); action = Some SetTrue }

-- the flag and one word, with no name of the program before them
abbrev pub setsolve : App
setsolve = with_rule (with_rule (on_top (λ s. record s { no_binary_name = true }) (new_app (codes "setsolve"))) root_flag) (new_rule (codes "model"))

-- the flag was given: the parser gives it the value `true` where it stands among the words, and else `false`
abbrev pub has_root : List Row → Bool
has_root rows = option_map_or (λ text. bytes_eq text (codes "true")) (first_of (codes "root") rows) false

-- what is asked for, and the name of the model's file, if there is one
abbrev pub command_in : List Row → Option (Task × Text)
command_in rows = option_map (λ name. (if has_root rows then Root else Solve, name)) (first_of (codes "model") rows)

-- the same of words with these faults: where there is one, they cannot be read
abbrev pub command_by : Kinds → List Row → Option (Task × Text)
command_by [] rows = command_in rows
command_by (fault ∷ faults) rows = None

-- what the words ask for, if they can be read and name a model. A request for help counts as a fault
abbrev pub command_of : List Text → Option (Task × Text)
command_of words = command_by (fault_of setsolve words) (matches_of setsolve words)
