-- Lemmas of the words of the command line: from what the parser says to what is asked for.
use Rattle.std.proofs.Common.{◌≡◌, ◌∙◌, List, [], ◌∷◌, false, Option, None, codes, ap, refl, ◌⊎◌, inl, inr}
use Rattle.std.specs.Prelude.{Result, Ok, Err, IfOk, IsErr, if◌then◌else◌}
use Rattle.std.specs.Option.{option_map, option_map_or}
use Rattle.std.specs.Str.{bytes_eq}
use Rattle.std.specs.Borrow.{Bor}
use Rattle.std.specs.declared.alloc.AllocError.{AllocError}
use Rattle.std.proofs.lemmas.Result.{IfOk-from_err}
use Rattle.clap.specs.Words.{Kinds, IsAmong, Row, Text, first_value, rows_of}
use Rattle.clap.specs.declared.error.kind.ErrorKind.{ErrorKind}
use Rattle.clap.specs.declared.error.kind.ErrorKind.TheVariants.{OutOfMemory}
use Rattle.clap.specs.declared.parser.matches.Found.{Found}
use Rattle.clap.proofs.WalkLemmas.{first_value-rows}
use Rattle.solve_top.specs.declared.words.Task.{Task}
use Rattle.solve_top.specs.declared.words.Task.TheVariants.{Solve, Root}
use Rattle.solve_top.specs.Words.{has_root, command_in, command_by}

-- the flag by what was found of it
pub flag_is : (f : Found) (text : Option Text) → text ≡ first_value f (codes "root")
    → option_map_or (λ t. bytes_eq t (codes "true")) text false ≡ has_root (rows_of f)
flag_is f text e = ap (λ o. option_map_or (λ t. bytes_eq t (codes "true")) o false) (e ∙ first_value-rows f (codes "root"))

-- the command by what was found of the model's name
pub command_is : (f : Found) (name : Option Text) → name ≡ first_value f (codes "model")
    → option_map (λ n. (if has_root (rows_of f) then Root else Solve, n)) name ≡ command_in (rows_of f)
command_is f name e = ap (option_map (λ n. (if has_root (rows_of f) then Root else Solve, n))) (e ∙ first_value-rows f (codes "model"))

-- words with a fault ask for nothing
no_command : (faults : Kinds) (rows : List Row) (kind : ErrorKind) → IsAmong kind faults → None ≡ command_by faults rows
no_command [] rows kind among = absurd among
no_command (k ∷ ks) rows kind among = refl

-- what is answered where the parser fails, and memory was not refused
pub refused_words : (faults : Kinds) (rows : List Row) (kind : ErrorKind) (r : Result (Option (Task × Bor Text)) AllocError)
    → (kind ≡ OutOfMemory) ⊎ IsAmong kind faults → IfOk r (λ c. c ≡ None) → (kind ≡ OutOfMemory → IsErr r)
    → IfOk r (λ c. option_map (λ p. (p.0, p.1.now)) c ≡ command_by faults rows)
refused_words faults rows kind r (inl out) none memory = IfOk-from_err r (λ c. option_map (λ p. (p.0, p.1.now)) c ≡ command_by faults rows) (memory out)
refused_words faults rows kind (Err e) (inr among) none memory = tt
refused_words faults rows kind (Ok c) (inr among) none memory = ap (option_map (λ p. (p.0, p.1.now))) none ∙ no_command faults rows kind among
