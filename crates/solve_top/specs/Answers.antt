-- What answers the text of a model (the output of a FlatZinc solver, in the MiniZinc Handbook's words).
use Rattle.std.specs.Prelude.{◌≡◌, ◌⊎◌, ℕ, List, [], length}
use Rattle.std.specs.List.{flat_map}
use Rattle.set_meaning.specs.declared.kinds.Value.{Value}
use Rattle.set_meaning.specs.declared.problems.Problem.{Problem}
use Rattle.set_meaning.specs.Solutions.{AreAnswers, CoverAll}
use Rattle.fzn_printer.specs.Block.{block}
use Rattle.solve_top.specs.Lines.{no_solution}

-- the one block that is asked for: the bytes are the blocks of the answers
pub record IsAnswered (p : Problem) (answers : List (List Value)) (out : List ℕ) : Type 0 where
  pub are : AreAnswers p answers
  pub asked : length answers ≡ 1
  pub text : out ≡ flat_map (block p) answers

-- no answers cover everything, and the bytes say so
pub record IsUnsatisfiable (p : Problem) (out : List ℕ) : Type 0 where
  pub covered : CoverAll p []
  pub text : out ≡ no_solution

-- what is printed for a problem whose search ended
abbrev pub IsOutText : Problem → List ℕ → Type 0
IsOutText p out = ((answers : List (List Value)) × IsAnswered p answers out) ⊎ IsUnsatisfiable p out
