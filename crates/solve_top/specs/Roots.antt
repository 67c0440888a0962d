-- What is printed of a root family (this project's own): a line for each named variable, or that there is no solution.
use Rattle.std.specs.Prelude.{◌≡◌, ◌⊎◌, ℕ, List, [], ◌∷◌, ◌++◌}
use Rattle.set_meaning.specs.declared.problems.Bounds.{Bounds}
use Rattle.set_meaning.specs.declared.problems.Problem.{Problem}
use Rattle.search_rules.specs.Problem.{IsRootRefuted}
use Rattle.problem_rules.specs.Posed.{problem_of}
use Rattle.learn_search.specs.Roots.{AreRowsOf}
use Rattle.fzn_printer.specs.RootLine.{root_line}
use Rattle.solve_top.specs.Lines.{no_solution}

-- the line of a variable, from its name, its bounds and the size of its diagram; without a name it has none
abbrev pub named_line : List ℕ → Bounds × ℕ → List ℕ
named_line [] row = []
named_line (c ∷ cs) row = root_line (c ∷ cs) row.0 row.1

-- the lines of variables with these names and rows, in file order
abbrev pub root_lines : List (List ℕ) → List (Bounds × ℕ) → List ℕ
root_lines [] rows = []
root_lines (name ∷ names) [] = []
root_lines (name ∷ names) (row ∷ rows) = named_line name row ++ root_lines names rows

-- the root is not refuted, and the bytes are the lines of the root family
pub record IsFamilyText (p : Problem) (out : List ℕ) : Type 0 where
  pub stands : IsRootRefuted (problem_of p) → ⊥
  pub rows : List (Bounds × ℕ)
  pub are : AreRowsOf p rows
  pub text : out ≡ root_lines p.names rows

-- the root is refuted, and the bytes say that there is no solution
pub record IsRefutedText (p : Problem) (out : List ℕ) : Type 0 where
  pub refuted : IsRootRefuted (problem_of p)
  pub text : out ≡ no_solution

-- what is printed of the root family of a problem
abbrev pub IsRootText : Problem → List ℕ → Type 0
IsRootText p out = IsFamilyText p out ⊎ IsRefutedText p out
