-- What is answered of the root family: for each variable the bounds of its values there, and the size of their diagram. No diagram
-- occurs here: the size is the residual count of the values' words (Bryant, IEEE Transactions on Computers, 1986).
use Rattle.std.specs.Prelude.{◌≡◌, ℕ, ◌↔◌, Bool, true, List, length, Some, slice_get}
use Rattle.set_meaning.specs.declared.kinds.Kind.{Kind}
use Rattle.set_meaning.specs.declared.kinds.Value.{Value}
use Rattle.set_meaning.specs.declared.problems.Bounds.{Bounds}
use Rattle.set_meaning.specs.declared.problems.Problem.{Problem}
use Rattle.bit_layout.specs.Words.{width_of, word_of}
use Rattle.diagram_view.specs.Words.{ListWords}
use Rattle.diagram_view.specs.Residuals.{IsResidualCount}
use Rattle.search_rules.specs.Problem.{InRootFamily, IsRootRefuted}
use Rattle.value_bounds.specs.Bounds.{AreBoundsOf}
use Rattle.problem_rules.specs.Posed.{problem_of}
use Rattle.learn_search.specs.declared.search.RootFound.{RootFound}
use Rattle.learn_search.specs.declared.search.RootFound.TheVariants.{Family, Unsatisfiable}

-- W has just the words of the values that pass f, which are of the kind
pub record AreWordsOfValues (k : Kind) (f : Value → Bool) (W : ListWords) : Type 0 where
  pub width : W.long ≡ width_of k
  pub words : (bits : List Bool) → length bits ≡ W.long → (W.test bits ≡ true) ↔ ((x : Value) × (f x ≡ true) × (word_of k x ≡ bits))

-- n is the residual count of the words of the values that pass f
abbrev pub IsSizeOf : Kind → (Value → Bool) → ℕ → Type 0
IsSizeOf k f n = (W : ListWords) × AreWordsOfValues k f W × IsResidualCount W n

-- the bounds and the size of the values that the variable has in the root family; f tells which these are
pub record IsRowOf (p : Problem) (v : ℕ) (bounds : Bounds) (nodes : ℕ) : Type 0 where
  pub f : Value → Bool
  pub values : (x : Value) → (f x ≡ true) ↔ InRootFamily (problem_of p) v x
  pub kind : Kind
  pub known : slice_get p.kinds v ≡ Some kind
  pub bounded : AreBoundsOf f bounds
  pub sized : IsSizeOf kind f nodes

-- a row for each variable, in file order
pub record AreRowsOf (p : Problem) (rows : List (Bounds × ℕ)) : Type 0 where
  pub long : length rows ≡ length p.kinds
  pub each : (v : ℕ) (row : Bounds × ℕ) → slice_get rows v ≡ Some row → IsRowOf p v row.0 row.1

-- each of the two is the answer exactly where it says so: the root is refuted or it is not
abbrev pub IsRootOf : Problem → RootFound → Type 0
IsRootOf p (Family rows) = (IsRootRefuted (problem_of p) → ⊥) × AreRowsOf p rows.items
IsRootOf p Unsatisfiable = IsRootRefuted (problem_of p)
