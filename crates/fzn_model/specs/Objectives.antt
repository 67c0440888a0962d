-- The objective of an item, for the functions that tell its faults. No rule is defined here, and nothing public cites
-- it.
use Rattle.std.specs.Prelude.{◌≡◌, Option, Some, None, ℤ}
use Rattle.fzn_parser.specs.declared.tree.Expr.{Expr}
use Rattle.fzn_parser.specs.declared.tree.Form.{Form}
use Rattle.fzn_parser.specs.declared.tree.Form.TheVariants as forms
use Rattle.set_meaning.specs.declared.kinds.Value.TheVariants as value
use Rattle.set_meaning.specs.declared.problems.Term.TheVariants.{Const}
use Rattle.set_meaning.specs.declared.problems.Arg.{Arg}
use Rattle.set_meaning.specs.declared.problems.Arg.TheVariants.{One}
use Rattle.fzn_model.specs.Items.{objective_in}

-- the expression that is to be least or greatest
abbrev pub objective_of_item : Form → Option Expr
objective_of_item (forms.Solve anns goal) = objective_in goal
objective_of_item _ = None

-- an integer constant
abbrev pub IsIntegerConstant : Option Arg → Type 0
IsIntegerConstant arg = (number : ℤ) × (arg ≡ Some (One (Const (value.Int number))))
