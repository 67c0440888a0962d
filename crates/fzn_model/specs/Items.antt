-- What single items say, before any name is looked up: the names, numbers, sets and expressions in them.
-- Source: the FlatZinc grammar of the MiniZinc Handbook, in the profile that docs/FORMATS.md gives.
use Rattle.std.specs.Prelude.{ℕ, Bool, true, false, List, [], ◌∷◌, ◌++◌, option_to_list, Option, Some, None}
use Rattle.std.specs.List.{flat_map}
use Rattle.std.specs.Str.{bytes_eq}
use Rattle.fzn_parser.specs.declared.tree.Number.{Number}
use Rattle.fzn_parser.specs.declared.tree.SetForm.{SetForm}
use Rattle.fzn_parser.specs.declared.tree.SetForm.TheVariants as sets
use Rattle.fzn_parser.specs.declared.tree.Basic.{Basic}
use Rattle.fzn_parser.specs.declared.tree.BasicForm.{BasicForm}
use Rattle.fzn_parser.specs.declared.tree.BasicForm.TheVariants as basics
use Rattle.fzn_parser.specs.declared.tree.Expr.{Expr}
use Rattle.fzn_parser.specs.declared.tree.Expr.TheVariants as exprs
use Rattle.fzn_parser.specs.declared.tree.Ident.{Ident}
use Rattle.fzn_parser.specs.declared.tree.TypeExpr.{TypeExpr}
use Rattle.fzn_parser.specs.declared.tree.TypeForm.{TypeForm}
use Rattle.fzn_parser.specs.declared.tree.TypeForm.TheVariants as types
use Rattle.fzn_parser.specs.declared.tree.GoalForm.{GoalForm}
use Rattle.fzn_parser.specs.declared.tree.GoalForm.TheVariants as goals
use Rattle.fzn_parser.specs.declared.tree.Form.{Form}
use Rattle.fzn_parser.specs.declared.tree.Form.TheVariants as forms

-- ---- names

-- the name that the item declares, if any
abbrev pub ident_in : Form → Option Ident
ident_in (forms.Param sort ident anns value) = Some ident
ident_in (forms.Variable sort ident anns value) = Some ident
ident_in (forms.Array len is_var sort ident anns at items) = Some ident
ident_in _ = None

abbrev pub is_ident_of : List ℕ → Option Ident → Bool
is_ident_of name None = false
is_ident_of name (Some ident) = bytes_eq ident.name name

abbrev pub declares : List ℕ → Form → Bool
declares name form = is_ident_of name (ident_in form)

-- the item declares a scalar variable
abbrev pub is_variable : Form → Bool
is_variable (forms.Variable sort ident anns value) = true
is_variable _ = false

-- the item adds a constraint: a constraint item, or a scalar variable that is given a value
abbrev pub adds_constraint : Form → Bool
adds_constraint (forms.Constraint ident args anns) = true
adds_constraint (forms.Variable sort ident anns (Some value)) = true
adds_constraint _ = false

-- ---- expressions

abbrev pub objective_in : GoalForm → Option Expr
objective_in goals.Satisfy = None
objective_in (goals.Minimize e) = Some e
objective_in (goals.Maximize e) = Some e

-- the expressions of the item, in order; those of annotations are none
abbrev pub expressions_in : Form → List Expr
expressions_in forms.Predicate = []
expressions_in (forms.Param sort ident anns value) = value ∷ []
expressions_in (forms.Variable sort ident anns value) = option_to_list value
expressions_in (forms.Array len is_var sort ident anns at items) = exprs.List at items ∷ []
expressions_in (forms.Constraint ident args anns) = args
expressions_in (forms.Solve anns goal) = option_to_list (objective_in goal)

-- the expressions of the constraint that the item adds
abbrev pub constrained_in : Form → List Expr
constrained_in (forms.Constraint ident args anns) = args
constrained_in (forms.Variable sort ident anns value) = option_to_list value
constrained_in _ = []

-- the parts of an expression that are no arrays: itself, or the items of the array
abbrev pub parts_of : Expr → List Basic
parts_of (exprs.One b) = b ∷ []
parts_of (exprs.List at items) = items

abbrev pub place_of : Expr → ℕ
place_of (exprs.One b) = b.at
place_of (exprs.List at items) = at

-- ---- numbers

abbrev pub numbers_of : SetForm → List Number
numbers_of (sets.Range low high) = low ∷ high ∷ []
numbers_of (sets.List numbers) = numbers

abbrev pub numbers_at : ℕ → BasicForm → List Number
numbers_at at (basics.Bool t) = []
numbers_at at (basics.Num n) = record { at = at; num = n } ∷ []
numbers_at at (basics.Set s) = numbers_of s
numbers_at at (basics.Name n) = []

abbrev pub numbers_in_part : Basic → List Number
numbers_in_part b = numbers_at b.at b.form

abbrev pub numbers_in_type : TypeForm → List Number
numbers_in_type (types.Within s) = numbers_of s
numbers_in_type (types.SetWithin s) = numbers_of s
numbers_in_type _ = []

-- the type of a declaration
abbrev pub type_in : Form → Option TypeExpr
type_in (forms.Param sort ident anns value) = Some sort
type_in (forms.Variable sort ident anns value) = Some sort
type_in (forms.Array len is_var sort ident anns at items) = Some sort
type_in _ = None

abbrev pub length_in : Form → List Number
length_in (forms.Array len is_var sort ident anns at items) = len ∷ []
length_in _ = []

-- all numbers of the item outside annotations
abbrev pub numbers_in : Form → List Number
numbers_in form =
    flat_map (λ t. numbers_in_type t.form) (option_to_list (type_in form)) ++ length_in form
    ++ flat_map numbers_in_part (flat_map parts_of (expressions_in form))
