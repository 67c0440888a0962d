-- What is made of an item of a model without faults. This project's own.
use Rattle.std.specs.Prelude.{◌≡◌, ℕ, ◌≤◌, ⊤, List, [], ◌∷◌, ◌++◌, length, map, sum_by, option_to_list, Option, Some, None, ℤ, All}
use Rattle.std.specs.List.{flat_map}
use Rattle.fzn_parser.specs.declared.tree.SetForm.{SetForm}
use Rattle.fzn_parser.specs.declared.tree.Basic.{Basic}
use Rattle.fzn_parser.specs.declared.tree.BasicForm.{BasicForm}
use Rattle.fzn_parser.specs.declared.tree.BasicForm.TheVariants as basics
use Rattle.fzn_parser.specs.declared.tree.Expr.{Expr}
use Rattle.fzn_parser.specs.declared.tree.TypeForm.{TypeForm}
use Rattle.fzn_parser.specs.declared.tree.TypeForm.TheVariants as types
use Rattle.fzn_parser.specs.declared.tree.Form.{Form}
use Rattle.fzn_parser.specs.declared.tree.Form.TheVariants as forms
use Rattle.set_meaning.specs.declared.problems.Arg.{Arg}
use Rattle.set_meaning.specs.declared.problems.Arg.TheVariants.{One}
use Rattle.set_meaning.specs.declared.problems.Constraint.{Constraint}
use Rattle.fzn_model.specs.Limits.{constant_set_limit}
use Rattle.fzn_model.specs.Items.{objective_in, parts_of}
use Rattle.fzn_model.specs.Entities.{elements_of}
use Rattle.fzn_model.specs.ProblemOf.{terms_in}
use Rattle.fzn_model.specs.FaultsOf.{set_size}

-- ---- literals that may be made

-- the literal has no more elements than a constant set may have
abbrev pub IsShortSet : SetForm → Type 0
IsShortSet literal = (elements : List ℤ) → elements_of literal ≡ Some elements → length elements ≤ constant_set_limit

abbrev pub IsShortForm : BasicForm → Type 0
IsShortForm (basics.Set literal) = IsShortSet literal
IsShortForm _ = ⊤

abbrev pub IsShortPart : Basic → Type 0
IsShortPart b = IsShortForm b.form

abbrev pub IsShort : Expr → Type 0
IsShort e = All IsShortPart (parts_of e)

abbrev pub IsShortType : TypeForm → Type 0
IsShortType (types.Within literal) = IsShortSet literal
IsShortType (types.SetWithin literal) = IsShortSet literal
IsShortType _ = ⊤

abbrev pub IsShortIfAny : Option Expr → Type 0
IsShortIfAny None = ⊤
IsShortIfAny (Some e) = IsShort e

-- nor does what bounds the variable that the item declares
abbrev pub IsShortKind : Form → Type 0
IsShortKind (forms.Variable t ident anns e) = IsShortType t.form
IsShortKind _ = ⊤

-- no set literal in an expression of the item has too many elements
abbrev pub IsShortItem : Form → Type 0
IsShortItem forms.Predicate = ⊤
IsShortItem (forms.Param t ident anns e) = IsShort e
IsShortItem (forms.Variable t ident anns e) = IsShortIfAny e
IsShortItem (forms.Array len is_var t ident anns at items) = All IsShortPart items
IsShortItem (forms.Constraint ident es anns) = All IsShort es
IsShortItem (forms.Solve anns goal) = IsShortIfAny (objective_in goal)

-- ---- what is made

-- what a definition gives, which is one thing at most, where it gives something
abbrev pub Gives : {A : Type 0} → Option (List A) → Option A → Type 0
Gives None made = ⊤
Gives (Some xs) made = xs ≡ option_to_list made

-- ---- what a constraint counts

abbrev pub elements_in : Arg → ℕ
elements_in arg = sum_by set_size (terms_in arg)
