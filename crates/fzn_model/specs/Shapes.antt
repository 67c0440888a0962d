-- What each expression is asked to be, and whether it is. This project's own, after the FlatZinc builtins of the
-- MiniZinc Handbook.
use Rattle.std.specs.Prelude.{◌≡◌, ℕ, Bool, true, false, List, [], ◌∷◌, ◌++◌, map, option_to_list, Option, Some, None, ⊤}
use Rattle.std.specs.List.{flat_map, list_all, zip}
use Rattle.std.specs.Option.{option_map}
use Rattle.fzn_parser.specs.declared.tree.Num.TheVariants as nums
use Rattle.fzn_parser.specs.declared.tree.Basic.{Basic}
use Rattle.fzn_parser.specs.declared.tree.BasicForm.{BasicForm}
use Rattle.fzn_parser.specs.declared.tree.BasicForm.TheVariants as basics
use Rattle.fzn_parser.specs.declared.tree.Expr.{Expr}
use Rattle.fzn_parser.specs.declared.tree.Expr.TheVariants as exprs
use Rattle.fzn_parser.specs.declared.tree.TypeExpr.{TypeExpr}
use Rattle.fzn_parser.specs.declared.tree.Form.{Form}
use Rattle.fzn_parser.specs.declared.tree.Form.TheVariants as forms
use Rattle.set_meaning.specs.declared.problems.Term.{Term}
use Rattle.set_meaning.specs.declared.problems.Term.TheVariants.{Const, Var}
use Rattle.set_meaning.specs.declared.problems.Arg.{Arg}
use Rattle.set_meaning.specs.declared.problems.Arg.TheVariants.{One, Many}
use Rattle.set_meaning.specs.declared.rows.Sort.{Sort}
use Rattle.set_meaning.specs.declared.rows.Sort.TheVariants.{Boolean, Integer, IntegerSet}
use Rattle.set_meaning.specs.declared.rows.Shape.{Shape}
use Rattle.set_meaning.specs.declared.rows.Shape.TheVariants.{OneOf, ManyOf, ConstantOf, ConstantsOf}
use Rattle.set_meaning.specs.Rows.{row_of, shapes_of}
use Rattle.fzn_model.specs.declared.names.ConstraintName.{ConstraintName}
use Rattle.fzn_model.specs.declared.typing.Typing.{Typing}
use Rattle.fzn_model.specs.Names.{named}
use Rattle.fzn_model.specs.Entities.{Naming, sort_of}

-- ---- what is asked

-- the shapes of the arguments of a constraint: those of its relation, and one more Boolean where it is reified
abbrev pub with_truth : Bool → List Shape → List Shape
with_truth false shapes = shapes
with_truth true shapes = shapes ++ OneOf Boolean ∷ []

abbrev pub argument_shapes : ConstraintName → List Shape
argument_shapes n = with_truth n.is_reified (shapes_of (row_of n.relation))

-- the shapes that the arguments of a constraint of this name have; none where no relation has the name
abbrev pub shapes_named : List ℕ → List Shape
shapes_named name = flat_map argument_shapes (option_to_list (named name))

-- the shape of an array's literal: terms where it is one of variables, else constants
abbrev pub array_shape : Bool → Sort → Shape
array_shape true = ManyOf
array_shape false = ConstantsOf

-- an expression with what its place asks for, where there is something that it asks for
abbrev pub asked_if : (Sort → Shape) → TypeExpr → Expr → List (Shape × Expr)
asked_if shape t e = option_to_list (option_map (λ sort. (shape sort, e)) (sort_of t.form))

-- the expressions of an item, each with what its place asks for. The objective is asked for by a rule of its own
abbrev pub asked_in : Form → List (Shape × Expr)
asked_in (forms.Param t ident anns e) = asked_if ConstantOf t e
asked_in (forms.Variable t ident anns e) = flat_map (asked_if OneOf t) (option_to_list e)
asked_in (forms.Array len is_var t ident anns at items) = asked_if (array_shape is_var) t (exprs.List at items)
asked_in (forms.Constraint ident args anns) = zip (shapes_named ident.name) args
asked_in _ = []

-- ---- what an expression is

abbrev pub is_constant : Term → Bool
is_constant (Const v) = true
is_constant (Var x) = false

abbrev pub typing_of_arg : Sort → Arg → Typing
typing_of_arg sort (One t) = record { sort = sort; is_array = false; is_constant = is_constant t }
typing_of_arg sort (Many ts) = record { sort = sort; is_array = true; is_constant = list_all is_constant ts }

-- a constant of this sort
abbrev pub constant : Sort → Typing
constant sort = record { sort = sort; is_array = false; is_constant = true }

-- an integer that is too large is an integer all the same, and a set literal with a fault in it is a set. A float has
-- no sort
abbrev pub typing_of : Naming → BasicForm → Option Typing
typing_of naming (basics.Bool b) = Some (constant Boolean)
typing_of naming (basics.Num nums.Float) = None
typing_of naming (basics.Num _) = Some (constant Integer)
typing_of naming (basics.Set s) = Some (constant IntegerSet)
typing_of naming (basics.Name name) = option_map (λ e. typing_of_arg e.sort e.arg) (naming name)

abbrev pub HasTyping : Shape → Typing → Type 0
HasTyping (OneOf sort) t = (t.sort ≡ sort) × (t.is_array ≡ false)
HasTyping (ManyOf sort) t = (t.sort ≡ sort) × (t.is_array ≡ true)
HasTyping (ConstantOf sort) t = (t.sort ≡ sort) × (t.is_array ≡ false) × (t.is_constant ≡ true)
HasTyping (ConstantsOf sort) t = (t.sort ≡ sort) × (t.is_array ≡ true) × (t.is_constant ≡ true)

-- a part of an expression is what is asked
pub record Suits (naming : Naming) (shape : Shape) (b : BasicForm) : Type 0 where
  pub typing : Typing
  pub typed : typing_of naming b ≡ Some typing
  pub asked : HasTyping shape typing

-- what is asked of each part of an expression: of the items of an array what is asked of its terms
abbrev pub asked_of_parts : Shape → Expr → List (Shape × Basic)
asked_of_parts shape (exprs.One b) = (shape, b) ∷ []
asked_of_parts (ManyOf sort) (exprs.List at items) = map (λ b. (OneOf sort, b)) items
asked_of_parts (ConstantsOf sort) (exprs.List at items) = map (λ b. (ConstantOf sort, b)) items
asked_of_parts _ (exprs.List at items) = []

-- a literal of an array stands where a single term is asked
abbrev pub IsStrayArray : Shape → Expr → Type 0
IsStrayArray (OneOf sort) (exprs.List at items) = ⊤
IsStrayArray (ConstantOf sort) (exprs.List at items) = ⊤
IsStrayArray _ _ = ⊥
