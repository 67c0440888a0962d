-- The faults of the parts of expressions. This project's own, after the FlatZinc grammar and builtins of the MiniZinc
-- Handbook.
use Rattle.std.specs.Prelude.{◌≡◌, ◌≢◌, ◌⊎◌, ⊤, ℕ, ◌+◌, ◌-◌, ◌^◌, ◌<◌, min, List, [], ◌∷◌, ◌++◌, length, map, sum_by, option_to_list, Option, Some, None, ℤ, Any, Contains}
use Rattle.std.specs.Option.{option_map}
use Rattle.fzn_parser.specs.declared.tree.Num.{Num}
use Rattle.fzn_parser.specs.declared.tree.Num.TheVariants as nums
use Rattle.fzn_parser.specs.declared.tree.Number.{Number}
use Rattle.fzn_parser.specs.declared.tree.Basic.{Basic}
use Rattle.fzn_parser.specs.declared.tree.BasicForm.{BasicForm}
use Rattle.fzn_parser.specs.declared.tree.BasicForm.TheVariants as basics
use Rattle.fzn_parser.specs.declared.tree.Expr.{Expr}
use Rattle.fzn_parser.specs.declared.tree.Expr.TheVariants as exprs
use Rattle.fzn_parser.specs.declared.tree.Form.{Form}
use Rattle.fzn_parser.specs.declared.tree.Form.TheVariants as forms
use Rattle.set_meaning.specs.declared.rows.Shape.{Shape}
use Rattle.set_meaning.specs.declared.rows.Shape.TheVariants.{OneOf, ManyOf, ConstantOf, ConstantsOf}
use Rattle.fzn_model.specs.declared.typing.Typing.{Typing}
use Rattle.fzn_model.specs.declared.faults.ModelFault.{ModelFault}
use Rattle.fzn_model.specs.declared.faults.ModelFault.TheVariants as faults
use Rattle.fzn_model.specs.declared.expressions.Found.{Found}
use Rattle.fzn_model.specs.declared.expressions.Seen.{Seen}
use Rattle.fzn_model.specs.Limits.{constant_set_limit, all_constant_sets_limit}
use Rattle.fzn_model.specs.Items.{numbers_at, objective_in}
use Rattle.fzn_model.specs.Entities.{Naming, arg_of_part, elements_of, sort_of}
use Rattle.fzn_model.specs.Shapes.{HasTyping, Suits, array_shape, shapes_named}
use Rattle.fzn_model.specs.FaultsOf.{IsLargeElement, constant_elements, constrained_parts, set_size, terms_of}
use Rattle.fzn_model.specs.Measures.{number_fault}
use Rattle.fzn_model.specs.FirstFault.{AtPlaces, IsFirstOf, first_told}

-- the one fault, where the rule is broken
abbrev pub Told : ModelFault → Type 0 → ModelFault → Type 0
Told fault IsBroken other = (other ≡ fault) × IsBroken

-- some item of the list has the fault
pub record OfSome {A : Type 0} (Has : A → ModelFault → Type 0) (items : List A) (fault : ModelFault) : Type 0 where
  pub part : A
  pub used : Contains items part
  pub faulty : Has part fault

-- ---- numbers

-- the fault of a number, if it has one
abbrev pub OfNumber : Number → ModelFault → Type 0
OfNumber n fault = number_fault n ≡ Some fault

-- ---- set literals

abbrev pub literal_elements : BasicForm → Option (List ℤ)
literal_elements (basics.Set s) = elements_of s
literal_elements _ = None

-- the elements are known, and too many
abbrev pub AreManyElements : Option (List ℤ) → Type 0
AreManyElements known = (elements : List ℤ) × (known ≡ Some elements) × (constant_set_limit < length elements)

-- the elements are known, and one of them is too large
abbrev pub HaveLargeElement : Option (List ℤ) → Type 0
HaveLargeElement known = (elements : List ℤ) × (known ≡ Some elements) × Any IsLargeElement elements

-- the faults of a set literal at this place with these elements
abbrev pub OfElements : ℕ → Option (List ℤ) → ModelFault → Type 0
OfElements at known fault =
    Told (faults.SetTooWide at) (AreManyElements known) fault ⊎ Told (faults.ElementRange at) (HaveLargeElement known) fault

abbrev pub size_of : Option (List ℤ) → ℕ
size_of None = 0
size_of (Some elements) = length elements

-- ---- types

-- something is asked, and it is not that
abbrev pub IsNotAsked : Option Shape → Typing → Type 0
IsNotAsked None typing = ⊥
IsNotAsked (Some shape) typing = HasTyping shape typing → ⊥

abbrev pub IsUnsuitedTo : Naming → Option Shape → BasicForm → Type 0
IsUnsuitedTo naming None form = ⊥
IsUnsuitedTo naming (Some shape) form = (form ≢ basics.Num nums.Float) × (Suits naming shape form → ⊥)

-- ---- a part

-- it is a name that is not declared
abbrev pub IsUnknownName : Naming → BasicForm → Type 0
IsUnknownName naming (basics.Name name) = naming name ≡ None
IsUnknownName naming _ = ⊥

-- the faults of a part of this form at this place, of which this shape is asked, if any
abbrev pub OfForm : Naming → Option Shape → ℕ → BasicForm → ModelFault → Type 0
OfForm naming shape at form fault =
    Told (faults.Undeclared at) (IsUnknownName naming form) fault
    ⊎ Told (faults.WrongType at) (IsUnsuitedTo naming shape form) fault
    ⊎ OfSome OfNumber (numbers_at at form) fault
    ⊎ OfElements at (literal_elements form) fault

abbrev pub OfPart : Naming → Option Shape → Basic → ModelFault → Type 0
OfPart naming shape b fault = OfForm naming shape b.at b.form fault

-- how many elements the constant sets have that a part of this form stands for
abbrev pub elements_at : Naming → BasicForm → ℕ
elements_at naming form = sum_by set_size (terms_of (arg_of_part naming form))

-- the first of the faults of a part, and how many elements its constant sets have
pub record IsSeen (Has : ModelFault → Type 0) (count : ℕ) (seen : Seen) : Type 0 where
  pub fault : IsFirstOf Has seen.fault
  pub elements : seen.elements ≡ count

-- ---- some parts, one after another

-- the elements of constant sets pass the limit at this part, where `start` came before these parts
pub record IsPastAt (naming : Naming) (start : ℕ) (parts : List Basic) (at : ℕ) : Type 0 where
  pub front : List Basic
  pub part : Basic
  pub back : List Basic
  pub occurs : parts ≡ front ++ part ∷ back
  pub many : all_constant_sets_limit < start + sum_by (constant_elements naming) (front ++ part ∷ [])
  pub place : at ≡ part.at

-- the parts at which they pass it
abbrev pub OfPast : Naming → ℕ → List Basic → ModelFault → Type 0
OfPast naming start parts = AtPlaces faults.SetTooWide (IsPastAt naming start parts)

-- a number as a sum of 128 bits holds it: the greatest such number stands for all above it
abbrev pub held : ℕ → ℕ
held n = min n (2 ^ 128 - 1)

-- what was found in these parts, of which these are the faults, where `start` elements came before them
pub record IsFound (Has : ModelFault → Type 0) (naming : Naming) (start : ℕ) (parts : List Basic) (found : Found) : Type 0 where
  pub fault : IsFirstOf Has found.fault
  pub past : IsFirstOf (OfPast naming start parts) found.past
  pub elements : found.elements ≡ held (start + sum_by (constant_elements naming) parts)

-- ---- expressions

-- what is asked of the items of an array of which this is asked
abbrev pub item_shape : Option Shape → Option Shape
item_shape (Some (ManyOf sort)) = Some (OneOf sort)
item_shape (Some (ConstantsOf sort)) = Some (ConstantOf sort)
item_shape _ = None

-- what is asked of the parts of an expression of which this is asked
abbrev pub part_shape : Option Shape → Expr → Option Shape
part_shape shape (exprs.One b) = shape
part_shape shape (exprs.List at items) = item_shape shape

-- a single term is asked
abbrev pub IsSingle : Option Shape → Type 0
IsSingle (Some (OneOf sort)) = ⊤
IsSingle (Some (ConstantOf sort)) = ⊤
IsSingle _ = ⊥

-- the faults of an array that stands at this place
abbrev pub OfArray : Naming → Option Shape → ℕ → List Basic → ModelFault → Type 0
OfArray naming shape at items fault =
    Told (faults.WrongType at) (IsSingle shape) fault ⊎ OfSome (OfPart naming (item_shape shape)) items fault

abbrev pub OfExpression : Naming → Option Shape → Expr → ModelFault → Type 0
OfExpression naming shape (exprs.One b) = OfPart naming shape b
OfExpression naming shape (exprs.List at items) = OfArray naming shape at items

-- expressions with the shapes that are asked of them, as far as these go
abbrev pub with_shapes : List Shape → List Expr → List (Option Shape × Expr)
with_shapes shapes [] = []
with_shapes [] (e ∷ es) = (None, e) ∷ with_shapes [] es
with_shapes (s ∷ shapes) (e ∷ es) = (Some s, e) ∷ with_shapes shapes es

abbrev pub OfAsked : Naming → (Option Shape × Expr) → ModelFault → Type 0
OfAsked naming asked = OfExpression naming asked.0 asked.1

-- what is found before any part, and in some parts and then in others
abbrev pub nothing_found : ℕ → Found
nothing_found start = record { fault = None; past = None; elements = start }

abbrev pub found_then : Found → Found → Found
found_then found next = record {
  fault = first_told found.fault next.fault;
  past = first_told found.past next.past;
  elements = next.elements;
}

-- ---- items

-- the expressions of an item, each with the shape that is asked of it, if any
abbrev pub own_asked : Form → List (Option Shape × Expr)
own_asked forms.Predicate = []
own_asked (forms.Param t ident anns e) = (option_map ConstantOf (sort_of t.form), e) ∷ []
own_asked (forms.Variable t ident anns value) = map (λ e. (option_map OneOf (sort_of t.form), e)) (option_to_list value)
own_asked (forms.Array len is_var t ident anns at items) = (option_map (array_shape is_var) (sort_of t.form), exprs.List at items) ∷ []
own_asked (forms.Constraint ident es anns) = with_shapes (shapes_named ident.name) es
own_asked (forms.Solve anns goal) = map (λ e. (None, e)) (option_to_list (objective_in goal))

-- the faults in the expressions of an item, where `start` elements of constant sets came before them
abbrev pub OfItem : Naming → ℕ → Form → ModelFault → Type 0
OfItem naming start form fault = OfSome (OfAsked naming) (own_asked form) fault ⊎ OfPast naming start (constrained_parts form) fault
