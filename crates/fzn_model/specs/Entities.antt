-- What names and expressions stand for, after the items before them. This project's own, after the FlatZinc grammar
-- of the MiniZinc Handbook.
use Rattle.std.specs.Prelude.{ℕ, if◌then◌else◌, List, [], ◌∷◌, reverse, count_by, Option, Some, None, option_and_then, ℤ}
use Rattle.std.specs.Option.{option_map}
use Rattle.fzn_parser.specs.declared.tree.Num.{Num}
use Rattle.fzn_parser.specs.declared.tree.Num.TheVariants as nums
use Rattle.fzn_parser.specs.declared.tree.Number.{Number}
use Rattle.fzn_parser.specs.declared.tree.SetForm.{SetForm}
use Rattle.fzn_parser.specs.declared.tree.SetForm.TheVariants as sets
use Rattle.fzn_parser.specs.declared.tree.Basic.{Basic}
use Rattle.fzn_parser.specs.declared.tree.BasicForm.{BasicForm}
use Rattle.fzn_parser.specs.declared.tree.BasicForm.TheVariants as basics
use Rattle.fzn_parser.specs.declared.tree.Expr.{Expr}
use Rattle.fzn_parser.specs.declared.tree.Expr.TheVariants as exprs
use Rattle.fzn_parser.specs.declared.tree.TypeForm.{TypeForm}
use Rattle.fzn_parser.specs.declared.tree.TypeForm.TheVariants as types
use Rattle.fzn_parser.specs.declared.tree.Form.{Form}
use Rattle.fzn_parser.specs.declared.tree.Form.TheVariants as forms
use Rattle.fzn_parser.specs.declared.tree.Item.{Item}
use Rattle.set_meaning.specs.declared.kinds.Value.TheVariants as value
use Rattle.set_meaning.specs.declared.problems.Term.{Term}
use Rattle.set_meaning.specs.declared.problems.Term.TheVariants.{Const, Var}
use Rattle.set_meaning.specs.declared.problems.Arg.{Arg}
use Rattle.set_meaning.specs.declared.problems.Arg.TheVariants.{One, Many}
use Rattle.set_meaning.specs.declared.rows.Sort.{Sort}
use Rattle.set_meaning.specs.declared.rows.Sort.TheVariants.{Boolean, Integer, IntegerSet}
use Rattle.set_meaning.specs.Sets.{ascending_set, integers_between}
use Rattle.fzn_model.specs.Lists.{each_of}
use Rattle.fzn_model.specs.Items.{declares, is_variable}

-- ---- sorts

-- what a type is a type of. A float is no sort of a term
abbrev pub sort_of : TypeForm → Option Sort
sort_of types.Bool = Some Boolean
sort_of types.Int = Some Integer
sort_of types.Float = None
sort_of types.SetOfInt = Some IntegerSet
sort_of (types.Within s) = Some Integer
sort_of (types.SetWithin s) = Some IntegerSet

-- ---- literals

abbrev pub integer_in : Num → Option ℤ
integer_in (nums.Int x) = Some x
integer_in _ = None

abbrev pub integer_of : Number → Option ℤ
integer_of n = integer_in n.num

-- the integers between two ends, where both are known
abbrev pub range_of : Option ℤ → Option ℤ → Option (List ℤ)
range_of (Some low) (Some high) = Some (integers_between low high)
range_of _ _ = None

-- the elements of a set literal, where it has neither a float nor an integer that is too large
abbrev pub elements_of : SetForm → Option (List ℤ)
elements_of (sets.Range low high) = range_of (integer_of low) (integer_of high)
elements_of (sets.List numbers) = option_map ascending_set (each_of integer_of numbers)

-- ---- entities

-- what a name stands for: a term or an array of terms, with the sort of its declaration, which an empty array keeps
pub record Entity : Type 0 where
  pub sort : Sort
  pub arg : Arg

-- what each name stands for; nothing where no item declares it, or where the item that does is faulty
abbrev pub Naming : Type 0
Naming = List ℕ → Option Entity

-- the one term of an argument
abbrev pub one_term : Arg → Option Term
one_term (One t) = Some t
one_term (Many ts) = None

abbrev pub arg_named : Naming → List ℕ → Option Arg
arg_named naming name = option_map (λ e. e.arg) (naming name)

-- the argument that a part of an expression stands for: an array where it names one
abbrev pub arg_of_part : Naming → BasicForm → Option Arg
arg_of_part naming (basics.Bool b) = Some (One (Const (value.Bool b)))
arg_of_part naming (basics.Num (nums.Int x)) = Some (One (Const (value.Int x)))
arg_of_part naming (basics.Num _) = None
arg_of_part naming (basics.Set s) = option_map (λ xs. One (Const (value.Set xs))) (elements_of s)
arg_of_part naming (basics.Name name) = arg_named naming name

-- the term that an item of an array stands for
abbrev pub term_of_part : Naming → Basic → Option Term
term_of_part naming b = option_and_then one_term (arg_of_part naming b.form)

abbrev pub array_of : Naming → List Basic → Option Arg
array_of naming items = option_map Many (each_of (term_of_part naming) items)

-- what an expression stands for
abbrev pub arg_of : Naming → Expr → Option Arg
arg_of naming (exprs.One b) = arg_of_part naming b.form
arg_of naming (exprs.List at items) = array_of naming items

-- an entity of the type's sort
abbrev pub entity : TypeForm → Option Arg → Option Entity
entity t arg = option_and_then (λ sort. option_map (λ a. record { sort = sort; arg = a }) arg) (sort_of t)

abbrev pub variable : ℕ → Arg
variable number = One (Var (record { 0 = number }))

-- what the name that an item declares stands for: a parameter for its value, a scalar variable for the variable of
-- this number, an array for the list of its terms
abbrev pub entity_of : Naming → ℕ → Form → Option Entity
entity_of naming number (forms.Param sort ident anns e) = entity sort.form (arg_of naming e)
entity_of naming number (forms.Variable sort ident anns e) = entity sort.form (Some (variable number))
entity_of naming number (forms.Array len is_var sort ident anns at items) = entity sort.form (array_of naming items)
entity_of naming number _ = None

abbrev pub count_variables : List Item → ℕ
count_variables items = count_by (λ item. is_variable item.form) items

-- what a name stands for after these items, the last of them first: what the item that declares it makes of it, whose
-- own names have been declared before
abbrev pub stands_for : List Item → Naming
stands_for [] name = None
stands_for (item ∷ earlier) name =
    if declares name item.form then entity_of (stands_for earlier) (count_variables earlier) item.form else stands_for earlier name

-- what names stand for after these items
abbrev pub naming_after : List Item → Naming
naming_after before = stands_for (reverse before)
