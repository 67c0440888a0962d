-- Where the parts of an item lie, and the numbers in it. Of an annotation only its own place counts, not what is in
-- its brackets. This project's own, over the FlatZinc grammar of the MiniZinc Handbook.
use Rattle.std.specs.Prelude.{◌≡◌, ℕ, ◌<◌, ⊤, List, [], ◌∷◌, ◌++◌, map, flat_map, option_to_list, Option, Some, None, All, Contains, pos, neg_ℤ, ◌≤ℤ◌}
use Rattle.fzn_parser.specs.declared.faults.SyntaxFault.{SyntaxFault}
use Rattle.fzn_parser.specs.declared.faults.SyntaxFault.TheVariants as faults
use Rattle.fzn_parser.specs.declared.tree.Num.{Num}
use Rattle.fzn_parser.specs.declared.tree.Num.TheVariants as nums
use Rattle.fzn_parser.specs.declared.tree.Number.{Number}
use Rattle.fzn_parser.specs.declared.tree.SetForm.{SetForm}
use Rattle.fzn_parser.specs.declared.tree.SetForm.TheVariants as sets
use Rattle.fzn_parser.specs.declared.tree.Basic.{Basic}
use Rattle.fzn_parser.specs.declared.tree.BasicForm.{BasicForm}
use Rattle.fzn_parser.specs.declared.tree.BasicForm.TheVariants as basics
use Rattle.fzn_parser.specs.declared.tree.Expr.{Expr}
use Rattle.fzn_parser.specs.declared.tree.Expr.TheVariants as exprs
use Rattle.fzn_parser.specs.declared.tree.TypeForm.{TypeForm}
use Rattle.fzn_parser.specs.declared.tree.TypeForm.TheVariants as types
use Rattle.fzn_parser.specs.declared.tree.Ann.{Ann, out-Ann}
use Rattle.fzn_parser.specs.declared.tree.GoalForm.{GoalForm}
use Rattle.fzn_parser.specs.declared.tree.GoalForm.TheVariants as goals
use Rattle.fzn_parser.specs.declared.tree.Form.{Form}
use Rattle.fzn_parser.specs.declared.tree.Form.TheVariants as forms
use Rattle.fzn_parser.specs.declared.tree.Item.{Item}
use Rattle.fzn_parser.specs.declared.tree.Tree.{Tree}

-- ---- numbers

abbrev pub numbers_of : SetForm → List Number
numbers_of (sets.Range low high) = low ∷ high ∷ []
numbers_of (sets.List numbers) = numbers

abbrev pub numbers_at : ℕ → BasicForm → List Number
numbers_at at (basics.Bool b) = []
numbers_at at (basics.Num n) = record { at = at; num = n } ∷ []
numbers_at at (basics.Set s) = numbers_of s
numbers_at at (basics.Name n) = []

abbrev pub numbers_in_part : Basic → List Number
numbers_in_part b = numbers_at b.at b.form

abbrev pub numbers_in_expression : Expr → List Number
numbers_in_expression (exprs.One b) = numbers_in_part b
numbers_in_expression (exprs.List at items) = flat_map numbers_in_part items

abbrev pub numbers_in_type : TypeForm → List Number
numbers_in_type (types.Within s) = numbers_of s
numbers_in_type (types.SetWithin s) = numbers_of s
numbers_in_type _ = []

-- the expression of a goal, if it has one
abbrev pub objective : GoalForm → Option Expr
objective goals.Satisfy = None
objective (goals.Minimize e) = Some e
objective (goals.Maximize e) = Some e

-- the numbers of an item's type, length and expressions
abbrev pub numbers_in : Form → List Number
numbers_in forms.Predicate = []
numbers_in (forms.Param sort name anns value) = numbers_in_type sort.form ++ numbers_in_expression value
numbers_in (forms.Variable sort name anns value) =
    numbers_in_type sort.form ++ flat_map numbers_in_expression (option_to_list value)
numbers_in (forms.Array len is_var sort name anns at items) =
    len ∷ (numbers_in_type sort.form ++ flat_map numbers_in_part items)
numbers_in (forms.Constraint name args anns) = flat_map numbers_in_expression args
numbers_in (forms.Solve anns goal) = flat_map numbers_in_expression (option_to_list (objective goal))

-- an integer whose value is told is at most 1,000,000,000 in size
abbrev pub IsSmall : Num → Type 0
IsSmall (nums.Int z) = (neg_ℤ (pos 1000000000) ≤ℤ z) × (z ≤ℤ pos 1000000000)
IsSmall nums.Large = ⊤
IsSmall nums.Float = ⊤

-- ---- places

abbrev pub place_of_annotation : Ann → ℕ
place_of_annotation a = (out-Ann a).at

-- of an expression, and of the items of an array
abbrev pub places_in_expression : Expr → List ℕ
places_in_expression (exprs.One b) = b.at ∷ []
places_in_expression (exprs.List at items) = at ∷ map (λ (b : Basic). b.at) items

-- of the type, the name, the annotations and the expressions
abbrev pub places_of_parts : Form → List ℕ
places_of_parts forms.Predicate = []
places_of_parts (forms.Param sort name anns value) =
    sort.at ∷ name.at ∷ (map place_of_annotation anns ++ places_in_expression value)
places_of_parts (forms.Variable sort name anns value) =
    sort.at ∷ name.at ∷ (map place_of_annotation anns ++ flat_map places_in_expression (option_to_list value))
places_of_parts (forms.Array len is_var sort name anns at items) =
    sort.at ∷ name.at ∷ (map place_of_annotation anns ++ places_in_expression (exprs.List at items))
places_of_parts (forms.Constraint name args anns) =
    name.at ∷ (flat_map places_in_expression args ++ map place_of_annotation anns)
places_of_parts (forms.Solve anns goal) =
    map place_of_annotation anns ++ flat_map places_in_expression (option_to_list (objective goal))

-- the places in an item: those of its parts and of its numbers
abbrev pub places_in : Form → List ℕ
places_in form = places_of_parts form ++ map (λ (n : Number). n.at) (numbers_in form)

-- ---- trees

-- each place in an item is before each place in a later one
pub record AreInOrder (tree : Tree) : Type 0 where
  pub apart : (before : List Item) (item : Item) (between : List Item) (other : Item) (behind : List Item)
      → tree.items ≡ before ++ item ∷ (between ++ other ∷ behind)
      → (p q : ℕ) → Contains (places_in item.form) p → Contains (places_in other.form) q → p < q

abbrev pub IsSolve : Form → Type 0
IsSolve (forms.Solve anns goal) = ⊤
IsSolve _ = ⊥

-- the last item is the solve item, and no other is
pub record EndsInSolve (tree : Tree) : Type 0 where
  pub front : List Item
  pub last : Item
  pub items_are : tree.items ≡ front ++ last ∷ []
  pub solve : IsSolve last.form
  pub others : All (λ item. IsSolve item.form → ⊥) front

-- the place of a first fault lies in a text of n bytes, or at its end where the text ends too early
abbrev pub LiesWithin : ℕ → SyntaxFault → Type 0
LiesWithin n (faults.Expected at what) = at < n
LiesWithin n (faults.EndOfFile at) = at ≡ n
LiesWithin n (faults.TooDeep at) = at < n
LiesWithin n faults.Memory = ⊥
