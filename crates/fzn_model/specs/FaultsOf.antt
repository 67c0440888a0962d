-- The faults of a tree, a rule for each, and the first of them. This project's own, after the FlatZinc grammar and
-- builtins of the MiniZinc Handbook. A rule speaks of an item with the items before it; every rule gives the place of
-- its fault.
use Rattle.std.specs.Prelude.{◌≡◌, ◌≢◌, ◌⊎◌, ℕ, ◌+◌, ◌<◌, ◌≤◌, true, false, IsTrue, List, [], ◌∷◌, ◌++◌, length, count_by, sum_by, slice_get, option_to_list, Option, Some, None, IsSome, ℤ, pos, unsigned_abs, Any, Contains}
use Rattle.std.specs.List.{flat_map}
use Rattle.fzn_parser.specs.declared.tree.Num.TheVariants as nums
use Rattle.fzn_parser.specs.declared.tree.Number.{Number}
use Rattle.fzn_parser.specs.declared.tree.SetForm.{SetForm}
use Rattle.fzn_parser.specs.declared.tree.Basic.{Basic}
use Rattle.fzn_parser.specs.declared.tree.BasicForm.TheVariants as basics
use Rattle.fzn_parser.specs.declared.tree.Expr.{Expr}
use Rattle.fzn_parser.specs.declared.tree.Expr.TheVariants as exprs
use Rattle.fzn_parser.specs.declared.tree.Ident.{Ident}
use Rattle.fzn_parser.specs.declared.tree.TypeExpr.{TypeExpr}
use Rattle.fzn_parser.specs.declared.tree.TypeForm.TheVariants as types
use Rattle.fzn_parser.specs.declared.tree.Form.{Form}
use Rattle.fzn_parser.specs.declared.tree.Form.TheVariants as forms
use Rattle.fzn_parser.specs.declared.tree.Item.{Item}
use Rattle.fzn_parser.specs.declared.tree.Tree.{Tree}
use Rattle.set_meaning.specs.declared.kinds.Kind.{Kind}
use Rattle.set_meaning.specs.declared.kinds.Kind.TheVariants as kind
use Rattle.set_meaning.specs.declared.kinds.Value.TheVariants as value
use Rattle.set_meaning.specs.declared.problems.VarId.{VarId}
use Rattle.set_meaning.specs.declared.problems.Term.{Term}
use Rattle.set_meaning.specs.declared.problems.Term.TheVariants.{Const}
use Rattle.set_meaning.specs.declared.problems.Arg.{Arg}
use Rattle.set_meaning.specs.declared.problems.Arg.TheVariants.{One}
use Rattle.set_meaning.specs.declared.problems.Constraint.{Constraint}
use Rattle.set_meaning.specs.declared.rows.Sort.TheVariants.{Integer}
use Rattle.set_meaning.specs.declared.rows.Shape.{Shape}
use Rattle.set_meaning.specs.declared.rows.Shape.TheVariants.{OneOf}
use Rattle.set_meaning.specs.Relations.{IsScope}
use Rattle.set_meaning.specs.Rows.{ArePaired, row_of}
use Rattle.bit_layout.specs.Words.{span, width_of}
use Rattle.bit_layout.specs.Limits.{counted_bits}
use Rattle.fzn_model.specs.declared.faults.ModelFault.{ModelFault}
use Rattle.fzn_model.specs.declared.faults.ModelFault.TheVariants as faults
use Rattle.fzn_model.specs.Limits.{universe_limit, span_limit, constant_set_limit, all_constant_sets_limit, element_limit, scope_limit, bit_limit, value_limit, constraint_limit, term_limit}
use Rattle.fzn_model.specs.Lists.{sum_after}
use Rattle.fzn_model.specs.Names.{named}
use Rattle.fzn_model.specs.Items.{adds_constraint, constrained_in, declares, expressions_in, ident_in, length_in, numbers_in_part, numbers_in_type, objective_in, parts_of, place_of, type_in}
use Rattle.fzn_model.specs.Entities.{Naming, arg_of, arg_of_part, elements_of, naming_after}
use Rattle.fzn_model.specs.Shapes.{IsStrayArray, Suits, asked_in, asked_of_parts, shapes_named}
use Rattle.fzn_model.specs.Outputs.{Annotation, dims_shown, output_in, shows_scalar}
use Rattle.fzn_model.specs.ProblemOf.{constraint_named, kinds_of, terms_in}

-- ---- what the rules count

-- the parts of the expressions of an item, and of those of the constraint that it adds
abbrev pub all_parts : Form → List Basic
all_parts form = flat_map parts_of (expressions_in form)

abbrev pub constrained_parts : Form → List Basic
constrained_parts form = flat_map parts_of (constrained_in form)

abbrev pub set_size : Term → ℕ
set_size (Const (value.Set s)) = length s
set_size _ = 0

abbrev pub terms_of : Option Arg → List Term
terms_of arg = flat_map terms_in (option_to_list arg)

-- how many elements the constant sets have that a part of an expression stands for
abbrev pub constant_elements : Naming → Basic → ℕ
constant_elements naming b = sum_by set_size (terms_of (arg_of_part naming b.form))

-- the same of the constraint that an item adds behind others
abbrev pub constant_elements_after : List Item → Item → ℕ
constant_elements_after before item = sum_by (constant_elements (naming_after before)) (constrained_parts item.form)

-- how many terms the constraint has that an item adds behind others: those of its expressions, and the variable that
-- is given a value
abbrev pub own_terms : Form → ℕ
own_terms (forms.Variable t ident anns (Some e)) = 1
own_terms _ = 0

abbrev pub terms_after : List Item → Item → ℕ
terms_after before item =
    own_terms item.form + sum_by (λ e. length (terms_of (arg_of (naming_after before) e))) (constrained_in item.form)

-- an item and those before it
abbrev pub up_to : List Item → Item → List Item
up_to before item = before ++ item ∷ []

-- how many initial values an integer variable has
abbrev pub integer_values : Kind → ℕ
integer_values (kind.Int numbers) = length numbers
integer_values _ = 0

abbrev pub IsLargeElement : ℤ → Type 0
IsLargeElement x = element_limit < unsigned_abs x

-- the variables have too many bits, or the integer variables too many values
abbrev pub HaveTooManyBits : List Kind → Type 0
HaveTooManyBits kinds = (bit_limit < sum_by counted_bits kinds) ⊎ (value_limit < sum_by integer_values kinds)

-- ---- rules on the expressions of an item

-- undeclared: a used name that no earlier item declares
pub record IsUndeclared (before : List Item) (item : Item) (at : ℕ) : Type 0 where
  pub part : Basic
  pub used : Contains (all_parts item.form) part
  pub name : List ℕ
  pub named : part.form ≡ basics.Name name
  pub declared : Any (λ earlier. IsTrue (declares name earlier.form)) before → ⊥
  pub place : at ≡ part.at

-- wrong type: an array where a single term is asked, or a part that is not what is asked, unless it is a float
pub record IsStray (before : List Item) (item : Item) (at : ℕ) : Type 0 where
  pub shape : Shape
  pub expression : Expr
  pub asked : Contains (asked_in item.form) (shape, expression)
  pub stray : IsStrayArray shape expression
  pub place : at ≡ place_of expression

pub record IsUnsuited (before : List Item) (item : Item) (at : ℕ) : Type 0 where
  pub shape : Shape
  pub part : Basic
  pub asked : Contains (flat_map (λ a. asked_of_parts a.0 a.1) (asked_in item.form)) (shape, part)
  pub float : part.form ≢ basics.Num nums.Float
  pub suits : Suits (naming_after before) shape part.form → ⊥
  pub place : at ≡ part.at

abbrev pub IsWrongType : List Item → Item → ℕ → Type 0
IsWrongType before item at = IsStray before item at ⊎ IsUnsuited before item at

-- float, number too large: such a number in an expression
abbrev pub IsFloatPart : Item → ℕ → Type 0
IsFloatPart item at = Contains (flat_map numbers_in_part (all_parts item.form)) (record { at = at; num = nums.Float })

abbrev pub IsLargePart : Item → ℕ → Type 0
IsLargePart item at = Contains (flat_map numbers_in_part (all_parts item.form)) (record { at = at; num = nums.Large })

-- a set literal of an expression has these elements
pub record IsConstantSet (item : Item) (at : ℕ) (elements : List ℤ) : Type 0 where
  pub part : Basic
  pub used : Contains (all_parts item.form) part
  pub literal : SetForm
  pub is : part.form ≡ basics.Set literal
  pub known : elements_of literal ≡ Some elements
  pub place : at ≡ part.at

-- set too wide: a constant set has too many elements
pub record IsWideConstant (item : Item) (at : ℕ) : Type 0 where
  pub elements : List ℤ
  pub constant : IsConstantSet item at elements
  pub wide : constant_set_limit < length elements

-- set too wide: the constant sets in constraints have too many elements together, up to this occurrence
pub record ArePastAllSets (before : List Item) (item : Item) (at : ℕ) : Type 0 where
  pub front : List Basic
  pub part : Basic
  pub back : List Basic
  pub occurs : constrained_parts item.form ≡ front ++ part ∷ back
  pub many : all_constant_sets_limit
      < sum_after constant_elements_after [] before + sum_by (constant_elements (naming_after before)) (front ++ part ∷ [])
  pub place : at ≡ part.at

-- element out of range: of a constant set
pub record HasLargeElement (item : Item) (at : ℕ) : Type 0 where
  pub elements : List ℤ
  pub constant : IsConstantSet item at elements
  pub large : Any IsLargeElement elements

-- the faults whose place is in an expression, but for the objective's own
abbrev pub InExpressions : List Item → Item → ModelFault → Type 0
InExpressions before item (faults.Undeclared at) = IsUndeclared before item at
InExpressions before item (faults.WrongType at) = IsWrongType before item at
InExpressions before item (faults.Float at) = IsFloatPart item at
InExpressions before item (faults.NumberTooLarge at) = IsLargePart item at
InExpressions before item (faults.SetTooWide at) = IsWideConstant item at ⊎ ArePastAllSets before item at
InExpressions before item (faults.ElementRange at) = HasLargeElement item at
InExpressions before item _ = ⊥

-- no argument has a fault
abbrev pub HasGoodArguments : List Item → Item → Type 0
HasGoodArguments before item = (fault : ModelFault) → InExpressions before item fault → ⊥

-- ---- rules on declarations

-- declared twice: an earlier item declares the name that is declared
pub record IsDeclaredTwice (before : List Item) (item : Item) (at : ℕ) : Type 0 where
  pub ident : Ident
  pub declared : ident_in item.form ≡ Some ident
  pub earlier : Any (λ other. IsTrue (declares ident.name other.form)) before
  pub place : at ≡ ident.at

-- the length that is written for an array: a negative one is 0
abbrev pub length_of : ℤ → ℕ
length_of (pos n) = n
length_of _ = 0

abbrev pub IsLength : Number → ℕ → Type 0
IsLength n len = (x : ℤ) × (n.num ≡ nums.Int x) × (len ≡ length_of x)

-- wrong count: an array's length is not that of its literal
abbrev pub IsWrongLength : Form → ℕ → Type 0
IsWrongLength (forms.Array len is_var t ident anns items_at items) at = (at ≡ ident.at) × (IsLength len (length items) → ⊥)
IsWrongLength _ at = ⊥

-- unbounded: a scalar without a bound on its integers
abbrev pub IsUnbounded : Form → ℕ → Type 0
IsUnbounded (forms.Variable t ident anns e) at = (at ≡ t.at) × ((t.form ≡ types.Int) ⊎ (t.form ≡ types.SetOfInt))
IsUnbounded _ at = ⊥

-- the numbers of a declaration's type, and the length of an array
abbrev pub declared_numbers : Form → List Number
declared_numbers form = flat_map (λ t. numbers_in_type t.form) (option_to_list (type_in form)) ++ length_in form

-- float: a float type, or a float in a type
pub record IsFloatType (item : Item) (at : ℕ) : Type 0 where
  pub declared : TypeExpr
  pub typed : type_in item.form ≡ Some declared
  pub float : declared.form ≡ types.Float
  pub place : at ≡ declared.at

abbrev pub IsDeclaredFloat : Item → ℕ → Type 0
IsDeclaredFloat item at = IsFloatType item at ⊎ Contains (declared_numbers item.form) (record { at = at; num = nums.Float })

-- number too large: in a type, or the length of an array
abbrev pub IsDeclaredLarge : Item → ℕ → Type 0
IsDeclaredLarge item at = Contains (declared_numbers item.form) (record { at = at; num = nums.Large })

-- the domain of an integer variable has these numbers
abbrev pub IsDomain : Form → ℕ → List ℤ → Type 0
IsDomain (forms.Variable t ident anns e) at numbers =
    (literal : SetForm) × (t.form ≡ types.Within literal) × (elements_of literal ≡ Some numbers) × (at ≡ t.at)
IsDomain _ at numbers = ⊥

-- the universe of a set variable has these elements
abbrev pub IsUniverse : Form → ℕ → List ℤ → Type 0
IsUniverse (forms.Variable t ident anns e) at elements =
    (literal : SetForm) × (t.form ≡ types.SetWithin literal) × (elements_of literal ≡ Some elements) × (at ≡ t.at)
IsUniverse _ at elements = ⊥

-- empty domain: an integer variable has no value
abbrev pub IsEmptyDomain : Item → ℕ → Type 0
IsEmptyDomain item at = IsDomain item.form at []

-- integer too wide: its greatest value is too far above its least
abbrev pub IsWideDomain : Item → ℕ → Type 0
IsWideDomain item at = (numbers : List ℤ) × IsDomain item.form at numbers × (span_limit < span numbers)

-- set too wide: a universe has too many elements
abbrev pub IsWideUniverse : Item → ℕ → Type 0
IsWideUniverse item at = (elements : List ℤ) × IsUniverse item.form at elements × (universe_limit < length elements)

-- element out of range: of a universe
abbrev pub HasLargeUniverse : Item → ℕ → Type 0
HasLargeUniverse item at = (elements : List ℤ) × IsUniverse item.form at elements × Any IsLargeElement elements

abbrev pub IsVariableAt : Form → ℕ → Type 0
IsVariableAt (forms.Variable t ident anns e) at = at ≡ ident.at
IsVariableAt _ at = ⊥

-- too many bits, up to this variable
pub record AreTooManyBits (before : List Item) (item : Item) (at : ℕ) : Type 0 where
  pub kinds : List Kind
  pub known : kinds_of (up_to before item) ≡ Some kinds
  pub many : HaveTooManyBits kinds
  pub place : IsVariableAt item.form at

-- bad output annotation: the first output annotation of a scalar variable or of an array of variables does not show it
abbrev pub IsBadOutput : Form → ℕ → Type 0
IsBadOutput (forms.Variable t ident anns e) at =
    (a : Annotation) × (output_in anns ≡ Some a) × (shows_scalar a ≡ false) × (at ≡ a.at)
IsBadOutput (forms.Array len true t ident anns items_at items) at =
    (a : Annotation) × (output_in anns ≡ Some a) × (dims_shown (length items) a ≡ None) × (at ≡ a.at)
IsBadOutput _ at = ⊥

-- the faults whose place is in a declaration, before its expression
abbrev pub InDeclaration : List Item → Item → ModelFault → Type 0
InDeclaration before item (faults.DeclaredTwice at) = IsDeclaredTwice before item at
InDeclaration before item (faults.WrongCount at) = IsWrongLength item.form at
InDeclaration before item (faults.Unbounded at) = IsUnbounded item.form at
InDeclaration before item (faults.Float at) = IsDeclaredFloat item at
InDeclaration before item (faults.NumberTooLarge at) = IsDeclaredLarge item at
InDeclaration before item (faults.EmptyDomain at) = IsEmptyDomain item at
InDeclaration before item (faults.IntTooWide at) = IsWideDomain item at
InDeclaration before item (faults.SetTooWide at) = IsWideUniverse item at
InDeclaration before item (faults.ElementRange at) = HasLargeUniverse item at
InDeclaration before item (faults.TooManyBits at) = AreTooManyBits before item at
InDeclaration before item (faults.BadOutput at) = IsBadOutput item.form at
InDeclaration before item _ = ⊥

-- ---- rules on constraints

-- unknown constraint: no relation has its name
abbrev pub IsUnknown : Form → ℕ → Type 0
IsUnknown (forms.Constraint ident es anns) at = (at ≡ ident.at) × (named ident.name ≡ None)
IsUnknown _ at = ⊥

-- wrong count: a relation of this name has another number of arguments
abbrev pub HasWrongCount : Form → ℕ → Type 0
HasWrongCount (forms.Constraint ident es anns) at =
    (at ≡ ident.at) × IsSome (named ident.name) × (length es ≢ length (shapes_named ident.name))
HasWrongCount _ at = ⊥

-- the constraint of a constraint item behind others
abbrev pub IsConstraintAfter : List Item → Form → ℕ → Constraint → Type 0
IsConstraintAfter before (forms.Constraint ident es anns) at c =
    (at ≡ ident.at) × (constraint_named (naming_after before) ident.name es ≡ Some c)
IsConstraintAfter before _ at c = ⊥

-- wrong count: the two lists of a linear constraint differ in length
pub record AreUnpaired (before : List Item) (item : Item) (at : ℕ) : Type 0 where
  pub good : HasGoodArguments before item
  pub constraint : Constraint
  pub is : IsConstraintAfter before item.form at constraint
  pub linear : IsTrue (row_of constraint.relation).paired
  pub unpaired : ArePaired constraint.args → ⊥

-- the bits of one of these variables
abbrev pub bits_at : List Kind → VarId → ℕ
bits_at kinds v = sum_by width_of (option_to_list (slice_get kinds v.0))

-- scope too wide
pub record HasWideScope (before : List Item) (item : Item) (at : ℕ) : Type 0 where
  pub good : HasGoodArguments before item
  pub constraint : Constraint
  pub is : IsConstraintAfter before item.form at constraint
  pub scope : List VarId
  pub scoped : IsScope constraint scope
  pub kinds : List Kind
  pub known : kinds_of before ≡ Some kinds
  pub wide : scope_limit < sum_by (bits_at kinds) scope

-- the name of a constraint, or of a variable that is given a value
abbrev pub IsConstraintAt : Form → ℕ → Type 0
IsConstraintAt (forms.Constraint ident es anns) at = at ≡ ident.at
IsConstraintAt (forms.Variable t ident anns (Some e)) at = at ≡ ident.at
IsConstraintAt _ at = ⊥

-- too many constraints, up to this one
abbrev pub AreTooMany : List Item → Item → Type 0
AreTooMany before item = constraint_limit < count_by (λ other. adds_constraint other.form) (up_to before item)

-- too many constraints: too many terms in all, up to this one
pub record HaveTooManyTerms (before : List Item) (item : Item) : Type 0 where
  pub good : HasGoodArguments before item
  pub many : term_limit < sum_after terms_after [] (up_to before item)

abbrev pub IsPastConstraints : List Item → Item → ℕ → Type 0
IsPastConstraints before item at = IsConstraintAt item.form at × (AreTooMany before item ⊎ HaveTooManyTerms before item)

-- the faults whose place is the name of a constraint, or of a variable that is given a value
abbrev pub InConstraint : List Item → Item → ModelFault → Type 0
InConstraint before item (faults.UnknownConstraint at) = IsUnknown item.form at
InConstraint before item (faults.WrongCount at) = HasWrongCount item.form at ⊎ AreUnpaired before item at
InConstraint before item (faults.ScopeTooWide at) = HasWideScope before item at
InConstraint before item (faults.TooManyConstraints at) = IsPastConstraints before item at
InConstraint before item _ = ⊥

-- ---- rules on the objective

abbrev pub IsObjective : Form → Expr → Type 0
IsObjective (forms.Solve anns goal) e = objective_in goal ≡ Some e
IsObjective _ e = ⊥

abbrev pub IsIntegerPart : Naming → Expr → Type 0
IsIntegerPart naming (exprs.One b) = Suits naming (OneOf Integer) b.form
IsIntegerPart naming (exprs.List at items) = ⊥

-- objective is not an integer: it is neither an integer variable nor an integer constant
pub record IsNoInteger (before : List Item) (item : Item) (at : ℕ) : Type 0 where
  pub expression : Expr
  pub objective : IsObjective item.form expression
  pub none : IsIntegerPart (naming_after before) expression → ⊥
  pub place : at ≡ place_of expression

-- too many bits, up to the unnamed variable of a constant objective
pub record AreTooManyWithObjective (before : List Item) (item : Item) (at : ℕ) : Type 0 where
  pub expression : Expr
  pub objective : IsObjective item.form expression
  pub number : ℤ
  pub constant : arg_of (naming_after before) expression ≡ Some (One (Const (value.Int number)))
  pub kinds : List Kind
  pub known : kinds_of before ≡ Some kinds
  pub many : HaveTooManyBits (kinds ++ kind.Int (number ∷ []) ∷ [])
  pub place : at ≡ place_of expression

abbrev pub InObjective : List Item → Item → ModelFault → Type 0
InObjective before item (faults.TooManyBits at) = AreTooManyWithObjective before item at
InObjective before item (faults.ObjectiveNotInt at) = IsNoInteger before item at
InObjective before item _ = ⊥

-- ---- the faults of a tree

-- the faults of an item behind others
abbrev pub IsFaultAfter : List Item → Item → ModelFault → Type 0
IsFaultAfter before item fault =
    InExpressions before item fault ⊎ InDeclaration before item fault ⊎ InConstraint before item fault ⊎ InObjective before item fault

-- some item of the tree has the fault
pub record HasFault (tree : Tree) (fault : ModelFault) : Type 0 where
  pub before : List Item
  pub item : Item
  pub behind : List Item
  pub split : tree.items ≡ before ++ item ∷ behind
  pub faulty : IsFaultAfter before item fault

abbrev pub HasNoFault : Tree → Type 0
HasNoFault tree = (fault : ModelFault) → HasFault tree fault → ⊥

-- how faults at one place are told, the least number first
abbrev pub number_of : ModelFault → ℕ
number_of (faults.Undeclared at) = 1
number_of (faults.DeclaredTwice at) = 2
number_of (faults.WrongType at) = 3
number_of (faults.UnknownConstraint at) = 4
number_of (faults.WrongCount at) = 5
number_of (faults.Unbounded at) = 6
number_of (faults.Float at) = 7
number_of (faults.NumberTooLarge at) = 8
number_of (faults.EmptyDomain at) = 9
number_of (faults.IntTooWide at) = 10
number_of (faults.SetTooWide at) = 11
number_of (faults.ElementRange at) = 12
number_of (faults.ScopeTooWide at) = 13
number_of (faults.TooManyBits at) = 14
number_of (faults.TooManyConstraints at) = 15
number_of (faults.BadOutput at) = 16
number_of (faults.ObjectiveNotInt at) = 17
number_of faults.Memory = 18

abbrev pub place_of_fault : ModelFault → ℕ
place_of_fault (faults.Undeclared at) = at
place_of_fault (faults.DeclaredTwice at) = at
place_of_fault (faults.WrongType at) = at
place_of_fault (faults.UnknownConstraint at) = at
place_of_fault (faults.WrongCount at) = at
place_of_fault (faults.Unbounded at) = at
place_of_fault (faults.Float at) = at
place_of_fault (faults.NumberTooLarge at) = at
place_of_fault (faults.EmptyDomain at) = at
place_of_fault (faults.IntTooWide at) = at
place_of_fault (faults.SetTooWide at) = at
place_of_fault (faults.ElementRange at) = at
place_of_fault (faults.ScopeTooWide at) = at
place_of_fault (faults.TooManyBits at) = at
place_of_fault (faults.TooManyConstraints at) = at
place_of_fault (faults.BadOutput at) = at
place_of_fault (faults.ObjectiveNotInt at) = at
place_of_fault faults.Memory = 0

-- the one fault is told before the other: its place is less, or at one place its number is not greater
abbrev pub IsToldBefore : ModelFault → ModelFault → Type 0
IsToldBefore f g =
    (place_of_fault f < place_of_fault g) ⊎ ((place_of_fault f ≡ place_of_fault g) × (number_of f ≤ number_of g))

-- the fault of the tree that is told. Want of memory is no fault of a tree
pub record IsFirstFault (tree : Tree) (fault : ModelFault) : Type 0 where
  pub has : HasFault tree fault
  pub first : (other : ModelFault) → HasFault tree other → IsToldBefore fault other
