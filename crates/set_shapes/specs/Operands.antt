-- The two or three sets of a constraint, as terms. This project's own.
use Rattle.std.specs.Prelude.{Bool, false, ℤ, List, [], ◌∷◌, Contains, slice_get, filter_map, ◌==◌}
use Rattle.std.specs.Option.{option_map_or}
use Rattle.set_meaning.specs.declared.kinds.Kind.{Kind}
use Rattle.set_meaning.specs.declared.kinds.Kind.TheVariants as kind
use Rattle.set_meaning.specs.declared.kinds.Value.{Value}
use Rattle.set_meaning.specs.declared.kinds.Value.TheVariants as value
use Rattle.set_meaning.specs.declared.problems.VarId.{VarId}
use Rattle.set_meaning.specs.declared.problems.Term.{Term}
use Rattle.set_meaning.specs.declared.problems.Term.TheVariants.{Const, Var}
use Rattle.set_meaning.specs.declared.problems.Arg.{Arg}
use Rattle.set_meaning.specs.declared.problems.Arg.TheVariants.{One, Many}
use Rattle.set_meaning.specs.Relations.{variable_of}
use Rattle.bit_layout.specs.Words.{lists}
use Rattle.element_machine.specs.declared.marks.Marks.{Marks}
use Rattle.set_shapes.specs.declared.operands.Operands.{Operands}

-- the empty set, which stands where there is no third argument
abbrev pub nothing : Term
nothing = Const (value.Set [])

abbrev pub term_of : Arg → Term
term_of (One t) = t
term_of (Many ts) = nothing

abbrev pub operands_of : List Arg → Operands
operands_of (a ∷ b ∷ []) = record { first = term_of a; second = term_of b; third = nothing }
operands_of (a ∷ b ∷ c ∷ []) = record { first = term_of a; second = term_of b; third = term_of c }
operands_of _ = record { first = nothing; second = nothing; third = nothing }

abbrev pub variables_of : Operands → List VarId
variables_of o = filter_map variable_of (o.first ∷ o.second ∷ o.third ∷ [])

-- the elements that a set value, or a value of a set kind, may have
abbrev pub elements_of_value : Value → List ℤ
elements_of_value (value.Set s) = s
elements_of_value _ = []

abbrev pub universe_of_kind : Kind → List ℤ
universe_of_kind (kind.Set u) = u
universe_of_kind _ = []

abbrev pub universe_of : List Kind → Term → List ℤ
universe_of kinds (Const v) = elements_of_value v
universe_of kinds (Var x) = option_map_or universe_of_kind (slice_get kinds x.0) []

-- whether the term is a constant set that has x, and whether it is this variable
abbrev pub constant_has : Term → ℤ → Bool
constant_has (Const v) x = lists (elements_of_value v) x
constant_has (Var y) x = false

abbrev pub is_variable : Term → VarId → Bool
is_variable (Const v) x = false
is_variable (Var y) x = y.0 == x.0

abbrev pub constant_marks : Operands → ℤ → Marks
constant_marks o x = record { first = constant_has o.first x; second = constant_has o.second x; third = constant_has o.third x }

abbrev pub variable_marks : Operands → VarId → Marks
variable_marks o v = record { first = is_variable o.first v; second = is_variable o.second v; third = is_variable o.third v }

-- a term: a constant, or a variable of the scope
abbrev pub IsTermOf : List VarId → Term → Type 0
IsTermOf scope (Const v) = Unit {0}
IsTermOf scope (Var y) = Contains scope y
