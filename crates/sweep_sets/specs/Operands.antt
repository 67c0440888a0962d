-- The sets of a constraint, as constants and variables. This project's own.
use Rattle.std.specs.Prelude.{◌≡◌, ◌==◌, Bool, false, ℤ, List, []}
use Rattle.std.specs.Option.{option_map_or}
use Rattle.set_meaning.specs.declared.kinds.Value.{Value}
use Rattle.set_meaning.specs.declared.kinds.Value.TheVariants as value
use Rattle.set_meaning.specs.declared.problems.VarId.{VarId}
use Rattle.set_meaning.specs.declared.problems.Term.{Term}
use Rattle.set_meaning.specs.declared.problems.Term.TheVariants.{Const, Var}
use Rattle.set_meaning.specs.Relations.{variable_of}
use Rattle.bit_layout.specs.Words.{lists}
use Rattle.sweep_sets.specs.declared.marks.Marks.{Marks}
use Rattle.sweep_sets.specs.declared.operands.Operand.{Operand}
use Rattle.sweep_sets.specs.declared.operands.Operands.{Operands}

abbrev pub elements_of_value : Value → List ℤ
elements_of_value (value.Set s) = s
elements_of_value _ = []

-- the elements of a constant set
abbrev pub elements_of_term : Term → List ℤ
elements_of_term (Const v) = elements_of_value v
elements_of_term (Var x) = []

-- the operand has the elements of the term's constant, or is its variable
pub record IsOperand (o : Operand) (t : Term) : Type 0 where
  pub constant : o.constant.now ≡ elements_of_term t
  pub variable : o.variable ≡ variable_of t

-- whether the operand is this variable
abbrev pub is_variable : Operand → VarId → Bool
is_variable o v = option_map_or (λ own. own.0 == v.0) o.variable false

-- which operands are constants that have x, and which are this variable
abbrev pub constant_marks : Operands → ℤ → Marks
constant_marks o x = record {
  first = lists o.first.constant.now x;
  second = lists o.second.constant.now x;
  third = lists o.third.constant.now x;
}

abbrev pub variable_marks : Operands → VarId → Marks
variable_marks o v = record {
  first = is_variable o.first v;
  second = is_variable o.second v;
  third = is_variable o.third v;
}
