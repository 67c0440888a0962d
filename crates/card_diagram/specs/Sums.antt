-- A cardinality as a linear sum; words of this crate's private helpers.
use Rattle.std.specs.Prelude.{ℕ, ◌≡◌, ℤ, pos, negsuc, ◌-ℤ◌, ◌&&◌, List, [], ◌∷◌, ◌++◌, length}
use Rattle.set_meaning.specs.declared.problems.Term.{Term}
use Rattle.set_meaning.specs.declared.problems.Term.TheVariants.{Const, Var}
use Rattle.set_meaning.specs.declared.problems.Arg.{Arg}
use Rattle.set_meaning.specs.declared.problems.Arg.TheVariants.{One, Many}
use Rattle.set_meaning.specs.declared.problems.Relation.TheVariants.{SetCard}
use Rattle.set_meaning.specs.Relations.{HoldsOf}
use Rattle.bit_layout.specs.Order.{LayoutState}
use Rattle.bit_machine.specs.Rules.{accepts, side_by_side}
use Rattle.scope_words.specs.Words.{variables_in, AreBitsOf, AreWordsOf}
use Rattle.table_machine.specs.Tables.{Tables, AreTables, rules}
use Rattle.linear_machine.specs.Sums.{LinearState}
use Rattle.linear_machine.specs.Steps.{rules_of}
use Rattle.linear_terms.specs.declared.terms.LinearTerm.{LinearTerm}
use Rattle.linear_terms.specs.Terms.{number_of}

-- what a variable adds to the terms of a sum
abbrev pub terms_of_term : ℤ → Term → List LinearTerm
terms_of_term coefficient (Const v) = []
terms_of_term coefficient (Var x) = record { coefficient = coefficient; variable = x } ∷ []

abbrev pub terms_of_arg : ℤ → Arg → List LinearTerm
terms_of_arg coefficient (One t) = terms_of_term coefficient t
terms_of_arg coefficient (Many ts) = []

-- the number that a constant counts as
abbrev pub constant_of_term : Term → ℤ
constant_of_term (Const v) = number_of v
constant_of_term (Var x) = pos 0

abbrev pub constant_of_arg : Arg → ℤ
constant_of_arg (One t) = constant_of_term t
constant_of_arg (Many ts) = pos 0

-- how many elements the first argument has, less the second: the terms of variables, and what the constants add up to
abbrev pub card_terms : List Arg → List LinearTerm
card_terms (a ∷ n ∷ []) = terms_of_arg (pos 1) a ++ terms_of_arg (negsuc 0) n
card_terms _ = []

abbrev pub card_constant : List Arg → ℤ
card_constant (a ∷ n ∷ []) = constant_of_arg a -ℤ constant_of_arg n
card_constant _ = pos 0

-- the machines of initial values and of the sum, side by side over the bits of the arguments' variables
pub record IsMachineOf (l : LayoutState) (args : List Arg) (bits : List ℕ) (initial : Tables) (sum : LinearState) : Type 0 where
  pub bits_are : AreBitsOf l (variables_in args) bits
  pub tables : AreTables initial
  pub readings_long : length initial.readings ≡ length bits
  pub weights_long : length sum.weights ≡ length bits
  pub words : AreWordsOf l (variables_in args) (HoldsOf SetCard args) (accepts (side_by_side ◌&&◌ (rules initial) (rules_of sum)) bits)
