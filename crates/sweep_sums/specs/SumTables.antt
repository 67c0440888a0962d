-- The relations that are one linear sum: which coefficient each argument has, what is added, and how the sum compares with 0. That a clause
-- holds where the true ones of its first list and the false ones of its second are at least 1 together is the usual reading of a clause as a
-- pseudo-Boolean constraint (Een and Sorensson, JSAT 2006). Words of this crate's private helpers.
use Rattle.std.specs.Prelude.{◌≡◌, ◌+◌, ◌*◌, ◌≤◌, ◌^◌, ℤ, pos, negsuc, ◌+ℤ◌, ◌-ℤ◌, ◌*ℤ◌, unsigned_abs, if◌then◌else◌, List, [], ◌∷◌, ◌++◌, map, length}
use Rattle.std.specs.List.{flat_map}
use Rattle.set_meaning.specs.declared.kinds.Value.TheVariants as value
use Rattle.set_meaning.specs.declared.problems.Term.{Term}
use Rattle.set_meaning.specs.declared.problems.Term.TheVariants.{Const, Var}
use Rattle.set_meaning.specs.declared.problems.Arg.{Arg}
use Rattle.set_meaning.specs.declared.problems.Relation.{Relation}
use Rattle.set_meaning.specs.declared.problems.Relation.TheVariants.{IntEq, IntNe, IntLe, IntLt, IntLinEq, IntLinLe, IntLinNe, IntPlus, BoolEq, BoolLe, BoolLt, BoolNot, BoolClause, Bool2Int}
use Rattle.set_meaning.specs.Relations.{terms_of}
use Rattle.sweep_sums.specs.declared.comparison.Comparison.{Comparison}
use Rattle.sweep_sums.specs.declared.comparison.Comparison.TheVariants.{Equal, Different, AtMost}
use Rattle.sweep_sums.specs.declared.forms.LinearTerm.{LinearTerm}
use Rattle.sweep_sums.specs.declared.forms.LinearSum.{LinearSum}
use Rattle.sweep_sums.specs.declared.sums.adding.PartialSum.{PartialSum}

-- ---- sums of constants and variables

-- a coefficient times what a term counts
pub record Summand : Type 0 where
  pub coefficient : ℤ
  pub term : Term

-- the number that a constant counts as: 0 or 1 for a Boolean, an integer itself; a set is no number here, and counts 0, as a variable does
abbrev pub constant_of : Term → ℤ
constant_of (Const (value.Bool b)) = if b then pos 1 else pos 0
constant_of (Const (value.Int x)) = x
constant_of (Const (value.Set s)) = pos 0
constant_of (Var x) = pos 0

-- what the constants among the summands are together
abbrev pub constant_part : List Summand → ℤ
constant_part [] = pos 0
constant_part (s ∷ ss) = (s.coefficient *ℤ constant_of s.term) +ℤ constant_part ss

abbrev pub terms_with : ℤ → Term → List LinearTerm
terms_with coefficient (Const v) = []
terms_with coefficient (Var x) = record { coefficient = coefficient; variable = x } ∷ []

-- the variables among the summands
abbrev pub variable_part : List Summand → List LinearTerm
variable_part summands = flat_map (λ s. terms_with s.coefficient s.term) summands

-- ---- the arguments of relations as summands

abbrev pub times : ℤ → Term → Summand
times coefficient t = record { coefficient = coefficient; term = t }

-- every term of the argument, with this coefficient
abbrev pub each_times : ℤ → Arg → List Summand
each_times coefficient a = map (times coefficient) (terms_of a)

-- the two arguments, each times a coefficient
abbrev pub of_two : ℤ → ℤ → List Arg → List Summand
of_two c d (a ∷ b ∷ []) = each_times c a ++ each_times d b
of_two c d _ = []

-- the first two arguments, less the third
abbrev pub of_plus : List Arg → List Summand
of_plus (a ∷ b ∷ c ∷ []) = (each_times (pos 1) a ++ each_times (pos 1) b) ++ each_times (negsuc 0) c
of_plus _ = []

-- each term of the second list, with the constant of the first as its coefficient
abbrev pub products : List Term → List Term → List Summand
products (c ∷ cs) (x ∷ xs) = times (constant_of c) x ∷ products cs xs
products _ _ = []

-- the products of the first two arguments, less the third
abbrev pub of_linear : List Arg → List Summand
of_linear (cs ∷ xs ∷ k ∷ []) = products (terms_of cs) (terms_of xs) ++ each_times (negsuc 0) k
of_linear _ = []

-- 1, less the number of terms in the second argument
abbrev pub clause_offset : List Arg → ℤ
clause_offset (ps ∷ ns ∷ []) = pos 1 -ℤ pos (length (terms_of ns))
clause_offset _ = pos 0

-- ---- the table

abbrev pub summands_of : Relation → List Arg → List Summand
summands_of IntEq args = of_two (pos 1) (negsuc 0) args
summands_of IntNe args = of_two (pos 1) (negsuc 0) args
summands_of IntLe args = of_two (pos 1) (negsuc 0) args
summands_of IntLt args = of_two (pos 1) (negsuc 0) args
summands_of IntLinEq args = of_linear args
summands_of IntLinLe args = of_linear args
summands_of IntLinNe args = of_linear args
summands_of IntPlus args = of_plus args
summands_of BoolEq args = of_two (pos 1) (negsuc 0) args
summands_of BoolLe args = of_two (pos 1) (negsuc 0) args
summands_of BoolLt args = of_two (pos 1) (negsuc 0) args
summands_of BoolNot args = of_two (pos 1) (pos 1) args
summands_of BoolClause args = of_two (negsuc 0) (pos 1) args
summands_of Bool2Int args = of_two (pos 1) (negsuc 0) args
summands_of _ args = []

-- what is added to the summands
abbrev pub offset_of : Relation → List Arg → ℤ
offset_of IntLt args = pos 1
offset_of BoolLt args = pos 1
offset_of BoolNot args = negsuc 0
offset_of BoolClause args = clause_offset args
offset_of _ args = pos 0

abbrev pub comparison_of : Relation → Comparison
comparison_of IntNe = Different
comparison_of IntLinNe = Different
comparison_of IntLe = AtMost
comparison_of IntLt = AtMost
comparison_of IntLinLe = AtMost
comparison_of BoolLe = AtMost
comparison_of BoolLt = AtMost
comparison_of BoolClause = AtMost
comparison_of _ = Equal

-- ---- what the helpers make

-- the new sum has these summands more
pub record Adds (summands : List Summand) (old new : PartialSum) : Type 0 where
  pub terms : new.terms.items ≡ old.terms.items ++ variable_part summands
  pub constant : new.constant ≡ old.constant +ℤ constant_part summands
  pub size : unsigned_abs new.constant ≤ unsigned_abs old.constant + length summands * 1000000000000000000

-- the sum of the offset and the summands, compared so with 0
pub record IsSumOver (summands : List Summand) (offset : ℤ) (compared : Comparison) (s : LinearSum) : Type 0 where
  pub terms : s.terms ≡ variable_part summands
  pub constant : s.constant ≡ offset +ℤ constant_part summands
  pub comparison : s.comparison ≡ compared
  pub size : unsigned_abs s.constant ≤ 2 ^ 100
