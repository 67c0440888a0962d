-- A linear sum over a list of different variables: what each has before it. This project's own.
use Rattle.std.specs.Prelude.{ℕ, ◌==◌, ℤ, pos, ◌+ℤ◌, cond, List, [], ◌∷◌, map}
use Rattle.set_meaning.specs.declared.kinds.Value.{Value}
use Rattle.set_meaning.specs.declared.problems.VarId.{VarId}
use Rattle.sweep_sums.specs.declared.forms.LinearTerm.{LinearTerm}
use Rattle.sweep_sums.specs.Forms.{number_at}

-- the term's coefficient, where it is one of this variable
abbrev pub part_of : VarId → LinearTerm → ℤ
part_of v t = cond (t.variable.0 == v.0) t.coefficient (pos 0)

-- the coefficients of the variable's terms together
abbrev pub weight_of : VarId → List LinearTerm → ℤ
weight_of v [] = pos 0
weight_of v (t ∷ ts) = part_of v t +ℤ weight_of v ts

-- the weight of each of the variables
abbrev pub weights_of : List LinearTerm → List VarId → List ℤ
weights_of terms variables = map (λ v. weight_of v terms) variables

-- the numbers of the variables' values
abbrev pub numbers_at : List Value → List VarId → List ℤ
numbers_at values variables = map (number_at values) variables
