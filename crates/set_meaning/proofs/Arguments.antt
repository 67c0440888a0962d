-- Lists of arguments that are, or are not, as long as they must be.
use Rattle.std.proofs.Common.{◌≡◌, ◌<◌, ◌≤◌, List, [], ◌∷◌, length, get_or, arith}
use Rattle.set_meaning.specs.declared.problems.Arg.{Arg}

pub two_args : (args : List Arg) (a b : Arg) → 2 ≤ length args → length args < 3 → a ≡ get_or args 0 a → b ≡ get_or args 1 b → args ≡ a ∷ b ∷ []
two_args [] a b low high p q = absurd (omega arith)
two_args (x ∷ []) a b low high p q = absurd (omega arith)
two_args (x ∷ y ∷ []) a b low high p q = cc
two_args (x ∷ y ∷ z ∷ zs) a b low high p q = absurd (omega arith)

pub three_args : (args : List Arg) (a b c : Arg) → 3 ≤ length args → length args < 4 → a ≡ get_or args 0 a → b ≡ get_or args 1 b → c ≡ get_or args 2 c
    → args ≡ a ∷ b ∷ c ∷ []
three_args [] a b c low high p q r = absurd (omega arith)
three_args (x ∷ []) a b c low high p q r = absurd (omega arith)
three_args (x ∷ y ∷ []) a b c low high p q r = absurd (omega arith)
three_args (x ∷ y ∷ z ∷ []) a b c low high p q r = cc
three_args (x ∷ y ∷ z ∷ w ∷ ws) a b c low high p q r = absurd (omega arith)
