-- What a variable counts against the limits on all variables, for the functions that count. No rule is defined here,
-- and nothing public cites it.
use Rattle.std.specs.Prelude.{◌≡◌, Option, Some, None}
use Rattle.set_meaning.specs.declared.kinds.Kind.{Kind}
use Rattle.bit_layout.specs.Limits.{counted_bits}
use Rattle.fzn_model.specs.declared.weights.Weight.{Weight}
use Rattle.fzn_model.specs.FaultsOf.{integer_values}

-- what a variable of the kind counts
pub record IsWeight (k : Kind) (w : Weight) : Type 0 where
  pub in_bits : w.bits ≡ counted_bits k
  pub in_values : w.values ≡ integer_values k

-- the weight is that of the kind, where it is known
abbrev pub HasWeight : Option Kind → Option Weight → Type 0
HasWeight known None = known ≡ None
HasWeight known (Some w) = (k : Kind) × (known ≡ Some k) × IsWeight k w
