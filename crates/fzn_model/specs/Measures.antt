-- A set literal that is made where it is not too wide. This project's own.
use Rattle.std.specs.Prelude.{◌≡◌, ℕ, ◌<◌, ◌≤◌, List, [], ◌∷◌, ◌++◌, length, Option, Some, None, ℤ}
use Rattle.std.specs.Option.{option_map, option_or}
use Rattle.fzn_parser.specs.declared.tree.Num.{Num}
use Rattle.fzn_parser.specs.declared.tree.Num.TheVariants as nums
use Rattle.fzn_parser.specs.declared.tree.Number.{Number}
use Rattle.fzn_model.specs.declared.faults.ModelFault.{ModelFault}
use Rattle.fzn_model.specs.declared.faults.ModelFault.TheVariants as faults
use Rattle.fzn_model.specs.declared.sets.Measure.{Measure}
use Rattle.fzn_model.specs.declared.sets.Measure.TheVariants.{Unknown, Wide, Set}
use Rattle.fzn_model.specs.Shared.{set_in}

-- there is a list, and it is longer than the limit
pub record IsLonger (known : Option (List ℤ)) (limit : ℕ) : Type 0 where
  pub elements : List ℤ
  pub is : known ≡ Some elements
  pub longer : limit < length elements

-- the list is there, and not longer than the limit
pub record IsShort (known : Option (List ℤ)) (limit : ℕ) (elements : List ℤ) : Type 0 where
  pub is : known ≡ Some elements
  pub short : length elements ≤ limit

-- the elements of a literal, where it has any that are known: too many of them, or all
abbrev pub IsMeasured : Option (List ℤ) → ℕ → Measure → Type 0
IsMeasured known limit Unknown = known ≡ None
IsMeasured known limit Wide = IsLonger known limit
IsMeasured known limit (Set set) = IsShort known limit (set_in set)

-- these integers, and behind them those of the rest, where they are known
abbrev pub with_front : List ℤ → Option (List ℤ) → Option (List ℤ)
with_front front rest = option_map (λ xs. front ++ xs) rest

-- a number that is a float or too large has a fault
abbrev pub fault_at : ℕ → Num → Option ModelFault
fault_at at (nums.Int x) = None
fault_at at nums.Large = Some (faults.NumberTooLarge at)
fault_at at nums.Float = Some (faults.Float at)

abbrev pub number_fault : Number → Option ModelFault
number_fault n = fault_at n.at n.num

-- the fault of the first number that has one
abbrev pub first_number_fault : List Number → Option ModelFault
first_number_fault [] = None
first_number_fault (n ∷ ns) = option_or (number_fault n) (first_number_fault ns)
