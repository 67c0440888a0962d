-- How the machine of a linear sum is kept: beside each weight the least and the greatest sum of the weights behind it.
use Rattle.std.specs.Prelude.{◌≡◌, ℕ, ◌^◌, ℤ, pos, neg_ℤ, ◌+ℤ◌, ◌<ℤ◌, List, [], ◌∷◌, map, drop, ⊤}
use Rattle.linear_machine.specs.declared.state.State.{State}
use Rattle.linear_machine.specs.declared.state.State.TheVariants.{Open, Settled}
use Rattle.linear_machine.specs.declared.linear.Place.{Place}
use Rattle.linear_machine.specs.declared.linear.Linear.TheInside.{Inside}
use Rattle.linear_machine.specs.Sums.{LinearState}
use Rattle.linear_machine.specs.Steps.{least_sum, greatest_sum, settle}

abbrev pub place_of : ℤ → List ℤ → Place
place_of x behind = record { weight = x; least_behind = least_sum behind; greatest_behind = greatest_sum behind }

abbrev pub places_of : List ℤ → List Place
places_of [] = []
places_of (x ∷ xs) = place_of x xs ∷ places_of xs

abbrev pub weights_of : List Place → List ℤ
weights_of places = map (λ p. p.weight) places

abbrev pub state : Inside → LinearState
state a = record { weights = weights_of a.places.items; constant = a.constant; comparison = a.comparison }

-- the least and the greatest sum that may come, where these weights are to come, are within 2 ^ 126
pub record StaySmall (rest : List ℤ) (sum : ℤ) : Type 0 where
  pub low : neg_ℤ (pos (2 ^ 126)) <ℤ (sum +ℤ least_sum rest)
  pub high : (sum +ℤ greatest_sum rest) <ℤ pos (2 ^ 126)

pub record IsKept (a : Inside) : Type 0 where
  pub places : a.places.items ≡ places_of (weights_of a.places.items)
  pub small : StaySmall (weights_of a.places.items) a.constant
  pub start : a.start ≡ settle a.comparison (weights_of a.places.items) a.constant

-- no sum that may come from a state on leaves 128 bits
abbrev pub Occurs : LinearState → ℕ → State → Type 0
Occurs m at (Open sum) = StaySmall (drop at m.weights) sum
Occurs m at (Settled answer) = ⊤
