-- Sets of states that are carried from bit to bit, while a second machine, a filter, says which bits may come. This project's own; it is
-- the subset construction (Rabin and Scott, 1959) read forward.
use Rattle.std.specs.Prelude.{◌≡◌, ℕ, ◌+◌, ◌⊎◌, Bool, true, false, List, ◌++◌, length, Contains}
use Rattle.sweep_rules.specs.Rules.{Rules, run}

-- P is true of each that the list contains
abbrev pub Each : {X : Type 0} → (X → Type 0) → List X → Type 0
Each {X} P xs = (x : X) → Contains xs x → P x

-- a state from which nothing is accepted
abbrev pub IsDead : {Q : Type 0} → Rules Q → Q → Type 0
IsDead rules q = (at : ℕ) (rest : List Bool) → rules.accept (run rules at q rest) ≡ false

-- rules that read from place `from` on, beside a filter that reads the same bits from its place 0 on
pub record Filtered (P Q : Type 0) : Type 0 where
  pub rules : Rules P
  pub from : ℕ
  pub filter : Rules Q

-- the states of both after the bit at the filter's place i
abbrev pub step_both : {P Q : Type 0} → Filtered P Q → ℕ → P × Q → Bool → P × Q
step_both f i s b = (f.rules.step (f.from + i) s.0 b, f.filter.step i s.1 b)

-- one of the two never accepts
abbrev pub IsDeadPair : {P Q : Type 0} → Filtered P Q → P × Q → Type 0
IsDeadPair f s = IsDead f.rules s.0 ⊎ IsDead f.filter s.1

-- the second list has the states to which a bit leads from those of the first, and none else; it may lack what never accepts
pub record LeadsTo {P Q : Type 0} (f : Filtered P Q) (i : ℕ) (states next : List (P × Q)) : Type 0 where
  pub only : (t : P × Q) → Contains {X = P × Q} next t → (s : P × Q) × (b : Bool) × Contains {X = P × Q} states s × (t ≡ step_both f i s b)
  pub every : (s : P × Q) (b : Bool) → Contains {X = P × Q} states s → Contains {X = P × Q} next (step_both f i s b) ⊎ IsDeadPair f (step_both f i s b)

-- some bits, so many, pass the filter from its place i on, and before the rest they lead to acceptance
pub record PassesOn {P Q : Type 0} (f : Filtered P Q) (i left : ℕ) (rest : List Bool) (s : P × Q) : Type 0 where
  pub word : List Bool
  pub long : length word ≡ left
  pub passes : f.filter.accept (run f.filter i s.1 word) ≡ true
  pub ends : f.rules.accept (run f.rules (f.from + i) s.0 (word ++ rest)) ≡ true

-- one of the states does so
pub record SomePassesOn {P Q : Type 0} (f : Filtered P Q) (i left : ℕ) (rest : List Bool) (states : List (P × Q)) : Type 0 where
  pub state : P × Q
  pub among : Contains {X = P × Q} states state
  pub on : PassesOn f i left rest state

-- one of the states accepts once the rest is read from place `at` on
pub record SomeEnds {P : Type 0} (rules : Rules P) (at : ℕ) (rest : List Bool) (states : List P) : Type 0 where
  pub state : P
  pub among : Contains states state
  pub ends : rules.accept (run rules at state rest) ≡ true

-- from one of the states, the filter being at its start, some bits pass it, and before the rest they lead to acceptance
pub record SomePasses {P Q : Type 0} (f : Filtered P Q) (count : ℕ) (rest : List Bool) (states : List P) : Type 0 where
  pub state : P
  pub among : Contains states state
  pub on : PassesOn f 0 count rest (state, f.filter.start)
