-- Lists of values that are tried for a constraint; words of this crate's private helpers.
use Rattle.std.specs.Prelude.{◌≡◌, ◌≢◌, ℕ, ◌<◌, true, List, [], ◌∷◌, ◌++◌, ◌⊎◌, length, slice_get, slice_set, IsSomeAnd, Contains, ⊤}
use Rattle.set_meaning.specs.declared.kinds.Kind.{Kind}
use Rattle.set_meaning.specs.declared.kinds.Value.{Value}
use Rattle.set_meaning.specs.declared.problems.VarId.{VarId}
use Rattle.set_meaning.specs.declared.problems.Constraint.{Constraint}
use Rattle.set_meaning.specs.Relations.{Holds}
use Rattle.log_rules.specs.declared.nodes.Node.{Node}
use Rattle.log_rules.specs.Boxes.{IsInitial, Sides, side_of}
use Rattle.sweep_shapes.specs.declared.choices.Choice.{Choice}

-- an initial value of the variable that is in its side
abbrev pub IsAllowed : List Kind → List Node → Sides → ℕ → Value → Type 0
IsAllowed kinds table sides v x = IsInitial kinds v x × (side_of kinds table sides v x ≡ true)

-- ---- choices

-- no choice is of this variable
abbrev pub Avoids : List Choice → ℕ → Type 0
Avoids [] v = ⊤
Avoids (choice ∷ choices) v = (choice.variable.0 ≢ v) × Avoids choices v

-- the choices are of different variables
abbrev pub AreApart : List Choice → Type 0
AreApart [] = ⊤
AreApart (choice ∷ choices) = Avoids choices choice.variable.0 × AreApart choices

-- the choices are of variables below this number
abbrev pub AreBelow : ℕ → List Choice → Type 0
AreBelow n [] = ⊤
AreBelow n (choice ∷ choices) = (choice.variable.0 < n) × AreBelow n choices

-- each variable of a choice has one of its values
abbrev pub AreChosen : List Choice → List Value → Type 0
AreChosen [] values = ⊤
AreChosen (choice ∷ choices) values = IsSomeAnd (slice_get values choice.variable.0) (Contains choice.values) × AreChosen choices values

-- values of the choices, and elsewhere those of the base
pub record IsChosen (base : List Value) (choices : List Choice) (values : List Value) : Type 0 where
  pub long : length values ≡ length base
  pub chosen : AreChosen choices values
  pub others : (k : ℕ) → Avoids choices k → slice_get values k ≡ slice_get base k

-- some such values satisfy the constraint
pub record SomeChosen (base : List Value) (choices : List Choice) (c : Constraint) : Type 0 where
  pub values : List Value
  pub is_chosen : IsChosen base choices values
  pub holds : Holds c values

-- the two lists are the same, but for variables of the choices
pub record AreSameBut (choices : List Choice) (old new : List Value) : Type 0 where
  pub long : length new ≡ length old
  pub others : (k : ℕ) → Avoids choices k → slice_get new k ≡ slice_get old k

-- one value was put in place, or the values became one choice more
abbrev pub Opens : List Value → List Choice → VarId → List Value → List Value → List Choice → Type 0
Opens base choices v own base' choices' =
    ((x : Value) × (own ≡ x ∷ []) × (base' ≡ slice_set base v.0 x) × (choices' ≡ choices))
    ⊎ ((base' ≡ base) × (choices' ≡ choices ++ record { variable = v; values = own } ∷ []))
