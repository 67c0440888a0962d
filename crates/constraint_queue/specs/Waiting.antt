-- The constraints that wait, as a list without an order, and the lists of readers. Words of private helpers.
use Rattle.std.specs.Prelude.{◌≡◌, ◌≢◌, ◌<◌, ◌≤◌, ◌^◌, ℕ, ◌==◌, ◌↔◌, ◌⊎◌, Bool, true, false, cond, Option, Some, List, [], length, Contains, slice_index_or, count_by}
use Rattle.set_meaning.specs.declared.problems.VarId.{VarId}
use Rattle.set_meaning.specs.declared.problems.ConId.{ConId}

-- the entries have each constraint with a flag once and no other, and there is room for one of each constraint
pub record AreWaiting {X : Type 0} (number : X → ℕ) (flags : List Bool) (entries : List X) (len room : ℕ) : Type 0 where
  pub once : (c : ℕ) → count_by (λ e. number e == c) entries ≡ cond (slice_index_or flags c false) 1 0
  pub many : len ≡ count_by (λ b. b) flags
  pub enough : length flags ≤ room

-- the list of a variable, of lists of constraints
abbrev pub list_of : List (List ConId) → VarId → List ConId
list_of readers v = slice_index_or readers v.0 []

-- the list of each variable has the first constraints, so many, whose scope it is in
abbrev pub AreReadersOf : ℕ → List (List VarId) → List (List ConId) → Type 0
AreReadersOf count scopes readers =
    (v : VarId) (c : ConId) → Contains (list_of readers v) c ↔ ((c.0 < count) × Contains (slice_index_or scopes c.0 []) v)

-- the list of each variable has the constraints whose scope it is in
abbrev pub AreReaders : List (List VarId) → List (List ConId) → Type 0
AreReaders scopes readers = AreReadersOf (length scopes) scopes readers

abbrev pub AreEmpty : List (List ConId) → Type 0
AreEmpty readers = (v : VarId) → list_of readers v ≡ []

-- the constraint has joined the lists of the variables
abbrev pub HaveJoined : ConId → List VarId → List (List ConId) → List (List ConId) → Type 0
HaveJoined c variables old new =
    (v : VarId) (d : ConId) → Contains (list_of new v) d ↔ (Contains (list_of old v) d ⊎ ((c ≡ d) × Contains variables v))

-- what holds of a queue's parts: a flag a constraint, and the lists of readers
pub record AreParts (scopes : List (List VarId)) (lists : List (List ConId)) (flags : List Bool) : Type 0 where
  pub few : length scopes < 2 ^ 32
  pub long : length flags ≡ length scopes
  pub readers : AreReaders scopes lists

-- the flags that are set are those that were set and those of the listed constraints, but the one that is named
abbrev pub HaveFlags : List ConId → Option ConId → List Bool → List Bool → Type 0
HaveFlags listed but old new =
    (c : ConId) → (slice_index_or new c.0 false ≡ true) ↔ ((slice_index_or old c.0 false ≡ true) ⊎ (Contains listed c × (but ≢ Some c)))
