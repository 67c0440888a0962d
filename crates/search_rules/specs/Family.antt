-- Sets of values as tests, families that give each variable such a set, and assignments within them.
-- Source: this project's own words for the domains of Hawkins, Lagoon and Stuckey, JAIR 2005.
use Rattle.std.specs.Prelude.{◌≡◌, ℕ, ◌==◌, Bool, true, false, cond, not, ◌&&◌}

-- each value of `s` is in `t`
abbrev pub Lies : {X : Type 0} → (X → Bool) → (X → Bool) → Type 0
Lies {X} s t = (x : X) → s x ≡ true → t x ≡ true

-- some value of `s` is outside `t`
abbrev pub Leaves : {X : Type 0} → (X → Bool) → (X → Bool) → Type 0
Leaves {X} s t = (x : X) × (s x ≡ true) × (t x ≡ false)

-- some value of `s` is in `t`
abbrev pub Meets : {X : Type 0} → (X → Bool) → (X → Bool) → Type 0
Meets {X} s t = (x : X) × (s x ≡ true) × (t x ≡ true)

abbrev pub HasValue : {X : Type 0} → (X → Bool) → Type 0
HasValue {X} s = (x : X) × (s x ≡ true)

-- the values of `s` that are not in `t`
abbrev pub without : {X : Type 0} → (X → Bool) → (X → Bool) → X → Bool
without s t = λ x. s x && not (t x)

-- the family with the set `s` at `v`
abbrev pub put : {X : Type 0} → (ℕ → X → Bool) → ℕ → (X → Bool) → ℕ → X → Bool
put f v s = λ u. cond (u == v) s (f u)

-- An assignment takes each variable's value from the family. A box is a family too, its sides, and this says that the
-- assignment is in the box. A variable without a side has its whole initial set as its side.
abbrev pub IsWithin : {X : Type 0} → (ℕ → X → Bool) → (ℕ → X) → Type 0
IsWithin f a = (v : ℕ) → f v (a v) ≡ true

-- each set of `f` lies in that of `g`
abbrev pub AllLie : {X : Type 0} → (ℕ → X → Bool) → (ℕ → X → Bool) → Type 0
AllLie f g = (v : ℕ) → Lies (f v) (g v)

-- the assignment with the value `x` at `v`
abbrev pub assign : {X : Type 0} → (ℕ → X) → ℕ → X → ℕ → X
assign a v x = λ u. cond (u == v) x (a u)
