-- Sets as lists of values, and families and boxes as lists of sets, one for each variable.
-- Source: this project's own.
use Rattle.std.specs.Prelude.{◌≡◌, ℕ, ◌<◌, ◌==◌, nat_lt, Bool, true, false, not, cond, ◌||◌, List, [], ◌∷◌, ◌++◌, length, slice_index_or}
use Rattle.std.specs.List.{filter}

-- the value is in the list
abbrev pub has : List ℕ → ℕ → Bool
has [] x = false
has (y ∷ ys) x = (x == y) || has ys x

-- the sets of the variables, in order; every value is in the set of a variable beyond the last
abbrev pub family : List (List ℕ) → ℕ → ℕ → Bool
family sets v x = cond (nat_lt v (length sets)) (has (slice_index_or sets v []) x) true

-- the list has `n` sets, and `f` says which
pub record IsTable (f : ℕ → List ℕ) (n : ℕ) (sets : List (List ℕ)) : Type 0 where
  pub long : length sets ≡ n
  pub at : (v : ℕ) → v < n → slice_index_or sets v [] ≡ f v

-- the values of both lists, those of the second that are in the first left out
abbrev pub united : List ℕ → List ℕ → List ℕ
united a b = a ++ filter (λ x. not (has a x)) b

-- the sides of a resolvent
abbrev pub resolved : List (List ℕ) → List (List ℕ) → ℕ → ℕ → List ℕ
resolved a b v u =
    cond (u == v) (united (slice_index_or a u []) (slice_index_or b u []))
    (filter (λ x. has (slice_index_or b u []) x) (slice_index_or a u []))
