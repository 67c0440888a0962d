-- The measure by which the search ends: the sums of the sizes of the domains at the end of each level, filled up with a
-- greatest number, and read as one number.
-- Source: this project's own.
use Rattle.std.specs.Prelude.{ℕ, zero, suc, ◌+◌, ◌*◌, nat_le, Bool, cond, List, [], ◌∷◌}
use Rattle.search_rules.specs.Problem.{Problem}
use Rattle.search_rules.specs.Trail.{Entry, top, back}

-- how many items of the list are in the set
abbrev pub size_in : {X : Type 0} → (X → Bool) → List X → ℕ
size_in s [] = 0
size_in s (x ∷ xs) = cond (s x) (size_in s xs + 1) (size_in s xs)

-- the sum of the sizes of the sets of the first `n` variables
abbrev pub sum_to : {X : Type 0} → Problem X → (ℕ → X → Bool) → ℕ → ℕ
sum_to p f zero = 0
sum_to p f (suc n) = sum_to p f n + size_in (f n) (p.values n)

unfoldable pub total : {X : Type 0} → Problem X → (ℕ → X → Bool) → ℕ
total p f = sum_to p f p.variables

-- more than any sum
unfoldable pub fill : {X : Type 0} → Problem X → ℕ
fill p = total p p.initial + 1

-- the sum at the end of level `k`, or the greatest number where there is no such level
unfoldable pub digit : {X : Type 0} → Problem X → List (Entry X) → (ℕ → X → Bool) → ℕ → ℕ
digit p es f k = cond (nat_le k (top es)) (total p (back k es f)) (fill p)

-- `n` digits, the first one most significant, as a number to the base `b`
abbrev pub read : (ℕ → ℕ) → ℕ → ℕ → ℕ
read d b zero = 0
read d b (suc n) = read d b n * b + d n

unfoldable pub measure : {X : Type 0} → Problem X → List (Entry X) → (ℕ → X → Bool) → ℕ
measure p es f = read (digit p es f) (fill p + 1) (fill p)
