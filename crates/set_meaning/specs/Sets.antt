-- Sets of integers, written as ascending lists. This project's own; a set is what FlatZinc calls a set of int (MiniZinc
-- Handbook), and `lo..hi` is its range.
use Rattle.std.specs.Prelude.{◌≡◌, ◌↔◌, ◌⊎◌, ℕ, suc, zero, ◌+◌, ℤ, pos, ◌+ℤ◌, ◌-ℤ◌, ◌<ℤ◌, int_lt, unsigned_abs, cond, List, [], ◌∷◌, ◌++◌, map, Contains, ⊤}
use Rattle.std.specs.Ordering.{int_cmp, match_ordering}
use Rattle.std.specs.List.Sorted.{IsStrictlySortedBy}

-- each integer of the list is below those after it
abbrev pub IsAscending : List ℤ → Type 0
IsAscending xs = IsStrictlySortedBy int_cmp xs

-- x is an element of the set
unfoldable pub Has : List ℤ → ℤ → Type 0
Has set x = Contains set x

-- x is an element of a or of b
unfoldable pub EitherHas : List ℤ → List ℤ → ℤ → Type 0
EitherHas a b x = Has a x ⊎ Has b x

-- each element of a is in b
unfoldable pub IsSubset : List ℤ → List ℤ → Type 0
IsSubset a b = (x : ℤ) → Has a x → Has b x

-- c has what is in a or in b, and nothing else
unfoldable pub IsUnion : List ℤ → List ℤ → List ℤ → Type 0
IsUnion a b c = (x : ℤ) → Has c x ↔ EitherHas a b x

-- x is an element of a and of b
unfoldable pub BothHave : List ℤ → List ℤ → ℤ → Type 0
BothHave a b x = Has a x × Has b x

-- c has what is in a and in b, and nothing else
unfoldable pub IsIntersection : List ℤ → List ℤ → List ℤ → Type 0
IsIntersection a b c = (x : ℤ) → Has c x ↔ BothHave a b x

-- x is an element of a and not of b
unfoldable pub OnlyFirstHas : List ℤ → List ℤ → ℤ → Type 0
OnlyFirstHas a b x = Has a x × (¬ Has b x)

-- c has what is in a and not in b, and nothing else
unfoldable pub IsDifference : List ℤ → List ℤ → List ℤ → Type 0
IsDifference a b c = (x : ℤ) → Has c x ↔ OnlyFirstHas a b x

-- x is an element of just one of a and b
unfoldable pub JustOneHas : List ℤ → List ℤ → ℤ → Type 0
JustOneHas a b x = OnlyFirstHas a b x ⊎ OnlyFirstHas b a x

-- c has what is in just one of a and b, and nothing else
unfoldable pub IsSymmetricDifference : List ℤ → List ℤ → List ℤ → Type 0
IsSymmetricDifference a b c = (x : ℤ) → Has c x ↔ JustOneHas a b x

-- this project's own order of sets, lexicographic on their ascending lists: where they first differ a has the lesser
-- element, or a is a proper prefix of b
unfoldable pub IsBefore : List ℤ → List ℤ → Type 0
IsBefore [] [] = ⊥
IsBefore [] (y ∷ ys) = ⊤
IsBefore (x ∷ xs) [] = ⊥
IsBefore (x ∷ xs) (y ∷ ys) = (x <ℤ y) ⊎ ((x ≡ y) × IsBefore xs ys)

-- the set has just the listed integers
pub record IsSetOf (items set : List ℤ) : Type 0 where
  pub ascending : IsAscending set
  pub members : (x : ℤ) → Has set x ↔ Contains items x

-- the ascending list with x in its place, unless it is there
abbrev pub with_element : ℤ → List ℤ → List ℤ
with_element x [] = x ∷ []
with_element x (y ∷ ys) = match_ordering (int_cmp x y) (x ∷ y ∷ ys) (y ∷ ys) (y ∷ with_element x ys)

-- the listed integers, ascending, each once
abbrev pub ascending_set : List ℤ → List ℤ
ascending_set [] = []
ascending_set (x ∷ xs) = with_element x (ascending_set xs)

-- n integers, from x on
abbrev pub integers_from : ℤ → ℕ → List ℤ
integers_from x zero = []
integers_from x (suc n) = x ∷ integers_from (x +ℤ pos 1) n

-- how many integers there are from lo to hi
abbrev pub count_between : ℤ → ℤ → ℕ
count_between lo hi = cond (int_lt hi lo) 0 (unsigned_abs (hi -ℤ lo) + 1)

-- the integers from lo to hi, both included
abbrev pub integers_between : ℤ → ℤ → List ℤ
integers_between lo hi = integers_from lo (count_between lo hi)

-- all subsets of an ascending list: those with its first element before those without it
abbrev pub subsets : List ℤ → List (List ℤ)
subsets [] = [] ∷ []
subsets (x ∷ xs) = map (λ s. x ∷ s) (subsets xs) ++ subsets xs
