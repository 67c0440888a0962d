-- Words on plain lists. This project's own.
use Rattle.std.specs.Prelude.{ℕ, ◌+◌, List, [], ◌∷◌, ◌++◌, Option, Some, None, option_and_then}
use Rattle.std.specs.Option.{option_map}
use Rattle.set_meaning.specs.Arguments.{cons_some}

infixl 10 ◌>>=◌
abbrev pub ◌>>=◌ : {A B : Type 0} → Option A → (A → Option B) → Option B
o >>= f = option_and_then f o

-- what f gives for each item, in order, where it gives something for each
abbrev pub each_of : {A B : Type 0} → (A → Option B) → List A → Option (List B)
each_of f [] = Some []
each_of f (x ∷ xs) = cons_some (f x) (each_of f xs)

-- the two lists one after the other, where both are there
abbrev pub append_some : {A : Type 0} → Option (List A) → Option (List A) → Option (List A)
append_some (Some xs) (Some ys) = Some (xs ++ ys)
append_some _ _ = None

-- what f gives for each item with the items before it, in order, where it gives something for each
abbrev pub each_after : {A B : Type 0} → (List A → A → Option (List B)) → List A → List A → Option (List B)
each_after f before [] = Some []
each_after f before (x ∷ xs) = append_some (f before x) (each_after f (before ++ x ∷ []) xs)

-- the sum of what f gives for each item with the items before it
abbrev pub sum_after : {A : Type 0} → (List A → A → ℕ) → List A → List A → ℕ
sum_after f before [] = 0
sum_after f before (x ∷ xs) = f before x + sum_after f (before ++ x ∷ []) xs

-- these items, and behind them those of the rest, where they are known
abbrev pub behind : {A : Type 0} → List A → Option (List A) → Option (List A)
behind front rest = option_map (λ xs. front ++ xs) rest
