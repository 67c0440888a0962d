-- Lists: what is in a reversed one, and in the front of one.
use Rattle.std.proofs.Common.{◌≡◌, ℕ, zero, suc, ◌+◌, ◌-◌, ◌<◌, List, [], ◌∷◌, ◌++◌, ◌⊎◌, inl, inr, length, get_or, map, reverse, Some, refl, sym, ap, ◌∙◌, subst, arith, Contains}
use Rattle.std.specs.Prelude.{slice_get, All}
use Rattle.std.proofs.lemmas.List.{get_or-reverse, length-reverse, length-map, get_or-map, reverse-reverse}
use Rattle.std.proofs.lemmas.Option.{slice_get-get_or}

-- ---- reversed lists

pub all_reversed : {X : Type 0} (P : X → Type 0) (xs : List X) → All P xs → All P (reverse xs)
all_reversed P xs all k d within =
    let long = length-reverse xs in
    let below : k < length xs = omega (arith, long, within) in
    let back : length xs - 1 - k < length xs = omega (arith, below) in
    subst P (sym (get_or-reverse xs k d below)) (all (length xs - 1 - k) d back)

pub all_unreversed : {X : Type 0} (P : X → Type 0) (xs : List X) → All P (reverse xs) → All P xs
all_unreversed P xs all = subst (All P) (reverse-reverse xs) (all_reversed P (reverse xs) all)

pub in_reversed : {X : Type 0} (xs : List X) (x : X) → Contains (reverse xs) x → Contains xs x
in_reversed xs x (k, within, at) =
    let long = length-reverse xs in
    let below : k < length xs = omega (arith, long, within) in
    (length xs - 1 - k, omega (arith, below), sym (get_or-reverse xs k x below) ∙ at)

pub in_reverse : {X : Type 0} (xs : List X) (x : X) → Contains xs x → Contains (reverse xs) x
in_reverse xs x h = in_reversed (reverse xs) x (subst (λ ys. Contains ys x) (sym (reverse-reverse xs)) h)

-- ---- maps

pub in_map : {X Y : Type 0} (f : X → Y) (xs : List X) (x : X) → Contains xs x → Contains (map f xs) (f x)
in_map f xs x (k, within, at) =
    let long = length-map xs f in
    (k, omega (arith, long, within), get_or-map f xs k x (f x) within ∙ ap f at)

pub in_head : {X : Type 0} (x : X) (xs : List X) → Contains (x ∷ xs) x
in_head x xs = (0, omega arith, refl)

pub in_tail : {X : Type 0} (y : X) (xs : List X) (x : X) → Contains xs x → Contains (y ∷ xs) x
in_tail y xs x (k, within, at) = (suc k, omega (arith, within), at)

pub map_alike : {X Y : Type 0} (f g : X → Y) (xs : List X) → ((x : X) → Contains xs x → f x ≡ g x) → map f xs ≡ map g xs
map_alike f g [] same = refl
map_alike f g (x ∷ xs) same =
    ap (λ y. y ∷ map f xs) (same x (in_head x xs)) ∙ ap (λ ys. g x ∷ ys) (map_alike f g xs (λ y h. same y (in_tail x xs y h)))

-- ---- places

pub get_front : {X : Type 0} (xs ys : List X) (i : ℕ) → i < length xs → slice_get (xs ++ ys) i ≡ slice_get xs i
get_front [] ys i within = absurd (omega arith)
get_front (x ∷ xs) ys zero within = refl
get_front (x ∷ xs) ys (suc i) within = get_front xs ys i (omega (arith, within))

pub get_end : {X : Type 0} (xs : List X) (x : X) → slice_get (xs ++ x ∷ []) (length xs) ≡ Some x
get_end [] x = refl
get_end (y ∷ ys) x = get_end ys x

pub get_at : {X : Type 0} (xs : List X) (x : X) → (h : Contains xs x) → slice_get xs h.0 ≡ Some x
get_at xs x h = slice_get-get_or xs h.0 x h.1 ∙ ap Some h.2

pub some_at : {X : Type 0} (xs : List X) (i : ℕ) → i < length xs → (x : X) × (slice_get xs i ≡ Some x)
some_at [] i within = absurd (omega arith)
some_at (x ∷ xs) zero within = (x, refl)
some_at (x ∷ xs) (suc i) within = some_at xs i (omega (arith, within))

pub in_cons : {X : Type 0} (y : X) (ys : List X) (x : X) → Contains (y ∷ ys) x → (y ≡ x) ⊎ Contains ys x
in_cons y ys x (k, within, at) = by_place k within at
  where
    by_place : (k : ℕ) → k < length (y ∷ ys) → get_or (y ∷ ys) k x ≡ x → (y ≡ x) ⊎ Contains ys x
    by_place zero within at = inl at
    by_place (suc k) within at = inr (k, omega arith, at)

pub nothing_in : {X : Type 0} (x : X) → Contains [] x → ⊥
nothing_in x (k, within, at) = absurd (omega (arith, within))

same_some : {X : Type 0} (x y : X) → Some x ≡ Some y → x ≡ y
same_some x y same = cc

pub listed_at : {X : Type 0} (xs : List X) (i : ℕ) (x : X) → slice_get xs i ≡ Some x → Contains xs x
listed_at [] i x at = absurd (cc)
listed_at (y ∷ ys) zero x at = subst (Contains (y ∷ ys)) (same_some y x at) (in_head y ys)
listed_at (y ∷ ys) (suc i) x at = in_tail y ys x (listed_at ys i x at)
