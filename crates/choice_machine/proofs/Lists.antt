-- Lists that are read in pieces, and two lists item by item.
use Rattle.std.proofs.Common.{◌≡◌, ℕ, zero, suc, ◌+◌, ◌<◌, ◌≤◌, Bool, true, false, ◌&&◌, List, [], ◌∷◌, ◌++◌, Some, None, Option, length, get_or, take, refl, sym, ◌∙◌, ap, subst, arith}
use Rattle.std.specs.Prelude.{slice_get, All}
use Rattle.std.specs.List.{AllZip}
use Rattle.std.specs.Cmp.Lexicographic.{pointwise}
use Rattle.std.proofs.lemmas.Bool.{and_parts}
use Rattle.std.proofs.lemmas.List.{take_more}
use Rattle.std.proofs.lemmas.List.Elements.{All-nil, All-cons}

-- an item with a number, in a list that was appended to
pub slice_get-append : {X : Type 0} (xs ys : List X) (k : ℕ) (x : X) → slice_get xs k ≡ Some x → slice_get (xs ++ ys) k ≡ Some x
slice_get-append [] ys k x is = absurd (cc)
slice_get-append (y ∷ xs) ys zero x is = is
slice_get-append (y ∷ xs) ys (suc k) x is = slice_get-append xs ys k x is

pub slice_get-append_right : {X : Type 0} (xs ys : List X) (k : ℕ) → slice_get (xs ++ ys) (length xs + k) ≡ slice_get ys k
slice_get-append_right [] ys k = let e : 0 + k ≡ k = omega arith in ap (slice_get ys) e
slice_get-append_right (x ∷ xs) ys k =
    let e : suc (length xs) + k ≡ suc (length xs + k) = omega arith in
    ap (slice_get (x ∷ (xs ++ ys))) e ∙ slice_get-append_right xs ys k

-- a list of n + 1 items is one of n items, and a last one
pub last_of : {X : Type 0} (n : ℕ) (xs : List X) → length xs ≡ n + 1 → (front : List X) × (x : X) × (xs ≡ front ++ x ∷ []) × (length front ≡ n)
last_of n [] is = absurd (omega (arith, is))
last_of zero (x ∷ []) is = ([], x, refl, refl)
last_of (suc n) (x ∷ []) is = absurd (omega (arith, is))
last_of zero (x ∷ y ∷ xs) is = absurd (omega (arith, is))
last_of (suc n) (x ∷ y ∷ xs) is =
    let rest = last_of n (y ∷ xs) (omega (arith, is)) in
    (x ∷ rest.0, rest.1, ap (λ l. x ∷ l) rest.2, ap suc rest.3)

-- ---- two lists item by item

pub all_zip_push : {A B : Type 0} (R : A → B → Type 0) (xs : List A) (ys : List B) (x : A) (y : B) → AllZip R xs ys → R x y → AllZip R (xs ++ x ∷ []) (ys ++ y ∷ [])
all_zip_push R [] [] x y all here = (here, tt)
all_zip_push R [] (b ∷ ys) x y all here = absurd all
all_zip_push R (a ∷ xs) [] x y all here = absurd all
all_zip_push R (a ∷ xs) (b ∷ ys) x y all here = (all.0, all_zip_push R xs ys x y all.1 here)

pub all_zip_weaker : {A B : Type 0} (R S : A → B → Type 0) → ((x : A) (y : B) → R x y → S x y) → (xs : List A) (ys : List B) → AllZip R xs ys → AllZip S xs ys
all_zip_weaker R S f [] [] all = tt
all_zip_weaker R S f [] (b ∷ ys) all = absurd all
all_zip_weaker R S f (a ∷ xs) [] all = absurd all
all_zip_weaker R S f (a ∷ xs) (b ∷ ys) all = (f a b all.0, all_zip_weaker R S f xs ys all.1)

pub all_zip_long : {A B : Type 0} (R : A → B → Type 0) (xs : List A) (ys : List B) → AllZip R xs ys → length ys ≡ length xs
all_zip_long R [] [] all = refl
all_zip_long R [] (b ∷ ys) all = absurd all
all_zip_long R (a ∷ xs) [] all = absurd all
all_zip_long R (a ∷ xs) (b ∷ ys) all = ap suc (all_zip_long R xs ys all.1)

pub all_zip_at : {A B : Type 0} (R : A → B → Type 0) (xs : List A) (ys : List B) (k : ℕ) (x : A) → AllZip R xs ys → slice_get xs k ≡ Some x → (y : B) × (slice_get ys k ≡ Some y) × R x y
all_zip_at R [] ys k x all is = absurd (cc)
all_zip_at R (a ∷ xs) [] k x all is = absurd all
all_zip_at R (a ∷ xs) (b ∷ ys) zero x all is = let e : a ≡ x = (cc) in (b, refl, subst (λ z. R z b) e all.0)
all_zip_at R (a ∷ xs) (b ∷ ys) (suc k) x all is = all_zip_at R xs ys k x all.1 is

pub all_zip_right : {A B : Type 0} (R : A → B → Type 0) (P : B → Type 0) → ((x : A) (y : B) → R x y → P y) → (xs : List A) (ys : List B) → AllZip R xs ys → All P ys
all_zip_right R P f [] [] all = All-nil P
all_zip_right R P f [] (b ∷ ys) all = absurd all
all_zip_right R P f (a ∷ xs) [] all = absurd all
all_zip_right R P f (a ∷ xs) (b ∷ ys) all = All-cons P b ys (f a b all.0) (all_zip_right R P f xs ys all.1)

-- lists whose items compare as equal are one, where items that compare as equal are one
pub pointwise_true : {A : Type 0} (E : A → A → Bool) → ((a b : A) → E a b ≡ true → a ≡ b) → (xs ys : List A) → pointwise E xs ys ≡ true → xs ≡ ys
pointwise_true E same [] [] is = refl
pointwise_true E same [] (y ∷ ys) is = absurd (cc)
pointwise_true E same (x ∷ xs) [] is = absurd (cc)
pointwise_true E same (x ∷ xs) (y ∷ ys) is =
    let parts = and_parts (E x y) (pointwise E xs ys) is in
    λ i. same x y parts.0 i ∷ pointwise_true E same xs ys parts.1 i

-- what holds of each item holds of the one that was read
pub all_at : {X : Type 0} (P : X → Type 0) (xs : List X) (i : ℕ) (x : X) → i < length xs → x ≡ get_or xs i x → All P xs → P x
all_at P xs i x within is all = subst P (sym is) (all i x within)

-- one more item of a front
pub take_next : {X : Type 0} (xs : List X) (i : ℕ) (x : X) → i < length xs → x ≡ get_or xs i x → take (i + 1) xs ≡ take i xs ++ x ∷ []
take_next xs i x within is = take_more xs i x within ∙ ap (λ y. take i xs ++ y ∷ []) (sym is)
