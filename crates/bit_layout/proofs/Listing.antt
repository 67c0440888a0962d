-- The places in file order, and lists that go side by side.
use Rattle.std.proofs.Common.{◌≡◌, ℕ, zero, suc, ◌+◌, ◌<◌, ◌≤◌, List, [], ◌∷◌, ◌++◌, length, get_or, take, Some, None, refl, sym, ap, ◌∙◌, subst, arith}
use Rattle.std.specs.Prelude.{slice_get, sum_by}
use Rattle.std.specs.List.{AllZip}
use Rattle.std.proofs.lemmas.List.FromFn.{length-map-range_with_len, get_or-map-range_with_len}
use Rattle.std.proofs.lemmas.List.Sums.{sum_by-cons, sum_by-le-sum_by, sum_by_more_le}
use Rattle.std.proofs.lemmas.List.{get_or_append_left, get_or-append-add, length-append, take_more}
use Rattle.std.proofs.lemmas.Option.{get_or_from_slice_get, slice_get_within}
use Rattle.set_meaning.specs.declared.kinds.Kind.{Kind}
use Rattle.bit_layout.specs.declared.places.Place.{Place}
use Rattle.bit_layout.specs.Words.{width_of}
use Rattle.bit_layout.specs.Limits.{counted_bits}
use Rattle.bit_layout.specs.Body.{place_of, places_of, starts_of}
use Rattle.bit_layout.proofs.Sorting.{all_places}

-- ---- two lists side by side

pub all_zip_long : {A B : Type 0} (R : A → B → Type 0) (xs : List A) (ys : List B) → AllZip R xs ys → length xs ≡ length ys
all_zip_long R [] [] h = refl
all_zip_long R [] (y ∷ ys) h = absurd h
all_zip_long R (x ∷ xs) [] h = absurd h
all_zip_long R (x ∷ xs) (y ∷ ys) h = let e : length xs ≡ length ys = all_zip_long R xs ys h.1 in omega (arith, e)

pub all_zip_at : {A B : Type 0} (R : A → B → Type 0) (xs : List A) (ys : List B) (i : ℕ) (d : A) (e : B) → AllZip R xs ys → i < length xs → R (get_or xs i d) (get_or ys i e)
all_zip_at R [] ys i d e h within = absurd (omega arith)
all_zip_at R (x ∷ xs) [] i d e h within = absurd h
all_zip_at R (x ∷ xs) (y ∷ ys) zero d e h within = h.0
all_zip_at R (x ∷ xs) (y ∷ ys) (suc i) d e h within = all_zip_at R xs ys i d e h.1 (omega arith)

pub all_zip_push : {A B : Type 0} (R : A → B → Type 0) (xs : List A) (ys : List B) (x : A) (y : B) → AllZip R xs ys → R x y → AllZip R (xs ++ x ∷ []) (ys ++ y ∷ [])
all_zip_push R [] [] x y h r = (r, tt)
all_zip_push R [] (z ∷ ys) x y h r = absurd h
all_zip_push R (z ∷ xs) [] x y h r = absurd h
all_zip_push R (a ∷ xs) (b ∷ ys) x y h r = (h.0, all_zip_push R xs ys x y h.1 r)

-- a step of a loop over the first list
pub all_zip_next : {A B : Type 0} (R : A → B → Type 0) (xs : List A) (ys zs : List B) (i : ℕ) (d : A) (y : B) → i < length xs → zs ≡ ys ++ y ∷ [] → AllZip R (take i xs) ys → R (get_or xs i d) y
    → AllZip R (take (i + 1) xs) zs
all_zip_next R xs ys zs i d y within pushed so_far r =
    let x = get_or xs i d in
    let e : take (i + 1) xs ≡ take i xs ++ x ∷ [] = take_more xs i d within in
    subst (λ bs. AllZip R (take (i + 1) xs) bs) (sym pushed) (subst (λ zs. AllZip R zs (ys ++ y ∷ [])) (sym e) (all_zip_push R (take i xs) ys x y so_far r))

-- ---- sizes

pub bits_of_kind : (k : Kind) → width_of k ≤ counted_bits k
bits_of_kind k = omega arith

pub sum_of_widths : (kinds : List Kind) → sum_by width_of kinds ≤ sum_by counted_bits kinds
sum_of_widths kinds = sum_by-le-sum_by width_of counted_bits kinds bits_of_kind

pub as_many_as_bits : (kinds : List Kind) → length kinds ≤ sum_by counted_bits kinds
as_many_as_bits [] = omega arith
as_many_as_bits (k ∷ ks) =
    let rest : length ks ≤ sum_by counted_bits ks = as_many_as_bits ks in
    let e : sum_by counted_bits (k ∷ ks) ≡ counted_bits k + sum_by counted_bits ks = sum_by-cons counted_bits k ks in
    let some : 1 ≤ counted_bits k = omega arith in
    omega (arith, rest, e, some)

pub length-all_places : (v : ℕ) (kinds : List Kind) → length (all_places v kinds) ≡ sum_by width_of kinds
length-all_places v [] = refl
length-all_places v (k ∷ ks) =
    let here : length (places_of v k) ≡ width_of k = length-map-range_with_len (place_of v k) 0 (width_of k) in
    let rest : length (all_places (v + 1) ks) ≡ sum_by width_of ks = length-all_places (v + 1) ks in
    let whole : length (places_of v k ++ all_places (v + 1) ks) ≡ length (places_of v k) + length (all_places (v + 1) ks) = length-append (places_of v k) (all_places (v + 1) ks) in
    let e : sum_by width_of (k ∷ ks) ≡ width_of k + sum_by width_of ks = sum_by-cons width_of k ks in
    omega (arith, here, rest, whole, e)

-- ---- where a place is listed in file order

pub listed_at : (w : ℕ) (kinds : List Kind) (v i : ℕ) (k : Kind) (d : Place) → slice_get kinds v ≡ Some k → i < width_of k
    → get_or (all_places w kinds) (sum_by width_of (take v kinds) + i) d ≡ place_of (w + v) k i
listed_at w [] v i k d e h = absurd (let f : None ≡ Some k = e in cc)
listed_at w (x ∷ xs) zero i k d e h =
    let same : x ≡ k = let f : Some x ≡ Some k = e in cc in
    let l : length (places_of w x) ≡ width_of x = length-map-range_with_len (place_of w x) 0 (width_of x) in
    let P : Kind → Type 0 = λ y. i < width_of y in
    let inside : i < width_of x = subst P (sym same) h in
    let at : 0 + i ≡ i = omega arith in
    let number : w ≡ w + 0 = omega arith in
    ap (λ m. get_or (places_of w x ++ all_places (w + 1) xs) m d) at
    ∙ get_or_append_left (places_of w x) (all_places (w + 1) xs) d i (omega (arith, l, inside))
    ∙ get_or-map-range_with_len (place_of w x) 0 (width_of x) i i d inside (omega arith)
    ∙ ap (λ y. place_of w y i) same ∙ ap (λ m. place_of m k i) number
listed_at w (x ∷ xs) (suc v) i k d e h =
    let l : length (places_of w x) ≡ width_of x = length-map-range_with_len (place_of w x) 0 (width_of x) in
    let s : sum_by width_of (x ∷ take v xs) ≡ width_of x + sum_by width_of (take v xs) = sum_by-cons width_of x (take v xs) in
    let at : sum_by width_of (x ∷ take v xs) + i ≡ length (places_of w x) + (sum_by width_of (take v xs) + i) = omega (arith, l, s) in
    let number : (w + 1) + v ≡ w + suc v = omega arith in
    ap (λ m. get_or (places_of w x ++ all_places (w + 1) xs) m d) at
    ∙ get_or-append-add (places_of w x) (all_places (w + 1) xs) (sum_by width_of (take v xs) + i) d
    ∙ listed_at (w + 1) xs v i k d e h ∙ ap (λ m. place_of m k i) number

pub start_within : (kinds : List Kind) (v i : ℕ) (k : Kind) → slice_get kinds v ≡ Some k → i < width_of k → sum_by width_of (take v kinds) + i < sum_by width_of kinds
start_within kinds v i k e h =
    let within : v < length kinds = slice_get_within kinds v k e in
    let at : get_or kinds v k ≡ k = get_or_from_slice_get kinds v k k e in
    let more : sum_by width_of (take v kinds) + width_of (get_or kinds v k) ≤ sum_by width_of kinds = sum_by_more_le width_of kinds v k within in
    let P : Kind → Type 0 = λ y. sum_by width_of (take v kinds) + width_of y ≤ sum_by width_of kinds in
    let all : sum_by width_of (take v kinds) + width_of k ≤ sum_by width_of kinds = subst P at more in
    omega (arith, all, h)

pub start_of : (kinds : List Kind) (v : ℕ) (d : ℕ) → v < length kinds → get_or (starts_of kinds) v d ≡ sum_by width_of (take v kinds)
start_of kinds v d h = get_or-map-range_with_len (λ u. sum_by width_of (take u kinds)) 0 (length kinds) v v d h (omega arith)
