-- Lists that end in one more item.
use Rattle.std.proofs.Common.{◌≡◌, ℕ, zero, suc, ◌<◌, List, [], ◌∷◌, ◌++◌, length, Option, Some, None, refl, ap, ◌∙◌, subst, inl, inr, arith}
use Rattle.std.specs.Prelude.{◌⊎◌, slice_get, All, filter_map}
use Rattle.std.proofs.lemmas.List.Elements.{filter_map-append}
use Rattle.std.proofs.lemmas.Option.{get_or_from_slice_get, slice_get_within}
use Rattle.log_rules.specs.States.{with_some}

-- ---- items

pub nothing_at : {X : Type 0} (k : ℕ) (x : X) → slice_get {X = X} [] k ≡ Some x → ⊥
nothing_at k x is = absurd (cc)

pub front_at : {X : Type 0} (xs ys : List X) (k : ℕ) → k < length xs → slice_get (xs ++ ys) k ≡ slice_get xs k
front_at [] ys k within = absurd (let e : k < 0 = within in omega arith)
front_at (x ∷ xs) ys zero within = refl
front_at (x ∷ xs) ys (suc k) within = front_at xs ys k (let e : suc k < suc (length xs) = within in omega arith)

pub all_of : {X : Type 0} (P : X → Type 0) (xs : List X) (k : ℕ) (x : X) → All P xs → slice_get xs k ≡ Some x → P x
all_of P xs k x all is = subst P (get_or_from_slice_get xs k x x is) (all k x (slice_get_within xs k x is))

-- an item of a list with one more is one of the list, or that one
pub last_or_front : {X : Type 0} (xs : List X) (y : X) (k : ℕ) (x : X) → slice_get (xs ++ y ∷ []) k ≡ Some x → (slice_get xs k ≡ Some x) ⊎ (y ≡ x)
last_or_front [] y zero x is = inr (cc)
last_or_front [] y (suc k) x is = absurd (nothing_at k x is)
last_or_front (z ∷ zs) y zero x is = inl is
last_or_front (z ∷ zs) y (suc k) x is = last_or_front zs y k x is

-- ---- cuts

pub record Cut {X : Type 0} (xs : List X) (k : ℕ) (x : X) : Type 0 where
  pub before : List X
  pub after : List X
  pub whole : xs ≡ before ++ x ∷ after
  pub place : length before ≡ k

pub cut_at : {X : Type 0} (xs : List X) (k : ℕ) (x : X) → slice_get xs k ≡ Some x → Cut xs k x
cut_at [] k x is = absurd (nothing_at k x is)
cut_at (y ∷ ys) zero x is =
    let e : y ≡ x = (cc) in record { before = []; after = ys; whole = ap (λ z. z ∷ ys) e; place = refl }
cut_at (y ∷ ys) (suc k) x is =
    let r = cut_at ys k x is in record { before = y ∷ r.before; after = r.after; whole = ap (λ zs. y ∷ zs) r.whole; place = ap suc r.place }

abbrev first_of_list : {X : Type 0} → X → List X → X
first_of_list d [] = d
first_of_list d (x ∷ xs) = x

abbrev rest_of_list : {X : Type 0} → List X → List X
rest_of_list [] = []
rest_of_list (x ∷ xs) = xs

heads : {X : Type 0} (x y : X) (xs ys : List X) → x ∷ xs ≡ y ∷ ys → x ≡ y
heads x y xs ys e = ap (first_of_list x) e

tails : {X : Type 0} (x y : X) (xs ys : List X) → x ∷ xs ≡ y ∷ ys → xs ≡ ys
tails x y xs ys e = ap rest_of_list e

pub not_empty : {X : Type 0} (before after : List X) (y : X) → [] ≡ before ++ y ∷ after → ⊥
not_empty {X} [] after y e = absurd (cc)
not_empty {X} (b ∷ before) after y e = absurd (cc)

-- what a list with one more item is cut at is that item, or stands in the list
pub record IsCutBefore {X : Type 0} (xs before : List X) (y : X) : Type 0 where
  pub rest : List X
  pub whole : xs ≡ before ++ y ∷ rest

pub last_or_before : {X : Type 0} (xs : List X) (x : X) (before after : List X) (y : X) → xs ++ x ∷ [] ≡ before ++ y ∷ after
    → ((xs ≡ before) × (x ≡ y)) ⊎ IsCutBefore xs before y
last_or_before [] x [] after y e = inl (refl, heads x y [] after e)
last_or_before (z ∷ zs) x [] after y e = inr (record { rest = zs; whole = ap (λ h. h ∷ zs) (heads z y (zs ++ x ∷ []) after e) })
last_or_before [] x (b ∷ before) after y e = absurd (not_empty before after y (tails x b [] (before ++ y ∷ after) e))
last_or_before {X} (z ∷ zs) x (b ∷ before) after y e =
    let first = heads z b (zs ++ x ∷ []) (before ++ y ∷ after) e in
    elim (last_or_before zs x before after y (tails z b (zs ++ x ∷ []) (before ++ y ∷ after) e)) [
      | inl h ↦ inl ((λ i. first i ∷ h.0 i), h.1)
      | inr h ↦ inr (record { rest = h.rest; whole = λ i. first i ∷ h.whole i })
    ]

-- a list has no item, or a last one
pub record IsPushed {X : Type 0} (xs : List X) : Type 0 where
  pub before : List X
  pub last : X
  pub whole : xs ≡ before ++ last ∷ []

pub empty_or_pushed : {X : Type 0} (xs : List X) → (xs ≡ []) ⊎ IsPushed xs
empty_or_pushed [] = inl refl
empty_or_pushed {X} (x ∷ xs) = elim (empty_or_pushed xs) [
  | inl h ↦ inr (record { before = []; last = x; whole = ap (λ ys. x ∷ ys) h })
  | inr h ↦ inr (record { before = x ∷ h.before; last = h.last; whole = ap (λ ys. x ∷ ys) h.whole })
]

pub one_item : {X : Type 0} (x y : X) → x ∷ [] ≡ y ∷ [] → x ≡ y
one_item x y e = heads x y [] [] e

-- lists of one length with the same items
pub same_items : {X : Type 0} (xs ys : List X) → length xs ≡ length ys → ((k : ℕ) (x : X) → slice_get ys k ≡ Some x → slice_get xs k ≡ Some x) → xs ≡ ys
same_items [] [] long items = refl
same_items [] (y ∷ ys) long items = absurd (nothing_at 0 y (items 0 y refl))
same_items (x ∷ xs) [] long items = absurd (let e : suc (length xs) ≡ 0 = long in omega arith)
same_items (x ∷ xs) (y ∷ ys) long items =
    let first : x ≡ y = (let e : Some x ≡ Some y = items 0 y refl in cc) in
    let rest : xs ≡ ys = same_items xs ys (let e : suc (length xs) ≡ suc (length ys) = long in omega arith) (λ k z is. items (suc k) z is) in
    λ i. first i ∷ rest i

-- ---- what items give

one_given : {X Y : Type 0} (h : X → Option Y) (x : X) (ys : List Y) → ys ++ filter_map h (x ∷ []) ≡ with_some ys (h x)
one_given {X} {Y} h x ys = by (h x)
  where
    append_nothing : (zs : List Y) → zs ++ [] ≡ zs
    append_nothing [] = refl
    append_nothing (z ∷ zs) = ap (λ ws. z ∷ ws) (append_nothing zs)

    by : (o : Option Y) → ys ++ Rattle.std.specs.List.cons_option o [] ≡ with_some ys o
    by None = append_nothing ys
    by (Some y) = refl

pub given_by_one_more : {X Y : Type 0} (h : X → Option Y) (xs : List X) (x : X) → filter_map h (xs ++ x ∷ []) ≡ with_some (filter_map h xs) (h x)
given_by_one_more h xs x = filter_map-append h xs (x ∷ []) ∙ one_given h x (filter_map h xs)
