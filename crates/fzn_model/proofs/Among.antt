-- Items of lists: of a list with a head, of what a function gives of each item, and what each item gives.
use Rattle.std.proofs.Common.{◌≡◌, ◌⊎◌, ℕ, List, [], ◌∷◌, ◌++◌, map, Option, Some, None, refl, sym, ap, subst, ◌∙◌, inl, inr, arith}
use Rattle.std.specs.Prelude.{Contains, All}
use Rattle.std.specs.List.{AllZip, flat_map}
use Rattle.std.proofs.lemmas.List.Elements.{All-nil, All-cons, Contains-get_or, Contains-append_left, Contains-append_right, Contains-append_cases, Contains-push_cases}
use Rattle.set_meaning.specs.Arguments.{cons_some}
use Rattle.fzn_model.specs.Lists.{each_of}

module _ {A : Type 0} where
  pub in_front : (x : A) (xs : List A) → Contains (x ∷ xs) x
  in_front x xs = Contains-get_or (x ∷ xs) 0 x (omega arith)

  pub in_rest : (x : A) (xs : List A) (y : A) → Contains xs y → Contains (x ∷ xs) y
  in_rest x xs y h = Contains-append_right (x ∷ []) xs y h

  pub in_empty : (y : A) → Contains [] y → ⊥
  in_empty y h = omega (arith, h.1)

  one_item : (x y : A) → Contains (x ∷ []) y → x ≡ y
  one_item x y h = elim (Contains-push_cases [] x y h) [ inl a ↦ absurd (in_empty y a) | inr e ↦ e ]

  pub front_or_rest : (x : A) (xs : List A) (y : A) → Contains (x ∷ xs) y → (x ≡ y) ⊎ Contains xs y
  front_or_rest x xs y h = elim (Contains-append_cases (x ∷ []) xs y h) [ inl a ↦ inl (one_item x y a) | inr b ↦ inr b ]

module _ {A B : Type 0} where
  pub in_flat_map : (f : A → List B) (xs : List A) (x : A) (y : B) → Contains xs x → Contains (f x) y → Contains (flat_map f xs) y
  in_flat_map f [] x y h g = absurd (in_empty x h)
  in_flat_map f (a ∷ xs) x y h g = elim (front_or_rest a xs x h) [
    | inl e ↦ Contains-append_left (f a) (flat_map f xs) y (subst (λ z. Contains (f z) y) (sym e) g)
    | inr t ↦ Contains-append_right (f a) (flat_map f xs) y (in_flat_map f xs x y t g)
  ]

  pub in_map : (f : A → B) (xs : List A) (x : A) → Contains xs x → Contains (map f xs) (f x)
  in_map f [] x h = absurd (in_empty x h)
  in_map f (a ∷ xs) x h = elim (front_or_rest a xs x h) [
    | inl e ↦ subst (λ z. Contains (f a ∷ map f xs) (f z)) e (in_front (f a) (map f xs))
    | inr t ↦ in_rest (f a) (map f xs) (f x) (in_map f xs x t)
  ]

  -- where each item gives something, all do
  pub each_gives : (f : A → Option B) (P : A → B → Type 0) (xs : List A)
      → ((x : A) → Contains xs x → (y : B) × (f x ≡ Some y) × P x y)
      → (ys : List B) × (each_of f xs ≡ Some ys) × AllZip P xs ys
  each_gives f P [] h = ([], refl, tt)
  each_gives f P (x ∷ xs) h =
      let a = h x (in_front x xs) in
      let r = each_gives f P xs (λ y c. h y (in_rest x xs y c)) in
      (a.0 ∷ r.0, (λ i. cons_some (a.1 i) (r.1 i)), (a.2, r.2))

  pub all_of_second : (P : B → Type 0) (xs : List A) (ys : List B) → AllZip (λ x y. P y) xs ys → All P ys
  all_of_second P [] [] h = All-nil P
  all_of_second P [] (y ∷ ys) h = absurd h
  all_of_second P (x ∷ xs) [] h = absurd h
  all_of_second P (x ∷ xs) (y ∷ ys) h = All-cons P y ys h.0 (all_of_second P xs ys h.1)

-- from members to `All`
pub all_from_members : {A : Type 0} (P : A → Type 0) (xs : List A) → ((x : A) → Contains xs x → P x) → All P xs
all_from_members P [] h = All-nil P
all_from_members P (x ∷ xs) h = All-cons P x xs (h x (in_front x xs)) (all_from_members P xs (λ y c. h y (in_rest x xs y c)))
