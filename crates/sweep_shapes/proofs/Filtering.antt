-- The values of a variable that are in its side.
use Rattle.std.proofs.Common.{◌≡◌, ◌↔◌, ℕ, ◌+◌, ◌<◌, ◌≤◌, Bool, true, false, List, [], ◌∷◌, ◌++◌, length, take, get_or, Contains, Some, refl, sym, ap, ◌∙◌, subst, inl, inr}
use Rattle.std.specs.Prelude.{slice_get, IsSomeAnd}
use Rattle.std.proofs.lemmas.List.{take_more, take_all}
use Rattle.std.proofs.lemmas.List.Elements.{Contains-push, Contains-push_cases, Contains-append_left}
use Rattle.set_meaning.specs.declared.kinds.Kind.{Kind}
use Rattle.set_meaning.specs.declared.kinds.Value.{Value}
use Rattle.set_meaning.specs.Kinds.{InKind, initial_values}
use Rattle.log_rules.specs.declared.nodes.Node.{Node}
use Rattle.log_rules.specs.Boxes.{Sides, side_of}
use Rattle.bit_layout.proofs.Rising.{nothing_in_empty}
use Rattle.sweep_shapes.specs.Trials.{IsAllowed}

-- the values are those of the others that pass a test
pub record IsFiltered (test : Value → Bool) (others values : List Value) : Type 0 where
  pub each : (x : Value) → Contains values x ↔ (Contains others x × (test x ≡ true))

pub filtered_none : (test : Value → Bool) → IsFiltered test [] []
filtered_none test = record { each = λ x. (λ h. absurd (nothing_in_empty x h), λ h. h.0) }

taken_more : (test : Value → Bool) (others values : List Value) (x : Value) → test x ≡ true → IsFiltered test others values → IsFiltered test (others ++ x ∷ []) (values ++ x ∷ [])
taken_more test others values x passes h = record {
  each = λ y. (
    λ there. elim (Contains-push_cases values x y there) [
      | inl before ↦ let o = (h.each y).0 before in (Contains-append_left others (x ∷ []) y o.0, o.1)
      | inr e ↦ let P : Value → Type 0 = λ z. Contains (others ++ x ∷ []) z × (test z ≡ true) in subst P e (Contains-push others x, passes)
    ],
    λ both. elim (Contains-push_cases others x y both.0) [
      | inl before ↦ Contains-append_left values (x ∷ []) y ((h.each y).1 (before, both.1))
      | inr e ↦ subst (Contains (values ++ x ∷ [])) e (Contains-push values x)
    ],
  );
}

left_more : (test : Value → Bool) (others values : List Value) (x : Value) → test x ≡ false → IsFiltered test others values → IsFiltered test (others ++ x ∷ []) values
left_more test others values x fails h = record {
  each = λ y. (
    λ there. let o = (h.each y).0 there in (Contains-append_left others (x ∷ []) y o.0, o.1),
    λ both. elim (Contains-push_cases others x y both.0) [
      | inl before ↦ (h.each y).1 (before, both.1)
      | inr e ↦ let clash : false ≡ true = sym fails ∙ ap test e ∙ both.1 in absurd (cc)
    ],
  );
}

pub filtered_turn : (test : Value → Bool) (others : List Value) (i : ℕ) (x : Value) (old new : List Value) → i < length others → x ≡ get_or others i x
    → (test x ≡ true → new ≡ old ++ x ∷ []) → (test x ≡ false → new ≡ old) → IsFiltered test (take i others) old → IsFiltered test (take (i + 1) others) new
filtered_turn test others i x old new within is taken left h =
    let e : take (i + 1) others ≡ take i others ++ x ∷ [] = take_more others i x within ∙ ap (λ y. take i others ++ y ∷ []) (sym is) in
    subst (λ ys. IsFiltered test ys new) (sym e) (each (test x) refl)
  where
    each : (v : Bool) → test x ≡ v → IsFiltered test (take i others ++ x ∷ []) new
    each true passes = subst (IsFiltered test (take i others ++ x ∷ [])) (sym (taken passes)) (taken_more test (take i others) old x passes h)
    each false fails = subst (IsFiltered test (take i others ++ x ∷ [])) (sym (left fails)) (left_more test (take i others) old x fails h)

pub filtered_all : (test : Value → Bool) (others others' : List Value) (i : ℕ) (values : List Value) → length others ≤ i → others ≡ others' → IsFiltered test (take i others) values
    → (x : Value) → Contains values x ↔ (Contains others' x × (test x ≡ true))
filtered_all test others others' i values all same h x =
    let whole = subst (λ ys. IsFiltered test ys values) same (subst (λ ys. IsFiltered test ys values) (take_all i others all) h) in
    whole.each x

-- the listed values are initial ones
pub initial_here : (layout_kinds kinds : List Kind) (v : ℕ) (k : Kind) (all : List Value) → layout_kinds ≡ kinds → slice_get kinds v ≡ Some k → ((x : Value) → InKind k x ↔ Contains (initial_values k) x)
    → all ≡ initial_values k → (x : Value) → Contains all x → IsSomeAnd (slice_get layout_kinds v) (λ k. InKind k x)
initial_here layout_kinds kinds v k all same is law listed x there =
    subst (λ ks. IsSomeAnd (slice_get ks v) (λ k. InKind k x)) (sym same) (subst (λ o. IsSomeAnd o (λ k. InKind k x)) (sym is) ((law x).1 (subst (λ ys. Contains ys x) listed there)))

pub allowed_values : (layout_kinds kinds : List Kind) (table : List Node) (sides : Sides) (v : ℕ) (k : Kind) (all values : List Value) → layout_kinds ≡ kinds → slice_get kinds v ≡ Some k
    → ((x : Value) → InKind k x ↔ Contains (initial_values k) x) → all ≡ initial_values k
    → ((x : Value) → Contains values x ↔ (Contains all x × (side_of layout_kinds table sides v x ≡ true))) → (x : Value) → Contains values x ↔ IsAllowed kinds table sides v x
allowed_values layout_kinds kinds table sides v k all values same is law listed chosen x =
    let moved = subst (λ ks. Contains values x ↔ (Contains all x × (side_of ks table sides v x ≡ true))) same (chosen x) in (
      λ h. let o = moved.0 h in (subst (λ o. IsSomeAnd o (λ k. InKind k x)) (sym is) ((law x).1 (subst (λ ys. Contains ys x) listed o.0)), o.1),
      λ h. moved.1 (subst (λ ys. Contains ys x) (sym listed) ((law x).0 (subst (λ o. IsSomeAnd o (λ k. InKind k x)) is h.0)), h.1),
    )

-- the first value of an element that is read as it stands
pub any_item : (xs ys : List Value) (i : ℕ) (x : Value) → xs ≡ ys → i < length xs → x ≡ get_or xs i x → Contains ys x
any_item xs ys i x same within is = subst (λ zs. Contains zs x) same (i, within, sym is)
