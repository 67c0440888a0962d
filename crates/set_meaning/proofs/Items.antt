-- The item at a place of a list that was read term by term.
use Rattle.std.proofs.Common.{◌≡◌, ◌↔◌, ℕ, zero, suc, ◌+◌, Bool, List, [], ◌∷◌, ℤ, pos, refl, sym, ap, ◌∙◌, subst, arith, add-one, IsTrue}
use Rattle.std.specs.Prelude.{Option, Some, None, slice_get, option_and_then, IsSome, All}
use Rattle.set_meaning.specs.declared.problems.Term.{Term}
use Rattle.set_meaning.specs.Arguments.{each_of, cons_some, OfThree}
use Rattle.set_meaning.specs.Elements.{IsItem}
use Rattle.set_meaning.proofs.Readings.{all_there}

-- what the term at a place stands for is the item at that place
item_at : {X : Type 0} (f : Term → Option X) (terms : List Term) (xs : List X) (i : ℕ) → each_of f terms ≡ Some xs
    → slice_get xs i ≡ option_and_then f (slice_get terms i)
item_at f [] [] i e = refl
item_at f [] (x ∷ xs) i e = cc
item_at f (t ∷ ts) xs i e = by_first (f t) (each_of f ts) refl refl (item_at f ts) xs i e
  where
    at_front : (x : _) (ys : List _) → Some x ≡ f t → ((j : ℕ) → slice_get ys j ≡ option_and_then f (slice_get ts j))
        → (i : ℕ) → slice_get (x ∷ ys) i ≡ option_and_then f (slice_get (t ∷ ts) i)
    at_front x ys is later zero = is
    at_front x ys is later (suc j) = later j

    by_first : (o : Option _) (rest : Option (List _)) → f t ≡ o → each_of f ts ≡ rest
        → ((ys : List _) (j : ℕ) → each_of f ts ≡ Some ys → slice_get ys j ≡ option_and_then f (slice_get ts j)) → (xs : List _) (i : ℕ)
        → cons_some (f t) (each_of f ts) ≡ Some xs → slice_get xs i ≡ option_and_then f (slice_get (t ∷ ts) i)
    by_first None rest is more later xs i e =
        let none : cons_some None (each_of f ts) ≡ Some xs = sym (ap (λ o. cons_some o (each_of f ts)) is) ∙ e in cc
    by_first (Some x) None is more later xs i e =
        let none : cons_some (Some x) None ≡ Some xs = sym (ap (λ o. cons_some o (each_of f ts)) is ∙ ap (cons_some (Some x)) more) ∙ e in cc
    by_first (Some x) (Some ys) is more later xs i e =
        let whole : Some (x ∷ ys) ≡ Some xs = sym (ap (λ o. cons_some o (each_of f ts)) is ∙ ap (cons_some (Some x)) more) ∙ e in
        let same : x ∷ ys ≡ xs = cc in
        subst (λ zs. slice_get zs i ≡ option_and_then f (slice_get (t ∷ ts) i)) same (at_front x ys (sym is) (λ j. later ys j more) i)

same_place : (place : ℤ) (j i : ℕ) → place ≡ pos (suc j) → place ≡ pos (i + 1) → i ≡ j
same_place place j i p q = let e : pos (suc j) ≡ pos (i + 1) = sym p ∙ q in let same : suc j ≡ i + 1 = cc in omega arith

pub is_there : {X : Type 0} (f : Term → Option X) (terms : List Term) (i : ℕ) (t : Term) (place : ℤ) (item : X) (r : Bool) → All (λ u. IsSome (f u)) terms
    → place ≡ pos (i + 1) → Some t ≡ slice_get terms i → IsTrue r ↔ (f t ≡ Some item) → IsTrue r ↔ OfThree IsItem (Some place) (each_of f terms) (Some item)
is_there {X} f terms i t place item r all counted at says =
    let read = all_there f terms all in
    let here : slice_get read.0 i ≡ f t = item_at f terms read.0 i read.1 ∙ ap (option_and_then f) (sym at) in
    let P : Option (List X) → Type 0 = λ o. IsTrue r ↔ OfThree IsItem (Some place) o (Some item) in
    let yes : IsTrue r → IsItem place read.0 item = λ h. record { index = i; counted = counted ∙ ap pos (add-one i); item = here ∙ says.0 h } in
    let no : IsItem place read.0 item → IsTrue r =
    λ h. says.1 (sym here ∙ ap (slice_get read.0) (same_place place h.index i h.counted counted) ∙ h.item) in
    subst P (sym read.1) (yes, no)

pub is_not_there : {X : Type 0} (f : Term → Option X) (terms : List Term) (i : ℕ) (place : ℤ) (item : X) → All (λ u. IsSome (f u)) terms
    → place ≡ pos (i + 1) → None ≡ slice_get terms i → OfThree IsItem (Some place) (each_of f terms) (Some item) → ⊥
is_not_there {X} f terms i place item all counted at h =
    let read = all_there f terms all in
    let P : Option (List X) → Type 0 = λ o. OfThree IsItem (Some place) o (Some item) in
    let there : IsItem place read.0 item = subst P read.1 h in
    let gone : slice_get read.0 i ≡ None = item_at f terms read.0 i read.1 ∙ ap (option_and_then f) (sym at) in
    let clash : Some item ≡ None = sym there.item ∙ ap (slice_get read.0) (sym (same_place place there.index i there.counted counted)) ∙ gone in
    cc
