-- Lists that are the same, item by item.
use Rattle.std.proofs.Common.{◌≡◌, ◌↔◌, Bool, true, false, ℤ, List, [], ◌∷◌, length, refl, sym, ap, ◌∙◌, subst, arith, IsTrue}
use Rattle.std.specs.Ordering.{int_eq}
use Rattle.std.specs.Cmp.{signed_Decides}
use Rattle.std.specs.Cmp.Lexicographic.{pointwise, pointwise_decides}
use Rattle.set_meaning.specs.declared.kinds.Value.{Value}

pub same_sets : (r : Bool) (x y a b : List ℤ) → r ≡ pointwise int_eq x y → x ≡ a → y ≡ b → IsTrue r ↔ (a ≡ b)
same_sets r x y a b is p q =
    let P : List ℤ → List ℤ → Type 0 = λ s t. IsTrue r ↔ (s ≡ t) in
    let both = pointwise_decides signed_Decides x y in
    let here : P x y = (λ h. both.0 (sym is ∙ h), λ e. is ∙ both.1 e) in
    subst (λ s. P s b) p (subst (P x) q here)

abbrev first_or : Value → List Value → Value
first_or d [] = d
first_or d (x ∷ xs) = x

abbrev rest_or : List Value → List Value
rest_or [] = []
rest_or (x ∷ xs) = xs

-- what is left is the same just where the whole is
abbrev pub IsLeft : List Value → List Value → List Value → List Value → Type 0
IsLeft xs ys a b = (length a ≡ length b) × ((a ≡ b) ↔ (xs ≡ ys))

pub goes_on : (xs ys : List Value) (x y : Value) (a as_ b bs : List Value) → a ≡ x ∷ as_ → b ≡ y ∷ bs → x ≡ y → IsLeft xs ys a b → IsLeft xs ys as_ bs
goes_on xs ys x y a as_ b bs p q same left =
    let P : List Value → List Value → Type 0 = λ s t. IsLeft xs ys s t in
    let all : P (x ∷ as_) (y ∷ bs) = subst (λ s. P s (y ∷ bs)) p (subst (P a) q left) in
    let long : length (x ∷ as_) ≡ length (y ∷ bs) = all.0 in
    (omega arith, (λ rest. all.1.0 (λ i. same i ∷ rest i), λ whole. ap rest_or (all.1.1 whole)))

pub parts_here : (x y : Value) (a as_ b bs : List Value) → a ≡ x ∷ as_ → b ≡ y ∷ bs → (x ≡ y → ⊥) → a ≡ b → ⊥
parts_here x y a as_ b bs p q apart same = apart (ap (first_or x) (sym p ∙ same ∙ q))

pub nothing_left : (a b : List Value) → length a ≡ 0 → length b ≡ 0 → a ≡ b
nothing_left [] [] p q = refl
nothing_left [] (y ∷ ys) p q = absurd (omega arith)
nothing_left (x ∷ xs) b p q = absurd (omega arith)

pub never : IsTrue false → ⊥
never h = absurd (let e : false ≡ true = h in cc)
