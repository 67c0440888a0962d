-- Lists that ascend by a total order: what they contain, and that their members determine them.
use Rattle.std.proofs.Common.{◌≡◌, ℕ, zero, suc, ◌<◌, ◌⊎◌, List, [], ◌∷◌, length, get_or, refl, sym, ap, ◌∙◌, subst, inl, inr, arith, Contains}
use Rattle.std.specs.declared.cmp.Ordering.{Ordering}
use Rattle.std.specs.declared.cmp.Ordering.TheVariants.{Less, Equal, Greater}
use Rattle.std.specs.Ordering.{ordering_reverse}
use Rattle.std.specs.Cmp.{IsTotalOrder, tied_itself}
use Rattle.std.specs.List.Sorted.{IsStrictlySortedBy}
use Rattle.std.proofs.lemmas.List.Elements.{All-from_recursion, All-contains}
use Rattle.std.proofs.lemmas.Map.Keys.{sorted_head, sorted_tail}

pub nothing_in_empty : {X : Type 0} (x : X) → Contains [] x → ⊥
nothing_in_empty x h = let none : h.0 < 0 = h.1 in omega arith

in_cons_at : {X : Type 0} (y : X) (ys : List X) (x : X) (k : ℕ) → k < length (y ∷ ys) → get_or (y ∷ ys) k x ≡ x → (y ≡ x) ⊎ Contains ys x
in_cons_at y ys x zero within at = inl at
in_cons_at y ys x (suc k) within at = inr (k, omega arith, at)

pub in_cons : {X : Type 0} (y : X) (ys : List X) (x : X) → Contains (y ∷ ys) x → (y ≡ x) ⊎ Contains ys x
in_cons y ys x h = in_cons_at y ys x h.0 h.1 h.2

pub in_head : {X : Type 0} (y : X) (ys : List X) → Contains (y ∷ ys) y
in_head y ys = (0, omega arith, refl)

pub in_tail : {X : Type 0} (y : X) (ys : List X) (x : X) → Contains ys x → Contains (y ∷ ys) x
in_tail y ys x h = (suc h.0, let within : h.0 < length ys = h.1 in omega arith, h.2)

head_below : {X : Type 0} (cmp : X → X → Ordering) (y : X) (ys : List X) (x : X) → IsStrictlySortedBy cmp (y ∷ ys) → Contains ys x → cmp y x ≡ Less
head_below cmp y ys x up h = All-contains (λ z. cmp y z ≡ Less) ys x (All-from_recursion (λ z. cmp y z ≡ Less) ys (sorted_head cmp y ys up)) h

less_is_not_equal : (r : Ordering) → r ≡ Less → r ≡ Equal → ⊥
less_is_not_equal r p q = let e : Less ≡ Equal = sym p ∙ q in cc

-- the first element stands once
pub head_once : {X : Type 0} (cmp : X → X → Ordering) → IsTotalOrder cmp → (y : X) (ys : List X) → IsStrictlySortedBy cmp (y ∷ ys) → Contains ys y → ⊥
head_once cmp o y ys up h = less_is_not_equal (cmp y y) (head_below cmp y ys y up h) (tied_itself o y)

both_less : {X : Type 0} (cmp : X → X → Ordering) → IsTotalOrder cmp → (x y : X) → cmp x y ≡ Less → cmp y x ≡ Less → ⊥
both_less cmp o x y p q = let e : Less ≡ Greater = sym p ∙ o.antisymm x y ∙ ap ordering_reverse q in cc

same_head : {X : Type 0} (cmp : X → X → Ordering) → IsTotalOrder cmp → (x : X) (xs : List X) (y : X) (ys : List X) → IsStrictlySortedBy cmp (x ∷ xs) → IsStrictlySortedBy cmp (y ∷ ys)
    → Contains (y ∷ ys) x → Contains (x ∷ xs) y → x ≡ y
same_head cmp o x xs y ys p q h k =
    elim (in_cons y ys x h) [
      | inl e ↦ sym e
      | inr later ↦ elim (in_cons x xs y k) [
        | inl e ↦ e
        | inr after ↦ absurd (both_less cmp o x y (head_below cmp x xs y p after) (head_below cmp y ys x q later))
      ]
    ]

tail_within : {X : Type 0} (cmp : X → X → Ordering) → IsTotalOrder cmp → (x : X) (xs ys : List X) → IsStrictlySortedBy cmp (x ∷ xs) → ((z : X) → Contains (x ∷ xs) z → Contains (x ∷ ys) z)
    → (z : X) → Contains xs z → Contains ys z
tail_within cmp o x xs ys up all z h =
    elim (in_cons x ys z (all z (in_tail x xs z h))) [
      | inl e ↦ absurd (head_once cmp o x xs up (subst (Contains xs) (sym e) h))
      | inr later ↦ later
    ]

-- ascending lists with the same members are equal
pub same_members : {X : Type 0} (cmp : X → X → Ordering) → IsTotalOrder cmp → (xs ys : List X) → IsStrictlySortedBy cmp xs → IsStrictlySortedBy cmp ys
    → ((z : X) → Contains xs z → Contains ys z) → ((z : X) → Contains ys z → Contains xs z) → xs ≡ ys
same_members cmp o [] [] p q f g = refl
same_members cmp o [] (y ∷ ys) p q f g = absurd (nothing_in_empty y (g y (in_head y ys)))
same_members cmp o (x ∷ xs) [] p q f g = absurd (nothing_in_empty x (f x (in_head x xs)))
same_members {X} cmp o (x ∷ xs) (y ∷ ys) p q f g =
    let e : x ≡ y = same_head cmp o x xs y ys p q (f x (in_head x xs)) (g y (in_head y ys)) in
    let P : X → Type 0 = λ w. IsStrictlySortedBy cmp (w ∷ ys) → ((z : X) → Contains (x ∷ xs) z → Contains (w ∷ ys) z) → ((z : X) → Contains (w ∷ ys) z → Contains (x ∷ xs) z) → x ∷ xs ≡ w ∷ ys in
    subst P e (λ q f g. ap (λ zs. x ∷ zs)
    (same_members cmp o xs ys (sorted_tail cmp x xs p) (sorted_tail cmp x ys q) (tail_within cmp o x xs ys p f) (tail_within cmp o x ys xs q g))) q f g
