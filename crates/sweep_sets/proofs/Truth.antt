-- Truth values.
use Rattle.std.proofs.Common.{◌≡◌, ◌⊎◌, Bool, true, false, not, ◌||◌, ◌&&◌, refl, sym, ap, ◌∙◌, inl, inr}
use Rattle.std.specs.Prelude.{◌↔◌, IsTrue}
use Rattle.std.proofs.Math.Bool.{beq}

pub not_true : (b : Bool) → (b ≡ true → ⊥) → b ≡ false
not_true true h = absurd (h refl)
not_true false h = refl

-- truth values that compare as equal are one
pub beq-true : (a b : Bool) → beq a b ≡ true → a ≡ b
beq-true true true is = refl
beq-true true false is = sym is
beq-true false true is = is
beq-true false false is = refl

pub same_truth : (a b : Bool) → (a ≡ true → b ≡ true) → (b ≡ true → a ≡ true) → a ≡ b
same_truth true b f g = sym (f refl)
same_truth false true f g = g refl
same_truth false false f g = refl

pub beq_itself : (a : Bool) → beq a a ≡ true
beq_itself true = refl
beq_itself false = refl

pub beq_from : (a b : Bool) → a ≡ b → beq a b ≡ true
beq_from a b e = ap (λ x. beq x b) e ∙ beq_itself b

pub or_cases : (a b : Bool) → (a || b) ≡ true → (a ≡ true) ⊎ (b ≡ true)
or_cases true b h = inl refl
or_cases false b h = inr h

pub or_left : (a b : Bool) → a ≡ true → (a || b) ≡ true
or_left a b h = ap (λ x. x || b) h

pub or_right : (a b : Bool) → b ≡ true → (a || b) ≡ true
or_right true b h = refl
or_right false b h = h

pub and_from : (a b : Bool) → a ≡ true → b ≡ true → (a && b) ≡ true
and_from a b p q = ap (λ x. x && b) p ∙ q

pub not_from : (a : Bool) → (a ≡ true → ⊥) → not a ≡ true
not_from true h = absurd (h refl)
not_from false h = refl

pub not_so : (a : Bool) → not a ≡ true → a ≡ true → ⊥
not_so true h p = let e : false ≡ true = h in cc
not_so false h p = let e : false ≡ true = p in cc

pub differ_is : (a b : Bool) → not (beq a b) ≡ ((a && not b) || (b && not a))
differ_is true true = refl
differ_is true false = refl
differ_is false true = refl
differ_is false false = refl

-- an answer that is compared with what is wanted of a fact
pub as_wanted : (answer : Bool) (P : Type 0) → (answer ≡ true) ↔ P → ((beq answer true ≡ true) ↔ P) × ((beq answer false ≡ true) ↔ (P → ⊥))
as_wanted true P is = ((λ h. is.0 refl, λ h. refl), (λ h. absurd (let e : false ≡ true = h in cc), λ h. absurd (h (is.0 refl))))
as_wanted false P is = ((λ h. is.0 h, λ p. is.1 p), (λ h p. let e : false ≡ true = is.1 p in cc, λ h. refl))

pub not_is_false : (b : Bool) → IsTrue (not b) → b ≡ false
not_is_false true h = let e : false ≡ true = h in absurd (cc)
not_is_false false h = refl
