-- Tests on truth values of facts.
use Rattle.std.proofs.Common.{◌↔◌, ◌⊎◌, Bool, true, false, refl, inl, inr, IsTrue}
use Rattle.std.specs.Prelude.{not}
use Rattle.std.specs.Bool.{beq}
use Rattle.set_meaning.proofs.Members.{never}

-- two tests agree just where their facts do
pub same_truth : (p q : Bool) (P Q : Type 0) → IsTrue p ↔ P → IsTrue q ↔ Q → IsTrue (beq p q) ↔ (P ↔ Q)
same_truth true true P Q f g = (λ _. (λ _. g.0 refl, λ _. f.0 refl), λ _. refl)
same_truth true false P Q f g = (λ h. absurd (never h), λ both. absurd (never (g.1 (both.0 (f.0 refl)))))
same_truth false true P Q f g = (λ h. absurd (never h), λ both. absurd (never (f.1 (both.1 (g.0 refl)))))
same_truth false false P Q f g = (λ _. (λ h. absurd (never (f.1 h)), λ h. absurd (never (g.1 h))), λ _. refl)

-- two tests differ just where one of their facts holds and the other fails
pub just_one : (p q : Bool) (P Q : Type 0) → IsTrue p ↔ P → IsTrue q ↔ Q → IsTrue (not (beq p q)) ↔ ((P × (¬ Q)) ⊎ (Q × (¬ P)))
just_one true true P Q f g =
    (λ h. absurd (never h), λ h. elim h [ inl one ↦ absurd (one.1 (g.0 refl)) | inr one ↦ absurd (one.1 (f.0 refl)) ])
just_one true false P Q f g = (λ _. inl (f.0 refl, λ h. never (g.1 h)), λ _. refl)
just_one false true P Q f g = (λ _. inr (g.0 refl, λ h. never (f.1 h)), λ _. refl)
just_one false false P Q f g =
    (λ h. absurd (never h), λ h. elim h [ inl one ↦ absurd (never (f.1 one.0)) | inr one ↦ absurd (never (g.1 one.0)) ])
