-- The first reason of a refused line is one.
use Rattle.std.proofs.Common.{◌≡◌, ℕ, ◌<◌, List, [], ◌∷◌, Option, Some, None, refl, sym, ap, ◌∙◌, subst, inl, inr, arith, get_or}
use Rattle.std.specs.Prelude.{◌⊎◌}
use Rattle.set_meaning.specs.declared.problems.Problem.{Problem}
use Rattle.log_text.specs.declared.line.Line.{Line}
use Rattle.log_text.specs.Spelling.{HasSpelling, spelling}
use Rattle.log_rules.specs.declared.reasons.Reason.{Reason}
use Rattle.log_rules.specs.declared.reasons.Reason.TheVariants as reason
use Rattle.log_rules.specs.Numbers.{turn_of}
use Rattle.log_rules.specs.States.{LogState}
use Rattle.log_rules.specs.Rules.{IsValidAfter, IsFirstReason, IsRefusedFor, Reads}

reasons : List Reason
reasons = reason.End ∷ reason.Form ∷ reason.Number ∷ reason.Children ∷ reason.Sides ∷ reason.Scope ∷ reason.Axiom ∷ reason.Boxes ∷ reason.Resolvent ∷ reason.Answer ∷ reason.AnswerBox ∷ reason.Close ∷ []

-- the reason of a turn
back : (r : Reason) → get_or reasons (turn_of r) reason.End ≡ r
unfolding reasons
back reason.Form = refl
back reason.Number = refl
back reason.Children = refl
back reason.Sides = refl
back reason.Scope = refl
back reason.Axiom = refl
back reason.Boxes = refl
back reason.Resolvent = refl
back reason.Answer = refl
back reason.AnswerBox = refl
back reason.Close = refl
back reason.End = refl

order : (m n : ℕ) → (m < n) ⊎ ((m ≡ n) ⊎ (n < m))
order m n = elim (Rattle.std.proofs.lemmas.Bool.Decides.eqb_tells m n) [
  | inl h ↦ inr (inl h.1)
  | inr h ↦ apart h.1
]
  where
    apart : (m ≡ n → ⊥) → (m < n) ⊎ ((m ≡ n) ⊎ (n < m))
    apart other = grind arith

pub one_first : (p : Problem) (s : LogState) (reading : Option Line) (r q : Reason) → IsFirstReason p s reading r → IsFirstReason p s reading q → r ≡ q
one_first p s reading r q first second = elim (order (turn_of r) (turn_of q)) [
  | inl before ↦ absurd (first.broken (second.kept r before))
  | inr h ↦ elim h [
    | inl same ↦ sym (back r) ∙ ap (λ n. get_or reasons n reason.End) same ∙ back q
    | inr after ↦ absurd (second.broken (first.kept q after))
  ]
]

pub first_is_not_valid : (p : Problem) (s : LogState) (line : Line) (r : Reason) → IsFirstReason p s (Some line) r → IsValidAfter p s line → ⊥
unfolding IsValidAfter
first_is_not_valid p s line r first valid = first.broken (valid r)

-- what a text reads as is one
pub one_reading : (text : List ℕ) (a b : Option Line) → ((k l : Line) → HasSpelling k → HasSpelling l → spelling k ≡ spelling l → k ≡ l) → Reads text a → Reads text b → a ≡ b
one_reading text None None apart h k = refl
one_reading text None (Some line) apart h k = absurd (h line k.0 k.1)
one_reading text (Some line) None apart h k = absurd (k line h.0 h.1)
one_reading text (Some line) (Some other) apart h k = ap Some (apart line other h.0 k.0 (sym h.1 ∙ k.1))

pub refused_is_not_valid : (p : Problem) (s : LogState) (text : List ℕ) (r : Reason) (line : Line) → ((k l : Line) → HasSpelling k → HasSpelling l → spelling k ≡ spelling l → k ≡ l)
    → IsRefusedFor p s text r → Reads text (Some line) → IsValidAfter p s line → ⊥
refused_is_not_valid p s text r line apart refused reads valid =
    first_is_not_valid p s line r (subst (λ o. IsFirstReason p s o r) (one_reading text refused.reading (Some line) apart refused.reads reads) refused.first) valid

pub one_refusal : (p : Problem) (s : LogState) (text : List ℕ) (r q : Reason) → ((k l : Line) → HasSpelling k → HasSpelling l → spelling k ≡ spelling l → k ≡ l)
    → IsRefusedFor p s text r → IsRefusedFor p s text q → r ≡ q
one_refusal p s text r q apart first second =
    one_first p s second.reading r q (subst (λ o. IsFirstReason p s o r) (one_reading text first.reading second.reading apart first.reads second.reads) first.first) second.first
