-- Comparisons that tell values apart, as a shape needs of its states. Numbers have std's `eqb-true`.
use Rattle.std.proofs.Common.{◌≡◌, Bool, true, ◌&&◌}
use Rattle.std.proofs.lemmas.Bool.{and_parts}

-- pairs that compare as equal are one, where the comparisons of both parts tell values apart
pub pair_true : {P Q : Type 0} (same_first : P → P → Bool) (same_second : Q → Q → Bool)
    → ((a b : P) → same_first a b ≡ true → a ≡ b) → ((a b : Q) → same_second a b ≡ true → a ≡ b)
    → (p q : P × Q) → (same_first p.0 q.0 && same_second p.1 q.1) ≡ true → p ≡ q
pair_true same_first same_second first second p q is =
    let parts = and_parts (same_first p.0 q.0) (same_second p.1 q.1) is in
    λ i. (first p.0 q.0 parts.0 i, second p.1 q.1 parts.1 i)
