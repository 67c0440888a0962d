-- Products that stop at a greatest number.
use Rattle.std.proofs.Common.{◌≡◌, ℕ, zero, suc, ◌+◌, ◌*◌, ◌<◌, ◌≤◌, List, [], length, get_or, drop, sym, ap, ◌∙◌, inl, inr, arith, mul_assoc, add-one, drop-cons}
use Rattle.std.specs.Prelude.{min}
use Rattle.std.proofs.Math.Nat.{mul-suc}
use Rattle.std.proofs.Math.Seq.{drop-length}
use Rattle.set_meaning.specs.declared.problems.Dim.{Dim}
use Rattle.fzn_model.specs.Outputs.{size_of, size_of_dim}
use Rattle.std.proofs.lemmas.Bool.{cases_lt}

past : (m p r : ℕ) → m ≤ p → min (m * r) m ≡ min (p * r) m
past m p zero h = omega arith
past m p (suc r) h =
    let a : m * suc r ≡ m * r + m = mul-suc m r in
    let b : p * suc r ≡ p * r + p = mul-suc p r in
    omega (arith, h, a, b)

stopped : (m p r : ℕ) → min (min p m * r) m ≡ min (p * r) m
stopped m p r =
    elim (cases_lt p m) [
      | inl less ↦ let e : min p m ≡ p = omega arith in ap (λ x. min (x * r) m) e
      | inr le ↦ let e : min p m ≡ m = omega arith in ap (λ x. min (x * r) m) e ∙ past m p r le
    ]

-- a product that stops on the way stops where the whole product does
pub saturates : (m a d r : ℕ) → min (min (a * d) m * r) m ≡ min (a * (d * r)) m
saturates m a d r = stopped m (a * d) r ∙ ap (λ x. min x m) (mul_assoc a d r)

-- one more dimension
pub one_more : (m size more w : ℕ) (dims : List Dim) (i : ℕ) (d : Dim) (total : ℕ) → i < length dims → d ≡ get_or dims i d → w ≡ size_of_dim d
    → more ≡ min (size * w) m → min (size * size_of (drop i dims)) m ≡ total → min (more * size_of (drop (i + 1) dims)) m ≡ total
one_more m size more w dims i d total within at is times so_far =
    let rest : ℕ = size_of (drop (suc i) dims) in
    let split : size_of (drop i dims) ≡ w * rest = ap size_of (drop-cons dims i d within) ∙ ap (λ x. size_of_dim x * rest) (sym at) ∙ ap (λ x. x * rest) (sym is) in
    let a : min (more * rest) m ≡ min (min (size * w) m * rest) m = ap (λ x. min (x * rest) m) times in
    let b : min (size * (w * rest)) m ≡ min (size * size_of (drop i dims)) m = ap (λ x. min (size * x) m) (sym split) in
    ap (λ j. min (more * size_of (drop j dims)) m) (add-one i) ∙ a ∙ saturates m size w rest ∙ b ∙ so_far

-- none is left
pub all_taken : (m size : ℕ) (dims : List Dim) (total : ℕ) → size ≤ m → min (size * size_of (drop (length dims) dims)) m ≡ total → size ≡ total
all_taken m size dims total le h =
    let e : drop (length dims) dims ≡ [] = drop-length dims in
    let one : min (size * size_of (drop (length dims) dims)) m ≡ size = ap (λ ds. min (size * size_of ds) m) e ∙ (omega arith) in
    sym one ∙ h
