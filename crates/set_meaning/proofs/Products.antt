-- Products of two 64-bit integers, and sums of them.
use Rattle.std.proofs.Common.{◌≡◌, ◌≤◌, ◌^◌, ◌*◌, ℕ, ℤ, pos, negsuc, neg_ℤ, ◌+ℤ◌, ◌*ℤ◌, ◌≤ℤ◌, List, ◌∷◌, FitsSigned, w64, sym, ap, ◌∙◌, subst, arith}
use Rattle.std.specs.Prelude.{unsigned_abs}
use Rattle.std.specs.Int.{w128}
use Rattle.std.proofs.Math.IntN.{+ℤ_assoc}
use Rattle.std.proofs.lemmas.Int.{ints, unsigned_abs-mul, fits_signed_mul}
use Rattle.std.proofs.lemmas.Nat.{mul-le}
use Rattle.set_meaning.specs.LinearSums.{sum_of_products}

size_of_word : (z : ℤ) → FitsSigned w64 z → unsigned_abs z ≤ 2 ^ 63
size_of_word (pos n) fits = let h = fits.sfits in omega arith
size_of_word (negsuc n) fits = let h = fits.sfits in omega arith

pub record IsWithin (z : ℤ) (n : ℕ) : Type 0 where
  pub low : neg_ℤ (pos n) ≤ℤ z
  pub high : z ≤ℤ pos n

within_size : (z : ℤ) (n : ℕ) → unsigned_abs z ≤ n → IsWithin z n
within_size (pos k) n h = record { low = omega (arith, ints); high = omega (arith, ints) }
within_size (negsuc k) n h = record { low = omega (arith, ints); high = omega (arith, ints) }

pub product_within : (a b x y : ℤ) → FitsSigned w64 a → FitsSigned w64 b → x ≡ a → y ≡ b → IsWithin (x *ℤ y) (2 ^ 126)
product_within a b x y fa fb p q =
    let P : ℤ → ℤ → Type 0 = λ s t. IsWithin (s *ℤ t) (2 ^ 126) in
    let size : unsigned_abs a * unsigned_abs b ≤ 2 ^ 63 * 2 ^ 63 = mul-le (unsigned_abs a) (unsigned_abs b) (2 ^ 63) (2 ^ 63) (size_of_word a fa) (size_of_word b fb) in
    let here : P a b = within_size (a *ℤ b) (2 ^ 126) (subst (λ n. n ≤ 2 ^ 126) (sym (unsigned_abs-mul a b)) size) in
    subst (λ s. P s y) (sym p) (subst (P a) (sym q) here)

pub product_fits : (a b x y : ℤ) → FitsSigned w64 a → FitsSigned w64 b → x ≡ a → y ≡ b → FitsSigned w128 (x *ℤ y)
product_fits a b x y fa fb p q =
    let P : ℤ → ℤ → Type 0 = λ s t. FitsSigned w128 (s *ℤ t) in
    let here : P a b = fits_signed_mul w128 a b (2 ^ 63) (2 ^ 63) (size_of_word a fa) (size_of_word b fb) (omega arith) in
    subst (λ s. P s y) (sym p) (subst (P a) (sym q) here)

-- one more product
pub sum_goes_on : (a rest_a b rest_b : List ℤ) (c x product before after whole : ℤ) → a ≡ c ∷ rest_a → b ≡ x ∷ rest_b → product ≡ (c *ℤ x)
    → after ≡ (before +ℤ product) → (before +ℤ sum_of_products a b) ≡ whole → (after +ℤ sum_of_products rest_a rest_b) ≡ whole
sum_goes_on a rest_a b rest_b c x product before after whole p q is more so_far =
    let P : List ℤ → List ℤ → Type 0 = λ s t. (before +ℤ sum_of_products s t) ≡ whole in
    let here : (before +ℤ ((c *ℤ x) +ℤ sum_of_products rest_a rest_b)) ≡ whole = subst (λ s. P s (x ∷ rest_b)) p (subst (P a) q so_far) in
    ap (λ z. z +ℤ sum_of_products rest_a rest_b) (more ∙ ap (λ z. before +ℤ z) is) ∙ +ℤ_assoc before (c *ℤ x) (sum_of_products rest_a rest_b) ∙ here
