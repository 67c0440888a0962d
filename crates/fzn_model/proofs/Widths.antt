-- The width of a number of 64 bits.
use Rattle.std.proofs.Common.{◌≡◌, ℕ, suc, ◌+◌, ◌-◌, ◌*◌, ◌^◌, ◌<◌, ◌≤◌, ap, ◌∙◌, subst, inl, inr, arith}
use Rattle.std.proofs.lemmas.Bool.{cases_lt, cases_order}
use Rattle.std.proofs.lemmas.Nat.{leading_length, pow-add, pow_below}
use lib.Count.{count_leading_zeros}
use Rattle.bit_layout.specs.Words.{IsLeastWidth, bit_width}

double : (k : ℕ) → 2 ^ suc k ≡ 2 * 2 ^ k
double k = let e : suc k ≡ 1 + k = omega arith in ap (λ m. 2 ^ m) e ∙ pow-add 2 1 k

power_up : (i j : ℕ) → i ≤ j → 2 ^ i ≤ 2 ^ j
power_up i j h =
    elim (cases_order i j) [
      | inl e ↦ let P : ℕ → Type 0 = λ m. 2 ^ i ≤ 2 ^ m in subst P e (omega arith)
      | inr (inl less) ↦ let p : 2 ^ i < 2 ^ j = pow_below i j less in omega arith
      | inr (inr more) ↦ absurd (omega arith)
    ]

least_width : (n w v : ℕ) → IsLeastWidth n w → IsLeastWidth n v → w ≡ v
least_width n w v a b =
    let p : w ≤ v = a.least v b.holds in
    let q : v ≤ w = b.least w a.holds in
    omega arith

pub width_by_leading : ((n : ℕ) → IsLeastWidth n (bit_width n)) → (n : ℕ) → n < 2 ^ 64 → 64 - count_leading_zeros 64 n ≡ bit_width n
width_by_leading law n h =
    let r = leading_length 64 n h in
    let known : count_leading_zeros 64 n + r.0 ≡ 64 = r.1 in
    let half : 2 ^ r.0 ≤ 2 * n + 1 = r.3 in
    let e : 64 - count_leading_zeros 64 n ≡ r.0 = omega arith in
    let is : IsLeastWidth n r.0 = record {
      holds = r.2;
      least = λ u above. elim (cases_lt u r.0) [
        | inr le ↦ le
        | inl less ↦ absurd (
            let up : 2 ^ suc u ≤ 2 ^ r.0 = power_up (suc u) r.0 (omega arith) in
            let d : 2 ^ suc u ≡ 2 * 2 ^ u = double u in
            omega (arith, up, d, half, above))
      ];
    } in
    e ∙ least_width n r.0 (bit_width n) is (law n)
