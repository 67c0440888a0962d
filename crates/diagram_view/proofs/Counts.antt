-- A set of words has one residual count at most.
use Rattle.std.proofs.Common.{◌≡◌, ℕ, ◌<◌, ◌≤◌, Bool, true, eqb, zero, suc, List, [], ◌∷◌, length, get_or, refl, sym, ◌∙◌, ap, subst, inl, inr, arith, length-append}
use Rattle.std.specs.List.{IsDistinct, list_any}
use Rattle.std.proofs.lemmas.Bool.{ne_eqb, eqb-true, or_cases}
use Rattle.std.proofs.lemmas.List.{get_or_default}
use Rattle.std.proofs.lemmas.Map.Keys.{IsDistinct-from_apart}
use Rattle.std.proofs.lemmas.Map.Steps.{length-le_from_distinct_below}
use Rattle.diagram_view.specs.Words.{ListWords}
use Rattle.diagram_view.specs.Residuals.{AreAlike, AreApart, IsResidualCount}

-- a list of values, one for each place
record Picks (m : ℕ) (P : ℕ → ℕ → Type 0) : Type 0 where
  picks : List ℕ
  long : length picks ≡ m
  fits : (i d : ℕ) → i < m → P i (get_or picks i d)

pick : (m : ℕ) (P : ℕ → ℕ → Type 0) → ((i : ℕ) → i < m → (j : ℕ) × P i j) → Picks m P
pick zero P find = record { picks = []; long = refl; fits = λ i d lt. absurd (omega arith) }
pick (suc m) P find =
    let first = find 0 (omega arith) in
    let rest = pick m (λ i. P (suc i)) (λ i lt. find (suc i) (omega arith)) in record {
      picks = first.0 ∷ rest.picks;
      long = ap suc rest.long;
      fits = λ i d lt. at m P first.0 rest.picks first.1 rest.fits i d lt;
    }
  where
    at : (m : ℕ) (P : ℕ → ℕ → Type 0) (x : ℕ) (xs : List ℕ) → P 0 x → ((i d : ℕ) → i < m → P (suc i) (get_or xs i d)) → (i d : ℕ) → i < suc m → P i (get_or (x ∷ xs) i d)
    at m P x xs here there zero d lt = here
    at m P x xs here there (suc i) d lt = there i d (omega arith)

place : (xs : List ℕ) (q : ℕ) → list_any (eqb q) xs ≡ true → (i : ℕ) × (i < length xs) × (get_or xs i 0 ≡ q)
place [] q on = absurd (cc)
place (x ∷ xs) q on =
    elim (or_cases (eqb q x) (list_any (eqb q) xs) on) [
      | inl e ↦ (0, omega arith, sym (eqb-true q x e))
      | inr later ↦ let i = place xs q later in let far = i.1 in (suc i.0, omega (arith, far), i.2)
    ]

-- prefixes that are alike to one are not apart
not_apart : (W : ListWords) (p q r : List Bool) → AreAlike W p r → AreAlike W q r → AreApart W p q → ⊥
not_apart W p q r one two (inl ne) = ne (one.lengths ∙ sym two.lengths)
not_apart W p q r one two (inr d) =
    let sum = length-append p d.end in
    let sum' = length-append q d.end in
    let same = one.lengths ∙ sym two.lengths in
    let long = d.long in
    d.differ (one.rests d.end d.long ∙ sym (two.rests d.end (omega (arith, sum, sum', same, long))))

pub at_most : (W : ListWords) (n k : ℕ) → IsResidualCount W n → IsResidualCount W k → n ≤ k
at_most W n k one two =
    let P : ℕ → ℕ → Type 0 = λ i j. (j < k) × AreAlike W (get_or one.prefixes i []) (get_or two.prefixes j []) in
    let number = one.number in
    let number' = two.number in
    let found : Picks n P = pick n P (λ i lt.
    let any = two.complete (get_or one.prefixes i []) (one.matter i [] (omega (arith, number, lt))) in
    let within = any.2 in
    (any.0, (omega (arith, number', within), subst (AreAlike W (get_or one.prefixes i [])) (sym any.3 ∙ get_or_default two.prefixes any.0 any.1 [] within) any.4))) in
    let long = found.long in
    let distinct : IsDistinct eqb found.picks = IsDistinct-from_apart eqb found.picks (λ i j d lt within.
    ne_eqb (get_or found.picks i d) (get_or found.picks j d) (λ e.
    not_apart W (get_or one.prefixes i []) (get_or one.prefixes j []) (get_or two.prefixes (get_or found.picks j d) [])
    (subst (λ x. AreAlike W (get_or one.prefixes i []) (get_or two.prefixes x [])) e (found.fits i d (omega (arith, long, lt, within))).1)
    (found.fits j d (omega (arith, long, within))).1
    (one.apart i j [] lt (omega (arith, long, number, within))))) in
    let most = length-le_from_distinct_below found.picks k distinct (λ q on.
    let i = place found.picks q on in
    let within = i.1 in
    subst (λ x. x < k) i.2 (found.fits i.0 0 (omega (arith, long, within))).0) in
    omega (arith, long, most)
