-- The integers from one to another.
use Rattle.std.proofs.Common.{add-one, ◌≡◌, ℕ, zero, suc, ◌+◌, ◌<◌, ◌↔◌, true, false, cond, List, [], ◌∷◌, ◌++◌, ℤ, pos, negsuc, ◌+ℤ◌, ◌-ℤ◌, refl, sym, ap, ◌∙◌, subst, inl, inr, arith, Contains}
use Rattle.std.specs.Prelude.{◌≤ℤ◌, ◌<ℤ◌, int_lt, unsigned_abs}
use Rattle.std.specs.declared.cmp.Ordering.TheVariants.{Less}
use Rattle.std.specs.Cmp.{int_cmp_is}
use Rattle.std.specs.List.Sorted.{IsStrictlySortedBy}
use Rattle.std.proofs.lemmas.Int.{ints, by_lt_z}
use Rattle.set_meaning.specs.Sets.{Has, IsAscending, integers_from, integers_between, count_between}
use Rattle.set_meaning.proofs.Ascending.{nothing_in_empty, in_cons, in_head, in_tail, IsAscending-cons}

-- one more integer at the end
pub integers_from-more : (x : ℤ) (n : ℕ) → integers_from x (suc n) ≡ integers_from x n ++ (x +ℤ pos n) ∷ []
integers_from-more x zero = let e : x ≡ x +ℤ pos 0 = omega (arith, ints) in ap (λ w. w ∷ []) e
integers_from-more x (suc n) =
    let e : (x +ℤ pos 1) +ℤ pos n ≡ x +ℤ pos (suc n) = omega (arith, ints) in
    ap (λ ys. x ∷ ys) (integers_from-more (x +ℤ pos 1) n ∙ ap (λ w. integers_from (x +ℤ pos 1) n ++ w ∷ []) e)

in_integers_from : (x : ℤ) (n : ℕ) (z : ℤ) → Contains (integers_from x n) z → (x ≤ℤ z) × (z <ℤ (x +ℤ pos n))
in_integers_from x zero z h = absurd (nothing_in_empty z h)
in_integers_from x (suc n) z h =
    elim (in_cons x (integers_from (x +ℤ pos 1) n) z h) [
      | inl e ↦ subst (λ w. (x ≤ℤ w) × (w <ℤ (x +ℤ pos (suc n)))) e (omega (arith, ints), omega (arith, ints))
      | inr later ↦ let p = in_integers_from (x +ℤ pos 1) n z later in (omega (arith, ints), omega (arith, ints))
    ]

integers_from_has : (x : ℤ) (n : ℕ) (z : ℤ) → x ≤ℤ z → z <ℤ (x +ℤ pos n) → Contains (integers_from x n) z
integers_from_has x zero z p q = absurd (omega (arith, ints))
integers_from_has x (suc n) z p q =
    by_lt_z x z
    (λ less. in_tail x (integers_from (x +ℤ pos 1) n) z (integers_from_has (x +ℤ pos 1) n z (omega (arith, ints)) (omega (arith, ints))))
    (λ at. let e : x ≡ z = omega (arith, ints) in subst (Contains (x ∷ integers_from (x +ℤ pos 1) n)) e (in_head x (integers_from (x +ℤ pos 1) n)))

IsAscending-integers_from : (x : ℤ) (n : ℕ) → IsAscending (integers_from x n)
unfolding IsStrictlySortedBy
IsAscending-integers_from x zero = tt
IsAscending-integers_from x (suc n) =
    IsAscending-cons x (integers_from (x +ℤ pos 1) n)
    (λ z h. let p = in_integers_from (x +ℤ pos 1) n z h in let less : x <ℤ z = omega (arith, ints) in sym (int_cmp_is x z Less less))
    (IsAscending-integers_from (x +ℤ pos 1) n)

pos-unsigned_abs : (z : ℤ) → pos 0 ≤ℤ z → pos (unsigned_abs z) ≡ z
pos-unsigned_abs (pos n) h = refl
pos-unsigned_abs (negsuc n) h = absurd (omega (arith, ints))

-- the count, by whether there are any
count_between_cases : (lo hi : ℤ) (P : ℕ → Type 0) → (hi <ℤ lo → P 0) → ((n : ℕ) → (lo +ℤ pos n) ≡ (hi +ℤ pos 1) → P n) → P (count_between lo hi)
count_between_cases lo hi P none some =
    elim (int_lt hi lo) as (λ b. int_lt hi lo ≡ b → P (cond b 0 (unsigned_abs (hi -ℤ lo) + 1))) [
      | true ↦ λ e. none (grind (arith, ints))
      | false ↦ λ e.
          let up : lo ≤ℤ hi = grind (arith, ints) in
          let abs : pos (unsigned_abs (hi -ℤ lo)) ≡ hi -ℤ lo = pos-unsigned_abs (hi -ℤ lo) (omega (arith, ints)) in
          some (unsigned_abs (hi -ℤ lo) + 1) (omega (arith, ints))
    ] refl

pub count_between-empty : (lo hi : ℤ) → hi <ℤ lo → count_between lo hi ≡ 0
count_between-empty lo hi h = count_between_cases lo hi (λ n. n ≡ 0) (λ _. refl) (λ n e. omega (arith, ints))

pub count_between-ends : (lo hi : ℤ) → lo ≤ℤ hi → (lo +ℤ pos (count_between lo hi)) ≡ (hi +ℤ pos 1)
count_between-ends lo hi h = count_between_cases lo hi (λ n. (lo +ℤ pos n) ≡ (hi +ℤ pos 1)) (λ less. omega (arith, ints)) (λ n e. e)

pub IsAscending-integers_between : (lo hi : ℤ) → IsAscending (integers_between lo hi)
IsAscending-integers_between lo hi = IsAscending-integers_from lo (count_between lo hi)

pub integers_between_members : (lo hi x : ℤ) → Has (integers_between lo hi) x ↔ ((lo ≤ℤ x) × (x ≤ℤ hi))
unfolding Has
integers_between_members lo hi x =
    count_between_cases lo hi (λ n. Contains (integers_from lo n) x ↔ ((lo ≤ℤ x) × (x ≤ℤ hi)))
    (λ none. (λ h. absurd (nothing_in_empty x h), λ h. absurd (let p = h.0 in let q = h.1 in omega (arith, ints))))
    (λ n e. (λ h. let p = in_integers_from lo n x h in (p.0, omega (arith, ints)), λ h. integers_from_has lo n x h.0 (omega (arith, ints))))

-- a step of a loop that lists them
pub integers_from_pushed : (lo : ℤ) (n : ℕ) (x : ℤ) (items pushed : List ℤ) → items ≡ integers_from lo n → pushed ≡ items ++ x ∷ [] → x ≡ lo +ℤ pos n
    → pushed ≡ integers_from lo (n + 1)
integers_from_pushed lo n x items pushed so_far push at =
    push ∙ ap (λ w. items ++ w ∷ []) at ∙ ap (λ ys. ys ++ (lo +ℤ pos n) ∷ []) so_far ∙ sym (integers_from-more lo n) ∙ ap (integers_from lo) (sym (add-one n))

pub count_between_within : (lo hi : ℤ) (n : ℕ) → n < count_between lo hi → (lo +ℤ pos n) ≤ℤ hi
count_between_within lo hi n = count_between_cases lo hi (λ m. n < m → (lo +ℤ pos n) ≤ℤ hi) (λ none h. absurd (omega arith)) (λ m e h. omega (arith, ints))
