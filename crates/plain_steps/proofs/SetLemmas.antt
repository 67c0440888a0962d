-- Lists as sets.
use Rattle.std.proofs.Common.{◌≡◌, ℕ, zero, suc, ◌+◌, ◌<◌, eqb, Bool, true, false, not, ◌&&◌, ◌||◌, List, [], ◌∷◌, ◌++◌, length, get_or, refl, sym, ap, ◌∙◌, subst, inl, inr, arith}
use Rattle.std.specs.List.{filter}
use Rattle.std.proofs.lemmas.Bool.{eq-eqb, ne_eqb, eqb-true, cases_Bool, cases_eq, or_left, or_right, or_cases, or_from, cond-true, cond-false}
use Rattle.std.proofs.lemmas.List.{length_push, get_or_push, get_or_append_left}
use Rattle.plain_steps.specs.Sets.{has, united, IsTable}

pub has_at : (xs : List ℕ) (k x : ℕ) → k < length xs → x ≡ get_or xs k 0 → has xs x ≡ true
has_at [] k x lt same = absurd (omega arith)
has_at (y ∷ ys) zero x lt same = or_left (eqb x y) (has ys x) (eq-eqb x y same)
has_at (y ∷ ys) (suc k) x lt same = or_right (eqb x y) (has ys x) (has_at ys k x (omega arith) same)

pub has_not : (xs : List ℕ) (x : ℕ) → ((k : ℕ) → k < length xs → x ≡ get_or xs k 0 → ⊥) → has xs x ≡ false
has_not [] x none = refl
has_not (y ∷ ys) x none =
    or_from (eqb x y) (has ys x) (ne_eqb x y (none 0 (omega arith))) (has_not ys x (λ k lt. none (suc k) (omega arith)))

pub has_place : (xs : List ℕ) (x : ℕ) → has xs x ≡ true → (k : ℕ) × (k < length xs) × (x ≡ get_or xs k 0)
has_place [] x is = cc
has_place (y ∷ ys) x is = elim (or_cases (eqb x y) (has ys x) is) [
  | inl here ↦ (0, omega arith, eqb-true x y here)
  | inr there ↦ let (k, lt, same) = has_place ys x there in (suc k, omega arith, same)
]

pub has-filter : (p : ℕ → Bool) (xs : List ℕ) (x : ℕ) → has (filter p xs) x ≡ (has xs x && p x)
has-filter p [] x = refl
has-filter p (y ∷ ys) x = elim (cases_Bool (p y)) [
  | inl keep ↦
      ap (λ zs. has zs x) (cond-true (p y) (y ∷ filter p ys) (filter p ys) keep)
      ∙ elim (cases_eq x y) [
        | inl same ↦
            let is : eqb x y ≡ true = eq-eqb x y same in
            let at : p x ≡ true = ap p same ∙ keep in
            rw (is, at) refl
        | inr apart ↦
            let is : eqb x y ≡ false = ne_eqb x y apart in
            rw is (has-filter p ys x)
      ]
  | inr drop ↦
      ap (λ zs. has zs x) (cond-false (p y) (y ∷ filter p ys) (filter p ys) drop)
      ∙ (has-filter p ys x ∙ elim (cases_eq x y) [
        | inl same ↦
            let is : eqb x y ≡ true = eq-eqb x y same in
            let at : p x ≡ false = ap p same ∙ drop in
            rw (is, at) (elim (has ys x) as (λ b. (b && false) ≡ false) [ true ↦ refl | false ↦ refl ])
        | inr apart ↦
            let is : eqb x y ≡ false = ne_eqb x y apart in
            rw is refl
      ])
]

pub has-append : (xs ys : List ℕ) (x : ℕ) → has (xs ++ ys) x ≡ (has xs x || has ys x)
has-append [] ys x = refl
has-append (z ∷ zs) ys x = elim (cases_eq x z) [
  | inl same ↦ let is : eqb x z ≡ true = eq-eqb x z same in rw is refl
  | inr apart ↦ let is : eqb x z ≡ false = ne_eqb x z apart in rw is (has-append zs ys x)
]

pub has-united : (a b : List ℕ) (x : ℕ) → has (united a b) x ≡ (has a x || has b x)
has-united a b x =
    has-append a (filter (λ y. not (has a y)) b) x
    ∙ (ap (λ t. has a x || t) (has-filter (λ y. not (has a y)) b x) ∙ either_way (has a x) (has b x))
  where
    either_way : (s t : Bool) → (s || (t && not s)) ≡ (s || t)
    either_way true t = refl
    either_way false true = refl
    either_way false false = refl

-- one more set of a table
pub table_none : (f : ℕ → List ℕ) → IsTable f 0 []
table_none f = record { long = refl; at = λ v lt. absurd (omega arith) }

pub table_push : (f : ℕ → List ℕ) (n : ℕ) (sets : List (List ℕ)) (s : List ℕ) → IsTable f n sets → s ≡ f n → IsTable f (n + 1) (sets ++ s ∷ [])
table_push f n sets s table same = record {
  long = length_push sets s ∙ ap (λ m. m + 1) table.long;
  at = λ v lt. elim (cases_eq v n) [
    | inl here ↦ subst (λ w. get_or (sets ++ s ∷ []) w [] ≡ f w) (sym here) (get_or_push sets s [] n table.long ∙ same)
    | inr apart ↦
        let below : v < n = omega arith in
        let inside : v < length sets = omega (arith, table.long) in
        get_or_append_left sets (s ∷ []) [] v inside ∙ table.at v below
  ];
}
