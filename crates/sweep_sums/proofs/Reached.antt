-- Sums that are carried from list to list.
use Rattle.std.proofs.Common.{◌≡◌, ◌↔◌, ℕ, zero, suc, ◌+◌, ◌<◌, ◌≤◌, ℤ, pos, ◌+ℤ◌, ◌*ℤ◌, List, [], ◌∷◌, ◌++◌, map, length, take, drop, get_or, Contains, refl, sym, ap, ◌∙◌, subst, inl, inr, drop-cons, append_assoc, append-nil, arith}
use Rattle.std.specs.Prelude.{All, Any, IsTrue, unsigned_abs, ◌*◌, ◌^◌}
use Rattle.std.specs.List.{flat_map}
use Rattle.std.proofs.lemmas.Int.{ints}
use Rattle.std.proofs.lemmas.List.{take_more, take_all}
use Rattle.std.proofs.lemmas.List.Elements.{All-contains, All-push, Contains-get_or, Contains-push_cases, Contains-append_cases, Contains-append_left, Contains-append_right}
use Rattle.set_meaning.specs.LinearSums.{sum_of_products}
use Rattle.bit_layout.proofs.Rising.{nothing_in_empty, in_cons, in_head, in_tail}
use Rattle.sweep_sums.specs.Reaching.{ArePicked, SomeOn, reached_from, AreReached, AreWithin}

-- ---- what is reached from each sum

from_one : (weight : ℤ) (numbers : List ℤ) (s t : ℤ) → Contains (reached_from weight numbers s) t → (x : ℤ) × Contains numbers x × (t ≡ s +ℤ (weight *ℤ x))
from_one weight [] s t h = absurd (nothing_in_empty t h)
from_one weight (x ∷ xs) s t h = elim (in_cons (s +ℤ (weight *ℤ x)) (reached_from weight xs s) t h) [
  | inl e ↦ (x, in_head x xs, sym e)
  | inr later ↦ let r = from_one weight xs s t later in (r.0, in_tail x xs r.0 r.1, r.2)
]

to_one : (weight : ℤ) (numbers : List ℤ) (s x : ℤ) → Contains numbers x → Contains (reached_from weight numbers s) (s +ℤ (weight *ℤ x))
to_one weight [] s x h = absurd (nothing_in_empty x h)
to_one weight (y ∷ ys) s x h = elim (in_cons y ys x h) [
  | inl e ↦ subst (λ z. Contains (reached_from weight (y ∷ ys) s) (s +ℤ (weight *ℤ z))) e (in_head (s +ℤ (weight *ℤ y)) (reached_from weight ys s))
  | inr later ↦ in_tail (s +ℤ (weight *ℤ y)) (reached_from weight ys s) (s +ℤ (weight *ℤ x)) (to_one weight ys s x later)
]

all_reached : (weight : ℤ) (numbers sums : List ℤ) → AreReached weight numbers sums (flat_map (reached_from weight numbers) sums)
all_reached weight numbers [] = record { only = λ t h. absurd (nothing_in_empty t h); every = λ s x h k. absurd (nothing_in_empty s h) }
all_reached weight numbers (s ∷ ss) =
    let rest = all_reached weight numbers ss in
    let later = flat_map (reached_from weight numbers) ss in
    record {
      only = λ t h. elim (Contains-append_cases (reached_from weight numbers s) later t h) [
        | inl here ↦ let r = from_one weight numbers s t here in (s, r.0, in_head s ss, r.1, r.2)
        | inr there ↦ let r = rest.only t there in (r.0, r.1, in_tail s ss r.0 r.2, r.3, r.4)
      ];
      every = λ u x h k. elim (in_cons s ss u h) [
        | inl e ↦ Contains-append_left (reached_from weight numbers s) later (u +ℤ (weight *ℤ x))
            (subst (λ z. Contains (reached_from weight numbers s) (z +ℤ (weight *ℤ x))) e (to_one weight numbers s x k))
        | inr there ↦ Contains-append_right (reached_from weight numbers s) later (u +ℤ (weight *ℤ x)) (rest.every u x there k)
      ];
    }

-- after the loop, and with each sum once
pub reached_once : (weight : ℤ) (numbers sums next distinct : List ℤ) → next ≡ flat_map (reached_from weight numbers) sums → ((t : ℤ) → Contains distinct t ↔ Contains next t)
    → AreReached weight numbers sums distinct
reached_once weight numbers sums next distinct is same =
    let all = subst (AreReached weight numbers sums) (sym is) (all_reached weight numbers sums) in
    record { only = λ t h. all.only t ((same t).0 h); every = λ s x h k. (same (s +ℤ (weight *ℤ x))).1 (all.every s x h k) }

-- ---- one list more

grouped : (s p r : ℤ) → s +ℤ (p +ℤ r) ≡ (s +ℤ p) +ℤ r
grouped s p r = omega (arith, ints)

forward : (wanted : ℤ → Type 0) (weight : ℤ) (weights : List ℤ) (numbers : List ℤ) (lists : List (List ℤ)) (sums next : List ℤ) → AreReached weight numbers sums next
    → SomeOn wanted (weight ∷ weights) (numbers ∷ lists) sums → SomeOn wanted weights lists next
forward wanted weight weights numbers lists sums next reached h = by h.numbers h.picked h.holds
  where
    by : (xs : List ℤ) → ArePicked (numbers ∷ lists) xs → wanted (h.sum +ℤ sum_of_products (weight ∷ weights) xs) → SomeOn wanted weights lists next
    by [] picked holds = absurd picked
    by (x ∷ xs) picked holds = record {
      sum = h.sum +ℤ (weight *ℤ x);
      among = reached.every h.sum x h.among picked.0;
      numbers = xs;
      picked = picked.1;
      holds = subst wanted (grouped h.sum (weight *ℤ x) (sum_of_products weights xs)) holds;
    }

back : (wanted : ℤ → Type 0) (weight : ℤ) (weights : List ℤ) (numbers : List ℤ) (lists : List (List ℤ)) (sums next : List ℤ) → AreReached weight numbers sums next
    → SomeOn wanted weights lists next → SomeOn wanted (weight ∷ weights) (numbers ∷ lists) sums
back wanted weight weights numbers lists sums next reached h =
    let r = reached.only h.sum h.among in
    record {
      sum = r.0;
      among = r.2;
      numbers = r.1 ∷ h.numbers;
      picked = (r.3, h.picked);
      holds = subst wanted (ap (λ z. z +ℤ sum_of_products weights h.numbers) r.4 ∙ sym (grouped r.0 (weight *ℤ r.1) (sum_of_products weights h.numbers))) h.holds;
    }

-- the numbers from the lists that are still to come decide the same
pub carried : (wanted : ℤ → Type 0) (weights : List ℤ) (lists : List (List ℤ)) (i : ℕ) (weight d : ℤ) (numbers : List ℤ) (start sums next : List ℤ) → i < length weights → i < length lists
    → weight ≡ get_or weights i d → numbers ≡ get_or lists i numbers → AreReached weight numbers sums next
    → SomeOn wanted (drop i weights) (drop i lists) sums ↔ SomeOn wanted weights lists start
    → SomeOn wanted (drop (i + 1) weights) (drop (i + 1) lists) next ↔ SomeOn wanted weights lists start
carried wanted weights lists i weight d numbers start sums next in_weights in_lists is_weight is_list reached before =
    let more : suc i ≡ i + 1 = omega arith in
    let first : drop i weights ≡ weight ∷ drop (i + 1) weights =
    drop-cons weights i d in_weights ∙ ap (λ w. w ∷ drop (suc i) weights) (sym is_weight) ∙ ap (λ k. weight ∷ drop k weights) more in
    let second : drop i lists ≡ numbers ∷ drop (i + 1) lists =
    drop-cons lists i numbers in_lists ∙ ap (λ l. l ∷ drop (suc i) lists) (sym is_list) ∙ ap (λ k. numbers ∷ drop k lists) more in
    let there : SomeOn wanted (weight ∷ drop (i + 1) weights) (numbers ∷ drop (i + 1) lists) sums ↔ SomeOn wanted weights lists start
    = subst (λ ws. SomeOn wanted ws (numbers ∷ drop (i + 1) lists) sums ↔ SomeOn wanted weights lists start) first
    (subst (λ ls. SomeOn wanted (drop i weights) ls sums ↔ SomeOn wanted weights lists start) second before) in (
      λ h. there.0 (back wanted weight (drop (i + 1) weights) numbers (drop (i + 1) lists) sums next reached h),
      λ h. forward wanted weight (drop (i + 1) weights) numbers (drop (i + 1) lists) sums next reached (there.1 h),
    )

-- ---- no list is left

nothing_left : {X : Type 0} (xs : List X) (i : ℕ) → length xs ≤ i → drop i xs ≡ []
nothing_left [] zero past = refl
nothing_left [] (suc i) past = refl
nothing_left (x ∷ xs) zero past = absurd (omega (arith, past))
nothing_left (x ∷ xs) (suc i) past = nothing_left xs i (omega (arith, past))

no_products : (weights : List ℤ) → sum_of_products weights [] ≡ pos 0
no_products [] = refl
no_products (w ∷ ws) = refl

no_more : (s : ℤ) → s +ℤ pos 0 ≡ s
no_more s = omega (arith, ints)

at_end : (wanted : ℤ → Type 0) (weights sums : List ℤ) → Any wanted sums ↔ SomeOn wanted weights [] sums
at_end wanted weights sums = (
  λ h. record {
    sum = h.1;
    among = (h.0, h.2, h.3);
    numbers = [];
    picked = tt;
    holds = subst wanted (sym (ap (λ z. h.1 +ℤ z) (no_products weights) ∙ no_more h.1)) h.4;
  },
  λ h. (h.among.0, h.sum, h.among.1, h.among.2, by h.numbers h.picked h.sum h.holds),
)
  where
    by : (xs : List ℤ) → ArePicked [] xs → (s : ℤ) → wanted (s +ℤ sum_of_products weights xs) → wanted s
    by [] picked s holds = subst wanted (ap (λ z. s +ℤ z) (no_products weights) ∙ no_more s) holds
    by (x ∷ xs) picked s holds = absurd picked

pub all_carried : (wanted : ℤ → Type 0) (weights : List ℤ) (lists : List (List ℤ)) (i : ℕ) (start sums : List ℤ) → length lists ≤ i
    → SomeOn wanted (drop i weights) (drop i lists) sums ↔ SomeOn wanted weights lists start → (P : Type 0) → P ↔ Any wanted sums → P ↔ SomeOn wanted weights lists start
all_carried wanted weights lists i start sums past before P answer =
    let there = subst (λ ls. SomeOn wanted (drop i weights) ls sums ↔ SomeOn wanted weights lists start) (nothing_left lists i past) before in
    let end = at_end wanted (drop i weights) sums in
    (λ p. there.0 (end.0 (answer.0 p)), λ h. answer.1 (end.1 (there.1 h)))

-- ---- loops

pub pushed_more : (weight : ℤ) (numbers : List ℤ) (i : ℕ) (x d sum total : ℤ) (whole next new : List ℤ) → i < length numbers → x ≡ get_or numbers i d → total ≡ sum +ℤ (weight *ℤ x) → new ≡ next ++ total ∷ []
    → next ++ reached_from weight (drop i numbers) sum ≡ whole → new ++ reached_from weight (drop (i + 1) numbers) sum ≡ whole
pushed_more weight numbers i x d sum total whole next new within is value pushed before =
    let more : suc i ≡ i + 1 = omega arith in
    let first : drop i numbers ≡ x ∷ drop (i + 1) numbers =
    drop-cons numbers i d within ∙ ap (λ y. y ∷ drop (suc i) numbers) (sym is) ∙ ap (λ k. x ∷ drop k numbers) more in
    let there : next ++ ((sum +ℤ (weight *ℤ x)) ∷ reached_from weight (drop (i + 1) numbers) sum) ≡ whole = ap (λ ns. next ++ reached_from weight ns sum) (sym first) ∙ before in
    ap (λ ns. ns ++ reached_from weight (drop (i + 1) numbers) sum) (pushed ∙ ap (λ t. next ++ t ∷ []) value)
    ∙ append_assoc next ((sum +ℤ (weight *ℤ x)) ∷ []) (reached_from weight (drop (i + 1) numbers) sum) ∙ there

pub pushed_all : (weight : ℤ) (numbers : List ℤ) (i : ℕ) (sum : ℤ) (whole next : List ℤ) → length numbers ≤ i → next ++ reached_from weight (drop i numbers) sum ≡ whole → next ≡ whole
pushed_all weight numbers i sum whole next past before =
    sym (append-nil next) ∙ ap (λ ns. next ++ reached_from weight ns sum) (sym (nothing_left numbers i past)) ∙ before

pub none_more : (wanted : ℤ → Type 0) (totals : List ℤ) (i : ℕ) (d : ℤ) → i < length totals → (wanted (get_or totals i d) → ⊥) → (Any wanted (take i totals) → ⊥) → Any wanted (take (i + 1) totals) → ⊥
none_more wanted totals i d within refused before some =
    let e : take (i + 1) totals ≡ take i totals ++ get_or totals i d ∷ [] = take_more totals i d within in
    let all = subst (Any wanted) e some in
    elim (Contains-push_cases (take i totals) (get_or totals i d) all.1 (all.0, all.2, all.3)) [
      | inl earlier ↦ before (earlier.0, all.1, earlier.1, earlier.2, all.4)
      | inr same ↦ refused (subst wanted (sym same) all.4)
    ]

pub none_of_all : (wanted : ℤ → Type 0) (totals : List ℤ) (i : ℕ) → length totals ≤ i → (Any wanted (take i totals) → ⊥) → Any wanted totals → ⊥
none_of_all wanted totals i past before some = before (subst (Any wanted) (sym (take_all i totals past)) some)

pub reached_end : (weight : ℤ) (numbers sums next distinct : List ℤ) (i : ℕ) → length sums ≤ i → next ++ flat_map (reached_from weight numbers) (drop i sums) ≡ flat_map (reached_from weight numbers) sums
    → ((t : ℤ) → Contains distinct t ↔ Contains next t) → AreReached weight numbers sums distinct
reached_end weight numbers sums next distinct i past before same =
    let whole : next ≡ flat_map (reached_from weight numbers) sums =
    sym (append-nil next) ∙ ap (λ ss. next ++ flat_map (reached_from weight numbers) ss) (sym (nothing_left sums i past)) ∙ before in
    reached_once weight numbers sums next distinct whole same

pub all_same : (P : ℤ → Type 0) (next distinct : List ℤ) → ((t : ℤ) → Contains distinct t ↔ Contains next t) → All P next → All P distinct
all_same P next distinct same all k d within = All-contains P next (get_or distinct k d) all ((same (get_or distinct k d)).0 (Contains-get_or distinct k d within))

-- ---- the first sum

pub begun : (wanted : ℤ → Type 0) (weights : List ℤ) (lists : List (List ℤ)) (constant : ℤ) (sums : List ℤ) → sums ≡ constant ∷ []
    → SomeOn wanted (drop 0 weights) (drop 0 lists) sums ↔ SomeOn wanted weights lists (constant ∷ [])
begun wanted weights lists constant sums is = subst (λ ss. SomeOn wanted weights lists ss ↔ SomeOn wanted weights lists (constant ∷ [])) (sym is) (λ h. h, λ h. h)

pub pushed_within : (at : ℕ) (next new : List ℤ) (t : ℤ) → new ≡ next ++ t ∷ [] → unsigned_abs t ≤ 2 ^ 100 + at * 2 ^ 115 → AreWithin at next → AreWithin at new
pushed_within at next new t pushed small before =
    subst (AreWithin at) (sym pushed) (All-push (λ s. unsigned_abs s ≤ 2 ^ 100 + at * 2 ^ 115) next t before small)
