-- The place of each weight, and the step that it tells.
use Rattle.std.proofs.Common.{◌≡◌, ℕ, zero, suc, ◌+◌, ◌<◌, Bool, cond, ℤ, pos, neg_ℤ, ◌^◌, ◌+ℤ◌, ◌≤ℤ◌, ◌<ℤ◌, List, [], ◌∷◌, ◌++◌, drop, length, get_or, Some, None, refl, ap, sym, ◌∙◌, subst, arith, append_assoc}
use Rattle.std.specs.Int.{int_min, int_max}
use Rattle.std.specs.Option.{option_map_or}
use Rattle.linear_machine.specs.declared.state.State.{State}
use Rattle.linear_machine.specs.declared.state.State.TheVariants.{Open, Settled}
use Rattle.linear_machine.specs.declared.comparison.Comparison.{Comparison}
use Rattle.linear_machine.specs.declared.linear.Place.{Place}
use Rattle.linear_machine.specs.declared.linear.Linear.TheInside.{Inside}
use Rattle.linear_machine.specs.Sums.{LinearState, IsSmall}
use Rattle.linear_machine.specs.Steps.{least_sum, greatest_sum, shared_answer, settle, step_of}
use Rattle.linear_machine.specs.Body.{state, IsKept, place_of, places_of, weights_of, StaySmall, Occurs}
use Rattle.linear_machine.proofs.Bounds.{from_place, small_step, least_low, greatest_high, small_sizes}

pub weights_again : (xs : List ℤ) → weights_of (places_of xs) ≡ xs
weights_again [] = refl
weights_again (x ∷ xs) = ap (λ ys. x ∷ ys) (weights_again xs)

place_at : (xs : List ℤ) (at : ℕ) (d : Place) → at < length xs → get_or (places_of xs) at d ≡ place_of (get_or xs at (pos 0)) (drop (at + 1) xs)
place_at [] at d within = absurd (omega (arith, within))
place_at (x ∷ xs) zero d within = refl
place_at (x ∷ xs) (suc at) d within =
    let e : suc (at + 1) ≡ suc at + 1 = omega arith in
    place_at xs at d (omega (arith, within)) ∙ ap (λ k. place_of (get_or xs at (pos 0)) (drop k (x ∷ xs))) e

pub place_found : (places : List Place) (at : ℕ) (p : Place) → places ≡ places_of (weights_of places) → at < length (weights_of places) → p ≡ get_or places at p
    → p ≡ place_of (get_or (weights_of places) at (pos 0)) (drop (at + 1) (weights_of places))
place_found places at p kept within is = is ∙ ap (λ ps. get_or ps at p) kept ∙ place_at (weights_of places) at p within

-- ---- what a place tells of the step

pub place_told : (inside : Inside) (m : LinearState) (at : ℕ) (p : Place) → state inside ≡ m → IsKept inside → at < length m.weights → p ≡ get_or inside.places.items at p
    → p ≡ place_of (get_or m.weights at (pos 0)) (drop (at + 1) m.weights)
place_told inside m at p view kept within is =
    let P : LinearState → Type 0 = λ n. at < length n.weights → p ≡ place_of (get_or n.weights at (pos 0)) (drop (at + 1) n.weights) in
    subst P view (λ here. place_found inside.places.items at p kept.places here is) within

low_told : (x : ℤ) (xs : List ℤ) (sum : ℤ) (p : Place) → StaySmall (x ∷ xs) sum → p ≡ place_of x xs → neg_ℤ (pos (2 ^ 126)) <ℤ (sum +ℤ (int_min p.weight (pos 0) +ℤ p.least_behind))
low_told x xs sum p small is = let P : Place → Type 0 = λ q. neg_ℤ (pos (2 ^ 126)) <ℤ (sum +ℤ (int_min q.weight (pos 0) +ℤ q.least_behind)) in subst P (sym is) small.low

high_told : (x : ℤ) (xs : List ℤ) (sum : ℤ) (p : Place) → StaySmall (x ∷ xs) sum → p ≡ place_of x xs → (sum +ℤ (int_max p.weight (pos 0) +ℤ p.greatest_behind)) <ℤ pos (2 ^ 126)
high_told x xs sum p small is = let P : Place → Type 0 = λ q. (sum +ℤ (int_max q.weight (pos 0) +ℤ q.greatest_behind)) <ℤ pos (2 ^ 126) in subst P (sym is) small.high

-- what the step asks of its place and its sum
pub record IsReady (sum : ℤ) (p : Place) : Type 0 where
  pub low : neg_ℤ (pos (2 ^ 126)) <ℤ (sum +ℤ (int_min p.weight (pos 0) +ℤ p.least_behind))
  pub high : (sum +ℤ (int_max p.weight (pos 0) +ℤ p.greatest_behind)) <ℤ pos (2 ^ 126)
  pub least : p.least_behind ≤ℤ pos 0
  pub greatest : pos 0 ≤ℤ p.greatest_behind

pub ready : (inside : Inside) (m : LinearState) (at : ℕ) (q : State) (sum : ℤ) (p : Place) → state inside ≡ m → IsKept inside → at < length m.weights → p ≡ get_or inside.places.items at p
    → Occurs m at q → q ≡ Open sum → IsReady sum p
ready inside m at q sum p view kept within is occurs opened =
    let told = place_told inside m at p view kept within is in
    let x = get_or m.weights at (pos 0) in
    let xs = drop (at + 1) m.weights in
    let here : StaySmall (drop at m.weights) sum = let P : State → Type 0 = λ r. Occurs m at r in subst P opened occurs in
    let small : StaySmall (x ∷ xs) sum = let P : List ℤ → Type 0 = λ ys. StaySmall ys sum in subst P (from_place m.weights at within) here in
    record {
      low = low_told x xs sum p small told;
      high = high_told x xs sum p small told;
      least = let P : Place → Type 0 = λ r. r.least_behind ≤ℤ pos 0 in subst P (sym told) (least_low xs);
      greatest = let P : Place → Type 0 = λ r. pos 0 ≤ℤ r.greatest_behind in subst P (sym told) (greatest_high xs);
    }

-- the state after the weight of a place was added or not
abbrev pub settled_at : Comparison → ℤ → Bool → Place → State
settled_at comparison sum value p =
    let after = sum +ℤ cond value p.weight (pos 0) in
    option_map_or Settled (shared_answer comparison (after +ℤ p.least_behind) (after +ℤ p.greatest_behind)) (Open after)

pub step_told : (inside : Inside) (m : LinearState) (at : ℕ) (q : State) (sum : ℤ) (value : Bool) (p : Place) → state inside ≡ m → IsKept inside → at < length m.weights → p ≡ get_or inside.places.items at p
    → q ≡ Open sum → settled_at inside.comparison sum value p ≡ step_of m at q value
step_told inside m at q sum value p view kept within is opened =
    let told = place_told inside m at p view kept within is in
    ap (λ (n : LinearState). settled_at n.comparison sum value p) view
    ∙ ap (settled_at m.comparison sum value) told
    ∙ ap (λ r. step_of m at r value) (sym opened)

settled_occurs : (m : LinearState) (at : ℕ) (sum : ℤ) → StaySmall (drop at m.weights) sum → Occurs m at (settle m.comparison (drop at m.weights) sum)
settled_occurs m at sum small =
    elim (shared_answer m.comparison (sum +ℤ least_sum (drop at m.weights)) (sum +ℤ greatest_sum (drop at m.weights))) as (λ o. Occurs m at (option_map_or Settled o (Open sum))) [ Some answer ↦ tt | None ↦ small ]

-- the state at the start may occur there
pub start_occurs : (m : LinearState) → StaySmall m.weights m.constant → Occurs m 0 (settle m.comparison m.weights m.constant)
start_occurs m small = settled_occurs m 0 m.constant small

-- a step leads to states that may occur behind it
pub step_occurs : (m : LinearState) (at : ℕ) (state : State) (value : Bool) → at < length m.weights → Occurs m at state → Occurs m (at + 1) (step_of m at state value)
step_occurs m at (Settled answer) value within occurs = tt
step_occurs m at (Open sum) value within occurs =
    let small : StaySmall (get_or m.weights at (pos 0) ∷ drop (at + 1) m.weights) sum = let P : List ℤ → Type 0 = λ xs. StaySmall xs sum in subst P (from_place m.weights at within) occurs in
    settled_occurs m (at + 1) (sum +ℤ cond value (get_or m.weights at (pos 0)) (pos 0)) (small_step (get_or m.weights at (pos 0)) (drop (at + 1) m.weights) sum value small)

-- one place more is made
pub places_turn : (xs : List ℤ) (i : ℕ) (made more : List Place) (p : Place) → i < length xs → made ++ places_of (drop i xs) ≡ places_of xs → more ≡ made ++ p ∷ []
    → p.weight ≡ get_or xs i (pos 0) → p.least_behind ≡ least_sum (drop (i + 1) xs) → p.greatest_behind ≡ greatest_sum (drop (i + 1) xs)
    → more ++ places_of (drop (i + 1) xs) ≡ places_of xs
places_turn xs i made more p within whole pushed weight least greatest =
    let is : p ≡ place_of (get_or xs i (pos 0)) (drop (i + 1) xs) = λ k. record { weight = weight k; least_behind = least k; greatest_behind = greatest k } in
    ap (λ ps. ps ++ places_of (drop (i + 1) xs)) pushed
    ∙ append_assoc made (p ∷ []) (places_of (drop (i + 1) xs))
    ∙ ap (λ q. made ++ (q ∷ places_of (drop (i + 1) xs))) is
    ∙ ap (λ ys. made ++ places_of ys) (sym (from_place xs i within))
    ∙ whole

-- ---- a new machine

pub start_is : (comparison : Comparison) (xs : List ℤ) (constant low high : ℤ) → low ≡ least_sum xs → high ≡ greatest_sum xs
    → option_map_or Settled (shared_answer comparison (constant +ℤ low) (constant +ℤ high)) (Open constant) ≡ settle comparison xs constant
start_is comparison xs constant low high l h =
    ap (λ x. option_map_or Settled (shared_answer comparison (constant +ℤ x) (constant +ℤ high)) (Open constant)) l
    ∙ ap (λ x. option_map_or Settled (shared_answer comparison (constant +ℤ least_sum xs) (constant +ℤ x)) (Open constant)) h

pub kept_new : (a : Inside) (xs : List ℤ) → a.places.items ≡ places_of xs → IsSmall xs a.constant → a.start ≡ settle a.comparison xs a.constant → IsKept a
kept_new a xs made small start =
    let back : xs ≡ weights_of a.places.items = sym (ap weights_of made ∙ weights_again xs) in
    let P : List ℤ → Type 0 = λ ys. StaySmall ys a.constant in
    record {
      places = made ∙ ap places_of back;
      small = subst P back (small_sizes xs a.constant small);
      start = start ∙ ap (λ ys. settle a.comparison ys a.constant) back;
    }

pub weights_new : (items : List Place) (xs : List ℤ) → items ≡ places_of xs → weights_of items ≡ xs
weights_new items xs made = ap weights_of made ∙ weights_again xs

pub start_kept : (inside : Inside) (m : LinearState) → state inside ≡ m → IsKept inside → Occurs m 0 inside.start
start_kept inside m view kept =
    let P : LinearState → Type 0 = λ n. Occurs n 0 inside.start in
    let Q : State → Type 0 = λ q. Occurs (state inside) 0 q in
    subst P view (subst Q (sym kept.start) (start_occurs (state inside) kept.small))
