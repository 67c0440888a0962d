-- The offsets of an ascending list of integers, and the bounds of what is read.
use Rattle.std.proofs.Common.{◌≡◌, ℕ, suc, ◌+◌, ◌-◌, ◌*◌, ◌^◌, ◌<◌, ◌≤◌, ◌≤ℤ◌, ◌<ℤ◌, ◌==◌, nat_lt, Bool, true, false, cond, ℤ, pos, ◌-ℤ◌, List, [], ◌∷◌, ◌++◌, map, length, take, get_or, Contains, refl, sym, ap, ◌∙◌, subst, inl, inr, arith}
use Rattle.std.specs.Ordering.{int_cmp}
use Rattle.std.proofs.lemmas.Int.{ints}
use Rattle.std.proofs.lemmas.Bool.{lt-ltb, cases_lt}
use Rattle.std.proofs.Math.Nat.{pow-le-pow_right}
use Rattle.std.specs.Int.{from_bool}
use Rattle.std.proofs.lemmas.List.{take_more, take_all}
use Rattle.std.proofs.lemmas.List.Elements.{Contains-get_or, All-from_recursion, All-contains}
use Rattle.std.proofs.lemmas.Map.Keys.{sorted_head, sorted_tail}
use Rattle.std.specs.declared.cmp.Ordering.TheVariants.{Less}
use Rattle.set_meaning.specs.Sets.{IsAscending}
use Rattle.bit_layout.specs.Words.{bit_width, distance, least, span}
use Rattle.bit_layout.proofs.Numbers.{double, narrow_width}
use Rattle.bit_layout.proofs.Elements.{distance_up, least_is_least, offset_within}
use Rattle.bit_layout.proofs.Rising.{in_head, in_tail}
use Rattle.sweep_values.specs.declared.part.Part.{Part}
use Rattle.sweep_values.specs.declared.part.Part.TheVariants.{Every, Partly, Nothing}
use Rattle.sweep_values.specs.Domains.{IsBelowAll, Rises, OccursAt, below, by_count, settle}

-- ---- offsets rise

farther : (a x y : ℤ) → a ≤ℤ x → int_cmp x y ≡ Less → nat_lt (distance a x) (distance a y) ≡ true
farther a x y from less =
    let up : x <ℤ y = grind (arith, ints, less) in
    let p : pos (distance a x) ≡ x -ℤ a = distance_up a x from in
    let q : pos (distance a y) ≡ y -ℤ a = distance_up a y (omega (arith, ints, from, up)) in
    lt-ltb (distance a x) (distance a y) (omega (arith, ints, p, q, up))

all_farther : (a x : ℤ) (ys : List ℤ) → a ≤ℤ x → ((y : ℤ) → Contains ys y → int_cmp x y ≡ Less) → IsBelowAll (distance a x) (map (distance a) ys)
all_farther a x [] from less = tt
all_farther a x (y ∷ ys) from less = (farther a x y from (less y (in_head y ys)), all_farther a x ys from (λ z h. less z (in_tail y ys z h)))

rise_from : (a : ℤ) (xs : List ℤ) → ((x : ℤ) → Contains xs x → a ≤ℤ x) → IsAscending xs → Rises (map (distance a) xs)
rise_from a [] from up = tt
rise_from a (x ∷ xs) from up = (
  all_farther a x xs (from x (in_head x xs)) (λ y h. All-contains (λ z. int_cmp x z ≡ Less) xs y (All-from_recursion (λ z. int_cmp x z ≡ Less) xs (sorted_head int_cmp x xs up)) h),
  rise_from a xs (λ y h. from y (in_tail x xs y h)) (sorted_tail int_cmp x xs up),
)

pub offsets_rise : (numbers : List ℤ) → IsAscending numbers → Rises (map (distance (least numbers)) numbers)
offsets_rise numbers up = rise_from (least numbers) numbers (λ x h. least_is_least numbers x up h) up

-- ---- bounds of what is read

step_up : (prefix left : ℕ) (b : Bool) → (prefix + 1) * 2 ^ suc left ≤ 2 ^ 16 → (2 * prefix + cond b 1 0 + 1) * 2 ^ left ≤ 2 ^ 16
step_up prefix left b h =
    let f : (prefix + 1) * 2 ^ suc left ≡ (prefix + 1) * (2 * 2 ^ left) = ap (λ z. (prefix + 1) * z) (double left) in
    by b (2 ^ left) (2 ^ 16) (omega (arith, f, h))
  where
    by : (b : Bool) (x most : ℕ) → (prefix + 1) * (2 * x) ≤ most → (2 * prefix + cond b 1 0 + 1) * x ≤ most
    by true x most h = omega (arith, h)
    by false x most h = omega (arith, h)

pub step_small : (width at prefix : ℕ) (b : Bool) → at < width → (prefix + 1) * 2 ^ (width - at) ≤ 2 ^ 16 → (2 * prefix + cond b 1 0 + 1) * 2 ^ (width - (at + 1)) ≤ 2 ^ 16
step_small width at prefix b within h =
    let e : width - at ≡ suc (width - (at + 1)) = omega (arith, within) in
    step_up prefix (width - (at + 1)) b (subst (λ k. (prefix + 1) * 2 ^ k ≤ 2 ^ 16) e h)

by_count_occurs : (width at count n prefix : ℕ) → (prefix + 1) * 2 ^ (width - at) ≤ 2 ^ 16 → OccursAt width at (by_count count n prefix)
by_count_occurs width at count n prefix h = all (n == count)
  where
    none : (v : Bool) → OccursAt width at (cond v Nothing (Partly prefix))
    none true = tt
    none false = h

    all : (v : Bool) → OccursAt width at (cond v Every (cond (n == 0) Nothing (Partly prefix)))
    all true = tt
    all false = none (n == 0)

pub settle_occurs : (offsets : List ℕ) (width at left prefix : ℕ) → (prefix + 1) * 2 ^ (width - at) ≤ 2 ^ 16 → OccursAt width at (settle offsets left prefix)
settle_occurs offsets width at left prefix h = by_count_occurs width at (2 ^ left) (below offsets (prefix * 2 ^ left + 2 ^ left) - below offsets (prefix * 2 ^ left)) prefix h

-- a word of at most 16 digits
start_small : (width : ℕ) → width ≤ 16 → 1 * 2 ^ width ≤ 2 ^ 16
start_small width short = let p = pow-le-pow_right {n = 2} (omega arith) {i = width} {j = 16} short in omega (arith, p)

pub small_at_start : (width : ℕ) (free : Bool) → (free ≡ false → width ≤ 16) → free ≡ false → 1 * 2 ^ width ≤ 65536
small_at_start width free short is = start_small width (short is)

pub start_occurs : (offsets items : List ℕ) (width : ℕ) (free : Bool) (q : Part) → (free ≡ false → width ≤ 16) → free ≡ false → q ≡ settle items width 0 → OccursAt width 0 q
start_occurs offsets items width free q short is settled =
    let e : width - 0 ≡ width = omega arith in
    let h : (0 + 1) * 2 ^ (width - 0) ≤ 2 ^ 16 = subst (λ k. (0 + 1) * 2 ^ k ≤ 2 ^ 16) (sym e) (start_small width (short is)) in
    subst (OccursAt width 0) (sym settled) (settle_occurs items width 0 width 0 h)

-- the digits to come are at most 16
short_left : (prefix left : ℕ) → (prefix + 1) * 2 ^ left ≤ 2 ^ 16 → left ≤ 16
short_left prefix left h = elim (cases_lt 16 left) [
  | inl long ↦
      let p = pow-le-pow_right {n = 2} (omega arith) {i = 17} {j = left} (omega (arith, long)) in
      let q : 2 ^ left ≤ (prefix + 1) * 2 ^ left = at_least (2 ^ left) in
      absurd (omega (arith, p, q, h))
  | inr short ↦ short
]
  where
    at_least : (x : ℕ) → x ≤ (prefix + 1) * x
    at_least x = omega arith

-- what is asked of a step
pub record IsReady (width at prefix digit : ℕ) : Type 0 where
  pub short : width - (at + 1) ≤ 16
  pub small : (2 * prefix + digit + 1) * 2 ^ (width - (at + 1)) ≤ 65536

from_bool_is : (b : Bool) → from_bool b ≡ cond b 1 0
from_bool_is true = refl
from_bool_is false = refl

pub ready : (width at prefix digit : ℕ) (q : Part) (b : Bool) → at < width → q ≡ Partly prefix → digit ≡ from_bool b → OccursAt width at q → IsReady width at prefix digit
ready width at prefix digit q b within is digit_is occurs =
    let h : (prefix + 1) * 2 ^ (width - at) ≤ 2 ^ 16 = subst (OccursAt width at) is occurs in
    let s = step_small width at prefix b within h in
    let d : digit ≡ cond b 1 0 = digit_is ∙ from_bool_is b in
    let left = short_left prefix (width - at) h in
    record { short = omega (arith, left); small = subst (λ k. (2 * prefix + k + 1) * 2 ^ (width - (at + 1)) ≤ 2 ^ 16) (sym d) s }

pub step_occurs : (offsets : List ℕ) (width at prefix digit : ℕ) (q : Part) → IsReady width at prefix digit → q ≡ settle offsets (width - (at + 1)) (2 * prefix + digit) → OccursAt width (at + 1) q
step_occurs offsets width at prefix digit q is settled = subst (OccursAt width (at + 1)) (sym settled) (settle_occurs offsets width (at + 1) (width - (at + 1)) (2 * prefix + digit) is.small)

pub int_valid : (numbers : List ℤ) (items : List ℕ) (width : ℕ) → items ≡ map (distance (least numbers)) numbers → IsAscending numbers → span numbers ≤ 65535 → width ≡ bit_width (span numbers)
    → Rises items × (false ≡ false → width ≤ 16)
int_valid numbers items width made up narrow is = (subst Rises (sym made) (offsets_rise numbers up), λ _. let n = narrow_width (span numbers) narrow in omega (arith, n, is))
