-- What the machine of a linear sum accepts.
use Rattle.std.proofs.Common.{◌≡◌, ◌↔◌, ℕ, zero, suc, ◌+◌, Bool, true, false, not, cond, ℤ, pos, ◌+ℤ◌, ◌≤ℤ◌, int_lt, List, [], ◌∷◌, drop, get_or, Option, Some, None, refl, ap, sym, ◌∙◌, arith}
use Rattle.std.specs.Option.{option_map, option_map_or}
use Rattle.std.specs.Ordering.{int_eq}
use Rattle.std.proofs.lemmas.Int.{ints, clamps}
use Rattle.std.proofs.lemmas.Bool.Decides.{Decides-int_eq, Decides-not}
use Rattle.diagram_arena.specs.Table.{Word}
use Rattle.bit_machine.specs.Rules.{run, accepts}
use Rattle.linear_machine.specs.declared.comparison.Comparison.{Comparison}
use Rattle.linear_machine.specs.declared.comparison.Comparison.TheVariants.{Equal, Different, AtMost}
use Rattle.linear_machine.specs.declared.state.State.TheVariants.{Open, Settled}
use Rattle.linear_machine.specs.Sums.{LinearState, Compares, sum_of_true}
use Rattle.linear_machine.specs.Steps.{least_sum, greatest_sum, all_zero, all_at_most_zero, shared_answer, settle, compares, accept_of, rules_of}
use Rattle.linear_machine.proofs.Bounds.{least_low, greatest_high}

-- ---- comparisons with 0

at_most : (x : ℤ) → not (int_lt (pos 0) x) ≡ true → x ≤ℤ pos 0
at_most x h = grind (arith, ints)

not_more : (x : ℤ) → x ≤ℤ pos 0 → not (int_lt (pos 0) x) ≡ true
not_more x h = grind (arith, ints)

compares_Compares : (c : Comparison) (x : ℤ) → (compares c x ≡ true) ↔ Compares c x
compares_Compares Equal x = Decides-int_eq x (pos 0)
compares_Compares Different x = Decides-not (int_eq x (pos 0)) (Decides-int_eq x (pos 0))
compares_Compares AtMost x = (at_most x, not_more x)

all_zero_right : (low high x : ℤ) (b : Bool) → low ≤ℤ x → x ≤ℤ high → all_zero low high ≡ Some b → int_eq x (pos 0) ≡ b
all_zero_right low high x b from to is = grind (arith, ints)

all_at_most_zero_right : (low high x : ℤ) (b : Bool) → low ≤ℤ x → x ≤ℤ high → all_at_most_zero low high ≡ Some b → not (int_lt (pos 0) x) ≡ b
all_at_most_zero_right low high x b from to is = grind (arith, ints)

-- an answer that all sums share is that of each
shared_right : (c : Comparison) (low high x : ℤ) (b : Bool) → low ≤ℤ x → x ≤ℤ high → shared_answer c low high ≡ Some b → compares c x ≡ b
shared_right Equal low high x b from to is = all_zero_right low high x b from to is
shared_right Different low high x b from to is =
    let turned : (o : Option Bool) → all_zero low high ≡ o → option_map not o ≡ Some b → not (int_eq x (pos 0)) ≡ b
    = λ o. elim o as (λ p. all_zero low high ≡ p → option_map not p ≡ Some b → not (int_eq x (pos 0)) ≡ b) [
      | None ↦ λ e h. cc
      | Some v ↦ λ e h. let r = all_zero_right low high x v from to e in cc
    ] in
    turned (all_zero low high) refl is
shared_right AtMost low high x b from to is = all_at_most_zero_right low high x b from to is

-- ---- sums of words

sum_from : (bits : List ℕ) (xs : List ℤ) (w : Word) → least_sum xs ≤ℤ sum_of_true bits xs w
sum_from [] xs w = least_low xs
sum_from (b ∷ bs) [] w = omega (arith, ints)
sum_from (b ∷ bs) (x ∷ xs) w =
    let h = sum_from bs xs w in
    elim (w b) as (λ v. least_sum (x ∷ xs) ≤ℤ (cond v x (pos 0) +ℤ sum_of_true bs xs w)) [ true ↦ omega (arith, ints, clamps) | false ↦ omega (arith, ints, clamps) ]

sum_to : (bits : List ℕ) (xs : List ℤ) (w : Word) → sum_of_true bits xs w ≤ℤ greatest_sum xs
sum_to [] xs w = greatest_high xs
sum_to (b ∷ bs) [] w = omega (arith, ints)
sum_to (b ∷ bs) (x ∷ xs) w =
    let h = sum_to bs xs w in
    elim (w b) as (λ v. (cond v x (pos 0) +ℤ sum_of_true bs xs w) ≤ℤ greatest_sum (x ∷ xs)) [ true ↦ omega (arith, ints, clamps) | false ↦ omega (arith, ints, clamps) ]

sum_none : (bits : List ℕ) (w : Word) → sum_of_true bits [] w ≡ pos 0
sum_none [] w = refl
sum_none (b ∷ bs) w = refl

drop-nil : (k : ℕ) → drop {A = ℤ} k [] ≡ []
drop-nil zero = refl
drop-nil (suc k) = refl

nothing : (v : Bool) (x : ℤ) → cond v (pos 0) (pos 0) +ℤ x ≡ x
nothing true x = omega (arith, ints)
nothing false x = omega (arith, ints)

sum_step : (b : ℕ) (bs : List ℕ) (xs : List ℤ) (at : ℕ) (w : Word)
    → sum_of_true (b ∷ bs) (drop at xs) w ≡ cond (w b) (get_or xs at (pos 0)) (pos 0) +ℤ sum_of_true bs (drop (at + 1) xs) w
sum_step b bs [] at w =
    let e : (k : ℕ) → drop k [] ≡ [] = λ k. drop-nil k in
    ap (λ ys. sum_of_true (b ∷ bs) ys w) (e at) ∙ sym (nothing (w b) (sum_of_true bs (drop (at + 1) []) w) ∙ ap (λ ys. sum_of_true bs ys w) (e (at + 1)) ∙ sum_none bs w)
sum_step b bs (x ∷ xs) zero w = refl
sum_step b bs (x ∷ xs) (suc at) w =
    let e : suc (at + 1) ≡ suc at + 1 = omega arith in
    sum_step b bs xs at w ∙ ap (λ k. cond (w b) (get_or xs at (pos 0)) (pos 0) +ℤ sum_of_true bs (drop k (x ∷ xs)) w) e

-- ---- runs

run_settled : (m : LinearState) (at : ℕ) (answer : Bool) (bits : List ℕ) (w : Word) → run (rules_of m) at (Settled answer) bits w ≡ Settled answer
run_settled m at answer [] w = refl
run_settled m at answer (b ∷ bs) w = run_settled m (at + 1) answer bs w

-- settling early changes no answer
settle_right : (m : LinearState) (at : ℕ) (rest : List ℤ) (sum total : ℤ) (bits : List ℕ) (w : Word) → least_sum rest ≤ℤ total → total ≤ℤ greatest_sum rest
    → accept_of m (run (rules_of m) at (Open sum) bits w) ≡ compares m.comparison (sum +ℤ total)
    → accept_of m (run (rules_of m) at (settle m.comparison rest sum) bits w) ≡ compares m.comparison (sum +ℤ total)
settle_right m at rest sum total bits w from to open_right =
    let low = sum +ℤ least_sum rest in
    let high = sum +ℤ greatest_sum rest in
    let each : (o : Option Bool) → shared_answer m.comparison low high ≡ o
    → accept_of m (run (rules_of m) at (option_map_or Settled o (Open sum)) bits w) ≡ compares m.comparison (sum +ℤ total)
    = λ o. elim o as (λ p. shared_answer m.comparison low high ≡ p → accept_of m (run (rules_of m) at (option_map_or Settled p (Open sum)) bits w) ≡ compares m.comparison (sum +ℤ total)) [
      | None ↦ λ is. open_right
      | Some answer ↦ λ is. ap (accept_of m) (run_settled m at answer bits w) ∙ sym (shared_right m.comparison low high (sum +ℤ total) answer (omega (arith, ints)) (omega (arith, ints)) is)
    ] in
    each (shared_answer m.comparison low high) refl

reads : (m : LinearState) (at : ℕ) (sum : ℤ) (bits : List ℕ) (w : Word)
    → accept_of m (run (rules_of m) at (Open sum) bits w) ≡ compares m.comparison (sum +ℤ sum_of_true bits (drop at m.weights) w)
reads m at sum [] w = let e : sum ≡ sum +ℤ pos 0 = omega (arith, ints) in ap (compares m.comparison) e
reads m at sum (b ∷ bs) w =
    let x = cond (w b) (get_or m.weights at (pos 0)) (pos 0) in
    let rest = drop (at + 1) m.weights in
    let total = sum_of_true bs rest w in
    let e : (sum +ℤ x) +ℤ total ≡ sum +ℤ (x +ℤ total) = omega (arith, ints) in
    settle_right m (at + 1) rest (sum +ℤ x) total bs w (sum_from bs rest w) (sum_to bs rest w) (reads m (at + 1) (sum +ℤ x) bs w)
    ∙ ap (compares m.comparison) (e ∙ ap (λ y. sum +ℤ y) (sym (sum_step b bs m.weights at w)))

pub accepts_sum : (m : LinearState) (bits : List ℕ) (w : Word) → (accepts (rules_of m) bits w ≡ true) ↔ Compares m.comparison (m.constant +ℤ sum_of_true bits m.weights w)
accepts_sum m bits w =
    let is = settle_right m 0 m.weights m.constant (sum_of_true bits m.weights w) bits w (sum_from bits m.weights w) (sum_to bits m.weights w) (reads m 0 m.constant bits w) in
    let both = compares_Compares m.comparison (m.constant +ℤ sum_of_true bits m.weights w) in
    (λ h. both.0 (sym is ∙ h), λ h. is ∙ both.1 h)
