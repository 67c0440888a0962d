-- A machine that passes over bits accepts what it accepts by reading the others alone.
use Rattle.std.proofs.Common.{◌≡◌, ℕ, suc, ◌+◌, ◌<◌, ◌≤◌, Bool, true, false, eqb, cond, List, [], ◌∷◌, length, get_or, drop, ◌++◌, append_assoc, zero, Option, Some, None, refl, sym, ap, ◌∙◌, subst, inl, inr, arith, Contains}
use Rattle.std.specs.Prelude.{slice_get}
use Rattle.std.specs.List.Sorted.{IsStrictlyIncreasing}
use Rattle.std.proofs.lemmas.Bool.{cases_Bool, cases_lt, eqb-true, eq-eqb}
use Rattle.std.proofs.lemmas.List.{drop_more}
use Rattle.std.proofs.lemmas.Option.{slice_get-get_or, slice_get_past}
use Rattle.std.proofs.lemmas.Map.Keys.{IsStrictlyIncreasing-from_sorted, sorted_tail, sorted_from_strictly_increasing, below_from_sorted}
use Rattle.std.specs.Ordering.{nat_cmp}
use Rattle.diagram_arena.specs.Table.{Word}
use Rattle.bit_machine.specs.Rules.{Rules, run, accepts}
use Rattle.bit_layout.proofs.Rising.{nothing_in_empty, in_cons, in_head, in_tail}
use Rattle.set_shapes.specs.Passing.{met, places_among, step_by, passing}

-- ---- along the list of places

goes : {Q : Type 0} → Rules Q → List (Option ℕ) → Q → List ℕ → Word → Q
goes rules [] q bits w = q
goes rules (p ∷ ps) q [] w = q
goes rules (p ∷ ps) q (b ∷ bs) w = goes rules ps (step_by rules (Some p) q (w b)) bs w

goes_none : {Q : Type 0} (rules : Rules Q) (ps : List (Option ℕ)) (q : Q) (w : Word) → goes rules ps q [] w ≡ q
unfolding goes
goes_none rules [] q w = refl
goes_none rules (p ∷ ps) q w = refl

run_goes : {Q : Type 0} (rules : Rules Q) (places : List (Option ℕ)) (at : ℕ) (q : Q) (bits : List ℕ) (w : Word) → at + length bits ≤ length places
    → run (passing places rules) at q bits w ≡ goes rules (drop at places) q bits w
unfolding goes
run_goes rules places at q [] w within = sym (goes_none rules (drop at places) q w)
run_goes rules places at q (b ∷ bs) w within =
    let here : at < length places = omega (arith, within) in
    let p : Option ℕ = get_or places at None in
    let rest : List (Option ℕ) = drop (at + 1) places in
    let is : drop at places ≡ p ∷ rest = drop_more places at None here in
    let found : slice_get places at ≡ Some p = slice_get-get_or places at None here in
    run_goes rules places (at + 1) ((passing places rules).step at q (w b)) bs w (omega (arith, within))
    ∙ ap (λ o. goes rules rest (step_by rules o q (w b)) bs w) found
    ∙ sym (ap (λ ps. goes rules ps q (b ∷ bs) w) is)

-- ---- bits that are among others, both ascending

increasing_tail : (b : ℕ) (bs : List ℕ) → IsStrictlyIncreasing (b ∷ bs) → IsStrictlyIncreasing bs
increasing_tail b bs up = IsStrictlyIncreasing-from_sorted bs (sorted_tail nat_cmp b bs (sorted_from_strictly_increasing (b ∷ bs) up))

above_head : (b : ℕ) (bs : List ℕ) (x : ℕ) → IsStrictlyIncreasing (b ∷ bs) → Contains bs x → b < x
above_head b bs x up h =
    let rise = below_from_sorted (b ∷ bs) 0 (suc h.0) x (sorted_from_strictly_increasing (b ∷ bs) up) (omega arith) (let low = h.1 in omega (arith, low)) in
    let there = h.2 in
    omega (arith, rise, there)

AreAmong : List ℕ → List ℕ → Type 0
AreAmong own bits = (x : ℕ) → Contains own x → Contains bits x

-- where the first bits are one, so they are behind it
among_same : (r : ℕ) (own : List ℕ) (b : ℕ) (bits : List ℕ) → IsStrictlyIncreasing (r ∷ own) → b ≡ r → AreAmong (r ∷ own) (b ∷ bits) → AreAmong own bits
unfolding AreAmong
among_same r own b bits up same all x h =
    elim (in_cons b bits x (all x (in_tail r own x h))) [
      | inl here ↦ absurd (let above = above_head r own x up h in omega (arith, above, here, same))
      | inr later ↦ later
    ]

-- where they differ, the first of the others is none of them
among_other : (r : ℕ) (own : List ℕ) (b : ℕ) (bits : List ℕ) → IsStrictlyIncreasing (r ∷ own) → IsStrictlyIncreasing (b ∷ bits) → (b ≡ r → ⊥) → AreAmong (r ∷ own) (b ∷ bits) → AreAmong (r ∷ own) bits
unfolding AreAmong
among_other r own b bits up up' other all x h =
    elim (in_cons b bits x (all x h)) [
      | inr later ↦ later
      | inl here ↦ elim (in_cons b bits r (all r (in_head r own))) [
        | inl first ↦ absurd (other first)
        | inr behind ↦ elim (in_cons r own x h) [
          | inl one ↦ absurd (other (here ∙ sym one))
          | inr after ↦ absurd (
              let low = above_head b bits r up' behind in
              let high = above_head r own x up after in
              omega (arith, low, high, here))
        ]
      ]
    ]

goes_among : {Q : Type 0} (rules : Rules Q) (j : ℕ) (q : Q) (own bits : List ℕ) (w : Word) → IsStrictlyIncreasing own → IsStrictlyIncreasing bits → AreAmong own bits
    → goes rules (places_among j own bits) q bits w ≡ run rules j q own w
unfolding goes AreAmong
goes_among rules j q [] [] w up up' all = refl
goes_among rules j q (r ∷ own) [] w up up' all = absurd (nothing_in_empty r (all r (in_head r own)))
goes_among rules j q [] (b ∷ bits) w up up' all = goes_among rules j q [] bits w up (increasing_tail b bits up') (λ x h. absurd (nothing_in_empty x h))
goes_among rules j q (r ∷ own) (b ∷ bits) w up up' all =
    elim (cases_Bool (eqb b r)) [
      | inl same ↦
          let one : b ≡ r = eqb-true b r same in
          ap (λ v. goes rules (cond v (Some j ∷ places_among (j + 1) own bits) (None ∷ places_among j (r ∷ own) bits)) q (b ∷ bits) w) same
          ∙ goes_among rules (j + 1) (rules.step j q (w b)) own bits w (increasing_tail r own up) (increasing_tail b bits up') (among_same r own b bits up one all)
          ∙ ap (λ c. run rules (j + 1) (rules.step j q (w c)) own w) one
      | inr other ↦
          ap (λ v. goes rules (cond v (Some j ∷ places_among (j + 1) own bits) (None ∷ places_among j (r ∷ own) bits)) q (b ∷ bits) w) other
          ∙ goes_among rules j q (r ∷ own) bits w up (increasing_tail b bits up')
          (among_other r own b bits up up' (λ e. let yes_one : eqb b r ≡ true = eq-eqb b r e in let f : false ≡ true = sym other ∙ yes_one in cc) all)
    ]

pub passing_accepts : {Q : Type 0} (rules : Rules Q) (own bits : List ℕ) (w : Word) → IsStrictlyIncreasing own → IsStrictlyIncreasing bits → ((x : ℕ) → Contains own x → Contains bits x)
    → length (places_among 0 own bits) ≡ length bits → accepts (passing (places_among 0 own bits) rules) bits w ≡ accepts rules own w
unfolding AreAmong
passing_accepts rules own bits w up up' all long =
    ap rules.accept (run_goes rules (places_among 0 own bits) 0 rules.start bits w (omega (arith, long)) ∙ goes_among rules 0 rules.start own bits w up up' all)

longer : (j : ℕ) (own bits : List ℕ) (r : ℕ) (v : Bool) → length (places_among (j + 1) own bits) ≡ length bits → length (places_among j (r ∷ own) bits) ≡ length bits
    → length (cond v (Some j ∷ places_among (j + 1) own bits) (None ∷ places_among j (r ∷ own) bits)) ≡ suc (length bits)
longer j own bits r true p q = ap suc p
longer j own bits r false p q = ap suc q

pub places_long : (j : ℕ) (own bits : List ℕ) → length (places_among j own bits) ≡ length bits
places_long j own [] = refl
places_long j [] (b ∷ bits) = ap suc (places_long j [] bits)
places_long j (r ∷ own) (b ∷ bits) = longer j own bits r (eqb b r) (places_long (j + 1) own bits) (places_long j (r ∷ own) bits)

-- ---- how the places are found

drop_past : (xs : List ℕ) (n : ℕ) → length xs ≤ n → drop n xs ≡ []
drop_past [] zero past = refl
drop_past [] (suc n) past = refl
drop_past (x ∷ xs) zero past = absurd (omega (arith, past))
drop_past (x ∷ xs) (suc n) past = drop_past xs n (omega (arith, past))

module _ (own : List ℕ) (next b : ℕ) (bs : List ℕ) where
  GoesOn : Option ℕ × ℕ → Type 0
  GoesOn m = places_among next (drop next own) (b ∷ bs) ≡ m.0 ∷ places_among m.1 (drop m.1 own) bs

  after_first : (r : ℕ) → drop next own ≡ r ∷ drop (next + 1) own → slice_get own next ≡ Some r → (v : Bool) → eqb b r ≡ v → GoesOn (met next (slice_get own next) b)
  unfolding GoesOn
  after_first r is found true e =
      let rest : List ℕ = drop (next + 1) own in
      let m : met next (slice_get own next) b ≡ (Some next, next + 1) = ap (λ o. met next o b) found ∙ ap (λ v. cond v (Some next, next + 1) (None, next)) e in
      subst GoesOn (sym m) (ap (λ d. places_among next d (b ∷ bs)) is
      ∙ ap (λ v. cond v (Some next ∷ places_among (next + 1) rest bs) (None ∷ places_among next (r ∷ rest) bs)) e)
  after_first r is found false e =
      let rest : List ℕ = drop (next + 1) own in
      let m : met next (slice_get own next) b ≡ (None, next) = ap (λ o. met next o b) found ∙ ap (λ v. cond v (Some next, next + 1) (None, next)) e in
      subst GoesOn (sym m) (ap (λ d. places_among next d (b ∷ bs)) is
      ∙ ap (λ v. cond v (Some next ∷ places_among (next + 1) rest bs) (None ∷ places_among next (r ∷ rest) bs)) e
      ∙ ap (λ d. None ∷ places_among next d bs) (sym is))

  goes_on : GoesOn (met next (slice_get own next) b)
  unfolding GoesOn
  goes_on = elim (cases_lt next (length own)) [
    | inl within ↦
        let r : ℕ = get_or own next 0 in
        after_first r (drop_more own next 0 within) (slice_get-get_or own next 0 within) (eqb b r) refl
    | inr past ↦
        let m : met next (slice_get own next) b ≡ (None, next) = ap (λ o. met next o b) (slice_get_past own next past) in
        let none : drop next own ≡ [] = drop_past own next past in
        subst GoesOn (sym m) (ap (λ d. places_among next d (b ∷ bs)) none ∙ ap (λ d. None ∷ places_among next d bs) (sym none))
  ]

pub places_next : (own bits : List ℕ) (before after : List (Option ℕ)) (next i : ℕ) (m : Option ℕ × ℕ) → i < length bits → before ++ places_among next (drop next own) (drop i bits) ≡ places_among 0 own bits
    → m ≡ met next (slice_get own next) (get_or bits i 0) → after ≡ before ++ m.0 ∷ [] → after ++ places_among m.1 (drop m.1 own) (drop (i + 1) bits) ≡ places_among 0 own bits
unfolding GoesOn
places_next own bits before after next i m within so_far is push =
    let b : ℕ = get_or bits i 0 in
    let bs : List ℕ = drop (i + 1) bits in
    let at : drop i bits ≡ b ∷ bs = drop_more bits i 0 within in
    let step : places_among next (drop next own) (b ∷ bs) ≡ m.0 ∷ places_among m.1 (drop m.1 own) bs = subst (GoesOn own next b bs) (sym is) (goes_on own next b bs) in
    ap (λ xs. xs ++ places_among m.1 (drop m.1 own) bs) push ∙ append_assoc before (m.0 ∷ []) (places_among m.1 (drop m.1 own) bs)
    ∙ ap (λ xs. before ++ xs) (sym step) ∙ ap (λ ys. before ++ places_among next (drop next own) ys) (sym at) ∙ so_far
