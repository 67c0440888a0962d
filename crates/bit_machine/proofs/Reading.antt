-- What a machine accepts hangs on the bits that it reads, and machines side by side read apart.
use Rattle.std.proofs.Common.{◌≡◌, ℕ, suc, ◌+◌, ◌-◌, ◌<◌, ◌≤◌, Bool, true, false, not, eqb, cond, List, [], ◌∷◌, ◌++◌, length, get_or, refl, sym, ◌∙◌, ap, inl, inr, arith}
use Rattle.std.specs.List.{All, AllPass}
use Rattle.std.proofs.lemmas.Bool.{cases_order, ne_eqb}
use Rattle.std.proofs.lemmas.Bool.Decides.{nat_tests}
use Rattle.std.proofs.lemmas.List.Elements.{All-head, All-tail, All-weaker}
use Rattle.diagram_arena.specs.Table.{Word}
use Rattle.diagram_arena.specs.Part.{with_front, IsPartOf}
use Rattle.diagram_arena.specs.Reach.{Bits, DependsOn}
use Rattle.bit_machine.specs.Rules.{Rules, run, accepts, side_by_side, complemented, bit_at}

run-agree : {Q : Type 0} (rules : Rules Q) (at : ℕ) (q : Q) (bits : List ℕ) (w u : Word) → All (λ b. w b ≡ u b) bits → run rules at q bits w ≡ run rules at q bits u
run-agree rules at q [] w u agree = refl
run-agree rules at q (b ∷ bs) w u agree =
    ap (λ v. run rules (at + 1) (rules.step at q v) bs w) (All-head (λ c. w c ≡ u c) b bs agree)
    ∙ run-agree rules (at + 1) (rules.step at q (u b)) bs w u (All-tail (λ c. w c ≡ u c) b bs agree)

pub run_depends : {Q : Type 0} (rules : Rules Q) (at : ℕ) (q : Q) (bits : List ℕ) (set : Bits) → AllPass set bits → DependsOn set (λ w. rules.accept (run rules at q bits w))
run_depends rules at q bits set all w u agree =
    ap rules.accept (run-agree rules at q bits w u (All-weaker (λ b. set b ≡ true) (λ b. w b ≡ u b) agree bits all))

pub run-append : {Q : Type 0} (rules : Rules Q) (at : ℕ) (q : Q) (front back : List ℕ) (w : Word)
    → run rules at q (front ++ back) w ≡ run rules (at + length front) (run rules at q front w) back w
run-append rules at q [] back w = let e : at ≡ at + 0 = omega arith in ap (λ n. run rules n q back w) e
run-append rules at q (b ∷ bs) back w =
    let q' = rules.step at q (w b) in
    let e : at + 1 + length bs ≡ at + suc (length bs) = omega arith in
    run-append rules (at + 1) q' bs back w ∙ ap (λ n. run rules n (run rules (at + 1) q' bs w) back w) e

run-side_by_side : {P Q : Type 0} (join : Bool → Bool → Bool) (first : Rules P) (second : Rules Q) (at : ℕ) (p : P) (q : Q) (bits : List ℕ) (w : Word)
    → run (side_by_side join first second) at (p, q) bits w ≡ (run first at p bits w, run second at q bits w)
run-side_by_side join first second at p q [] w = refl
run-side_by_side join first second at p q (b ∷ bs) w = run-side_by_side join first second (at + 1) (first.step at p (w b)) (second.step at q (w b)) bs w

pub accepts-side_by_side : {P Q : Type 0} (join : Bool → Bool → Bool) (first : Rules P) (second : Rules Q) (bits : List ℕ) (w : Word)
    → accepts (side_by_side join first second) bits w ≡ join (accepts first bits w) (accepts second bits w)
accepts-side_by_side join first second bits w =
    ap (side_by_side join first second).accept (run-side_by_side join first second 0 first.start second.start bits w)

run-complemented : {Q : Type 0} (rules : Rules Q) (at : ℕ) (q : Q) (bits : List ℕ) (w : Word) → run (complemented rules) at q bits w ≡ run rules at q bits w
run-complemented rules at q [] w = refl
run-complemented rules at q (b ∷ bs) w = run-complemented rules (at + 1) (rules.step at q (w b)) bs w

pub accepts-complemented : {Q : Type 0} (rules : Rules Q) (bits : List ℕ) (w : Word) → accepts (complemented rules) bits w ≡ not (accepts rules bits w)
accepts-complemented rules bits w = ap (λ q. not (rules.accept q)) (run-complemented rules 0 rules.start bits w)

-- once its place is passed, the machine of one bit stays as it is
run-past : (place at : ℕ) (q : Bool) (bits : List ℕ) (w : Word) → place < at → run (bit_at place) at q bits w ≡ q
run-past place at q [] w past = refl
run-past place at q (b ∷ bs) w past =
    ap (λ x. run (bit_at place) (at + 1) (cond x (w b) q) bs w) (ne_eqb at place (λ e. omega (arith, past, e)))
    ∙ run-past place (at + 1) q bs w (omega (arith, past))

run-bit_at : (place at : ℕ) (q : Bool) (bits : List ℕ) (w : Word) → at ≤ place → place < at + length bits → run (bit_at place) at q bits w ≡ w (get_or bits (place - at) 0)
run-bit_at place at q [] w from to = absurd (omega (arith, from, to))
run-bit_at place at q (b ∷ bs) w from to =
    elim (cases_order at place) [
      | inl here ↦
          let first : place - at ≡ 0 = omega (arith, here) in
          let same : eqb at place ≡ true = grind (arith, nat_tests, here) in
          ap (λ x. run (bit_at place) (at + 1) (cond x (w b) q) bs w) same
          ∙ run-past place (at + 1) (w b) bs w (omega (arith, here)) ∙ ap (λ k. w (get_or (b ∷ bs) k 0)) (sym first)
      | inr other ↦ elim other [
        | inl before ↦
            let rest : place - at ≡ suc (place - (at + 1)) = omega (arith, before) in
            ap (λ x. run (bit_at place) (at + 1) (cond x (w b) q) bs w) (ne_eqb at place (λ e. omega (arith, before, e)))
            ∙ run-bit_at place (at + 1) q bs w (omega (arith, before)) (omega (arith, to)) ∙ ap (λ k. w (get_or (b ∷ bs) k 0)) (sym rest)
        | inr after ↦ absurd (omega (arith, from, after))
      ]
    ]

pub accepts-bit_at : (place : ℕ) (bits : List ℕ) (w : Word) → place < length bits → accepts (bit_at place) bits w ≡ w (get_or bits place 0)
accepts-bit_at place bits w within = run-bit_at place 0 false bits w (omega arith) (omega (arith, within)) ∙ ap (λ k. w (get_or bits k 0)) (omega arith)

front-at : (b : ℕ) (v : Bool) (w : Word) → with_front (b + 1) (λ _. v) w b ≡ v
front-at b v w = grind (arith, nat_tests)

front-beyond : (a b : ℕ) (v : Bool) (w : Word) → a < b → with_front (a + 1) (λ _. v) w b ≡ w b
front-beyond a b v w far = grind (arith, nat_tests)

-- what is accepted after a step is a part of what is accepted before it
pub step_part : {Q : Type 0} (rules : Rules Q) (at : ℕ) (q : Q) (b : ℕ) (bs : List ℕ) (v : Bool) → All (λ c. b < c) bs
    → IsPartOf (λ w. rules.accept (run rules (at + 1) (rules.step at q v) bs w)) (λ w. rules.accept (run rules at q (b ∷ bs) w))
step_part rules at q b bs v above = record {
  from = b + 1;
  front = λ _. v;
  same = λ w. let u : Word = with_front (b + 1) (λ _. v) w in
      ap rules.accept (sym (ap (λ x. run rules (at + 1) (rules.step at q x) bs u) (front-at b v w)
      ∙ run-agree rules (at + 1) (rules.step at q v) bs u w (All-weaker (λ c. b < c) (λ c. u c ≡ w c) (λ c far. front-beyond b c v w far) bs above)));
}
