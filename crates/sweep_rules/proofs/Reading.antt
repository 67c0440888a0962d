-- What shapes side by side and shapes over a span read.
use Rattle.std.proofs.Common.{◌≡◌, ℕ, suc, ◌+◌, ◌-◌, ◌<◌, ◌≤◌, Bool, true, false, cond, ◌&&◌, List, [], ◌∷◌, ◌++◌, length, refl, sym, ◌∙◌, ap, inl, inr, length-append, arith}
use Rattle.std.proofs.lemmas.Bool.{cases_lt}
use Rattle.std.proofs.lemmas.Bool.Decides.{nat_tests}
use Rattle.sweep_rules.specs.Rules.{Rules, run, accepts, both, is_in_span, span_of}

pub run-append : {Q : Type 0} (rules : Rules Q) (at : ℕ) (q : Q) (front back : List Bool) → run rules at q (front ++ back) ≡ run rules (at + length front) (run rules at q front) back
run-append rules at q [] back = let e : at ≡ at + 0 = omega arith in ap (λ n. run rules n q back) e
run-append rules at q (b ∷ bs) back =
    let r = rules.step at q b in
    let e : at + 1 + length bs ≡ at + suc (length bs) = omega arith in
    run-append rules (at + 1) r bs back ∙ ap (λ n. run rules n (run rules (at + 1) r bs) back) e

-- ---- side by side

run-both : {P Q : Type 0} (first : Rules P) (second : Rules Q) (at : ℕ) (p : P) (q : Q) (bits : List Bool) → run (both first second) at (p, q) bits ≡ (run first at p bits, run second at q bits)
run-both first second at p q [] = refl
run-both first second at p q (b ∷ bs) = run-both first second (at + 1) (first.step at p b) (second.step at q b) bs

pub accepts-both : {P Q : Type 0} (first : Rules P) (second : Rules Q) (bits : List Bool) → accepts (both first second) bits ≡ (accepts first bits && accepts second bits)
accepts-both first second bits = ap (both first second).accept (run-both first second 0 first.start second.start bits)

and-false_left : (a b : Bool) → a ≡ false → (a && b) ≡ false
and-false_left a b e = ap (λ x. x && b) e

and-false_right : (a b : Bool) → b ≡ false → (a && b) ≡ false
and-false_right true b e = e
and-false_right false b e = refl

-- a state of which one part is lost is lost
pub lost_first : {P Q : Type 0} (first : Rules P) (second : Rules Q) (p : P) (q : Q) → ((at : ℕ) (rest : List Bool) → first.accept (run first at p rest) ≡ false)
    → (at : ℕ) (rest : List Bool) → (both first second).accept (run (both first second) at (p, q) rest) ≡ false
lost_first first second p q lost at rest =
    ap (both first second).accept (run-both first second at p q rest) ∙ and-false_left (first.accept (run first at p rest)) (second.accept (run second at q rest)) (lost at rest)

pub lost_second : {P Q : Type 0} (first : Rules P) (second : Rules Q) (p : P) (q : Q) → ((at : ℕ) (rest : List Bool) → second.accept (run second at q rest) ≡ false)
    → (at : ℕ) (rest : List Bool) → (both first second).accept (run (both first second) at (p, q) rest) ≡ false
lost_second first second p q lost at rest =
    ap (both first second).accept (run-both first second at p q rest) ∙ and-false_right (first.accept (run first at p rest)) (second.accept (run second at q rest)) (lost at rest)

-- ---- over a span

in_span : (skip long at : ℕ) → skip ≤ at → at < skip + long → is_in_span skip long at ≡ true
in_span skip long at low high = grind (arith, nat_tests)

below_span : (skip long at : ℕ) → at < skip → is_in_span skip long at ≡ false
below_span skip long at low = grind (arith, nat_tests)

above_span : (skip long at : ℕ) → skip + long ≤ at → is_in_span skip long at ≡ false
above_span skip long at high = grind (arith, nat_tests)

before : {Q : Type 0} (skip long : ℕ) (rules : Rules Q) (at : ℕ) (q : Q) (bits : List Bool) → at + length bits ≤ skip → run (span_of skip long rules) at q bits ≡ q
before skip long rules at q [] low = refl
before skip long rules at q (b ∷ bs) low =
    ap (λ x. run (span_of skip long rules) (at + 1) (cond x (rules.step (at - skip) q b) q) bs) (below_span skip long at (omega (arith, low)))
    ∙ before skip long rules (at + 1) q bs (omega (arith, low))

behind : {Q : Type 0} (skip long : ℕ) (rules : Rules Q) (at : ℕ) (q : Q) (bits : List Bool) → skip + long ≤ at → run (span_of skip long rules) at q bits ≡ q
behind skip long rules at q [] high = refl
behind skip long rules at q (b ∷ bs) high =
    ap (λ x. run (span_of skip long rules) (at + 1) (cond x (rules.step (at - skip) q b) q) bs) (above_span skip long at high)
    ∙ behind skip long rules (at + 1) q bs (omega (arith, high))

within : {Q : Type 0} (skip long : ℕ) (rules : Rules Q) (at place : ℕ) (q : Q) (bits : List Bool) → at ≡ skip + place → place + length bits ≤ long
    → run (span_of skip long rules) at q bits ≡ run rules place q bits
within skip long rules at place q [] here long_enough = refl
within skip long rules at place q (b ∷ bs) here long_enough =
    let e : at - skip ≡ place = omega (arith, here) in
    ap (λ x. run (span_of skip long rules) (at + 1) (cond x (rules.step (at - skip) q b) q) bs) (in_span skip long at (omega (arith, here)) (omega (arith, here, long_enough)))
    ∙ ap (λ k. run (span_of skip long rules) (at + 1) (rules.step k q b) bs) e
    ∙ within skip long rules (at + 1) (place + 1) (rules.step place q b) bs (omega (arith, here)) (omega (arith, long_enough))

pub accepts-span_of : {Q : Type 0} (rules : Rules Q) (front middle back : List Bool) → accepts (span_of (length front) (length middle) rules) (front ++ middle ++ back) ≡ accepts rules middle
accepts-span_of rules front middle back =
    let skip = length front in
    let long = length middle in
    let span = span_of skip long rules in
    let first : run span 0 rules.start front ≡ rules.start = before skip long rules 0 rules.start front (omega arith) in
    let second : run span (0 + skip) rules.start middle ≡ run rules 0 rules.start middle = within skip long rules (0 + skip) 0 rules.start middle (omega arith) (omega arith) in
    let end = run rules 0 rules.start middle in
    ap rules.accept (
    run-append span 0 rules.start (front ++ middle) back
    ∙ ap (λ q. run span (0 + length (front ++ middle)) q back) (run-append span 0 rules.start front middle ∙ ap (λ q. run span (0 + skip) q middle) first ∙ second)
    ∙ behind skip long rules (0 + length (front ++ middle)) end back (simp length-append (omega arith)))

-- what is lost for the shape is lost over the span
pub lost_over : {Q : Type 0} (skip long : ℕ) (rules : Rules Q) (at : ℕ) (q : Q) (bits : List Bool) → ((rest : List Bool) → rules.accept (run rules (at - skip) q rest) ≡ false)
    → rules.accept (run (span_of skip long rules) at q bits) ≡ false
lost_over skip long rules at q [] lost = lost []
lost_over skip long rules at q (b ∷ bs) lost = elim (cases_lt at skip) [
  | inl low ↦
      let e : at - skip ≡ at + 1 - skip = omega (arith, low) in
      ap (λ x. rules.accept (run (span_of skip long rules) (at + 1) (cond x (rules.step (at - skip) q b) q) bs)) (below_span skip long at low)
      ∙ lost_over skip long rules (at + 1) q bs (λ rest. ap (λ k. rules.accept (run rules k q rest)) (sym e) ∙ lost rest)
  | inr from ↦ elim (cases_lt at (skip + long)) [
    | inl to ↦
        let e : at + 1 - skip ≡ at - skip + 1 = omega (arith, from) in
        ap (λ x. rules.accept (run (span_of skip long rules) (at + 1) (cond x (rules.step (at - skip) q b) q) bs)) (in_span skip long at from to)
        ∙ lost_over skip long rules (at + 1) (rules.step (at - skip) q b) bs (λ rest. ap (λ k. rules.accept (run rules k (rules.step (at - skip) q b) rest)) e ∙ lost (b ∷ rest))
    | inr past ↦ ap rules.accept (behind skip long rules at q (b ∷ bs) past) ∙ lost []
  ]
]
