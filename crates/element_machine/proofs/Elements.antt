-- Reading bits by a table is reading elements.
use Rattle.std.proofs.Common.{◌≡◌, ℕ, zero, suc, ◌+◌, ◌-◌, ◌<◌, ◌≤◌, eqb, Bool, true, false, ◌||◌, ◌&&◌, List, [], ◌∷◌, ◌++◌, length, get_or, take, drop, refl, sym, ap, ◌∙◌, subst, arith, drop-cons, add-one}
use Rattle.std.proofs.lemmas.Bool.{ne_eqb, eq-eqb}
use Rattle.diagram_arena.specs.Table.{Word}
use Rattle.bit_machine.specs.Rules.{run, accepts}
use Rattle.element_machine.specs.declared.marks.Marks.{Marks}
use Rattle.element_machine.specs.declared.marks.Entry.{Entry}
use Rattle.element_machine.specs.Rules.{unmarked, joined, when, ElementRules, after, accepts_elements}
use Rattle.element_machine.specs.Reading.{first_element, AreGrouped, marked, elements_from, elements_of, closed, between, no_entry, by_elements}

-- ---- marks

or_none : (a : Bool) → (a || false) ≡ a
or_none true = refl
or_none false = refl

or_assoc : (a b c : Bool) → ((a || b) || c) ≡ (a || (b || c))
or_assoc true b c = refl
or_assoc false b c = refl

joined-none : (m : Marks) → joined m unmarked ≡ m
joined-none m = λ i. record { first = or_none m.first i; second = or_none m.second i; third = or_none m.third i }

joined-assoc : (a b c : Marks) → joined (joined a b) c ≡ joined a (joined b c)
joined-assoc a b c = λ i. record { first = or_assoc a.first b.first c.first i; second = or_assoc a.second b.second c.second i; third = or_assoc a.third b.third c.third i }

-- ---- the elements from one on, of which something was seen

-- seen of the element number j, and of later ones by the bits that follow
from_here : Marks → (ℕ → Marks) → ℕ → List Marks → List Marks
from_here seen g j [] = []
from_here seen g j (c ∷ cs) = joined (joined seen (g j)) c ∷ elements_from g (j + 1) cs

elements_same : (f g : ℕ → Marks) (j : ℕ) (cs : List Marks) → ((i : ℕ) → j ≤ i → f i ≡ g i) → elements_from f j cs ≡ elements_from g j cs
elements_same f g j [] same = refl
elements_same f g j (c ∷ cs) same = λ k. joined (same j (omega arith) k) c ∷ elements_same f g (j + 1) cs (λ i far. same i (omega (arith, far))) k

from_here-none : (g : ℕ → Marks) (j : ℕ) (cs : List Marks) → from_here unmarked g j cs ≡ elements_from g j cs
unfolding from_here
from_here-none g j [] = refl
from_here-none g j (c ∷ cs) = refl

-- elements of which nothing is seen are those of their constants
elements_unseen : (g : ℕ → Marks) (m j : ℕ) (cs : List Marks) → ((i : ℕ) → j ≤ i → i < j + m → g i ≡ unmarked) → elements_from g j cs ≡ take m cs ++ elements_from g (j + m) (drop m cs)
elements_unseen g zero j cs none = ap (λ n. elements_from g n cs) (omega arith)
elements_unseen g (suc m) j [] none = refl
elements_unseen g (suc m) j (c ∷ cs) none =
    let here : g j ≡ unmarked = none j (omega arith) (omega arith) in
    let at : (j + 1) + m ≡ j + suc m = omega arith in
    (λ k. joined (here k) c ∷ elements_unseen g m (j + 1) cs (λ i low high. none i (omega (arith, low)) (omega (arith, high))) k)
    ∙ ap (λ n. c ∷ (take m cs ++ elements_from g n (drop m cs))) at

after-append : {Q : Type 0} (rules : ElementRules Q) (q : Q) (ms ns : List Marks) → after rules q (ms ++ ns) ≡ after rules (after rules q ms) ns
after-append rules q [] ns = refl
after-append rules q (m ∷ ms) ns = after-append rules (rules.close q m) ms ns

-- ---- what the bits mark

marked-before : (end : ℕ) (es : List Entry) (bs : List ℕ) (w : Word) (i : ℕ) → AreGrouped end es → i < first_element end es → marked es bs w i ≡ unmarked
marked-before end [] bs w i ok low = refl
marked-before end (e ∷ es) [] w i ok low = refl
marked-before end (e ∷ es) (b ∷ bs) w i ok low =
    let up : e.element ≤ first_element end es = ok.1 in
    let other : eqb e.element i ≡ false = ne_eqb e.element i (λ same. omega (arith, low, same)) in
    ap (λ x. joined (when (x && w b) e.marks) (marked es bs w i)) other ∙ marked-before end es bs w i ok.2 (omega (arith, up, low))

marked-later : (e : Entry) (es : List Entry) (b : ℕ) (bs : List ℕ) (w : Word) (i : ℕ) → e.element < i → marked (e ∷ es) (b ∷ bs) w i ≡ marked es bs w i
marked-later e es b bs w i high = ap (λ x. joined (when (x && w b) e.marks) (marked es bs w i)) (ne_eqb e.element i (λ same. omega (arith, high, same)))

marked-here : (e : Entry) (es : List Entry) (b : ℕ) (bs : List ℕ) (w : Word) → marked (e ∷ es) (b ∷ bs) w e.element ≡ joined (when (w b) e.marks) (marked es bs w e.element)
marked-here e es b bs w = ap (λ x. joined (when (x && w b) e.marks) (marked es bs w e.element)) (eq-eqb e.element e.element refl)

-- ---- one bit

-- the bit is not the last of its element
stays_open : (seen m : Marks) (f g : ℕ → Marks) (j : ℕ) (cs : List Marks) → f j ≡ joined m (g j) → ((i : ℕ) → j < i → f i ≡ g i) → from_here (joined seen m) g j cs ≡ from_here seen f j cs
unfolding from_here
stays_open seen m f g j [] here later = refl
stays_open seen m f g j (c ∷ cs) here later =
    (λ k. joined (joined-assoc seen m (g j) k) c ∷ elements_from g (j + 1) cs)
    ∙ (λ k. joined (joined seen (sym here k)) c ∷ sym (elements_same f g (j + 1) cs (λ i far. later i (omega (arith, far)))) k)

-- the bit is the last of its element, and n more elements without bits follow
closes : {Q : Type 0} (rules : ElementRules Q) (q : Q) (seen m : Marks) (f g : ℕ → Marks) (j n : ℕ) (c : Marks) (cs : List Marks) → f j ≡ joined m (g j) → g j ≡ unmarked → ((i : ℕ) → j < i → f i ≡ g i)
    → ((i : ℕ) → j < i → i < (j + 1) + n → g i ≡ unmarked)
    → after rules (after rules (rules.close q (joined (joined seen m) c)) (take n cs)) (elements_from g ((j + 1) + n) (drop n cs)) ≡ after rules q (from_here seen f j (c ∷ cs))
unfolding from_here
closes rules q seen m f g j n c cs here none later unseen =
    let whole : f j ≡ m = here ∙ ap (joined m) none ∙ joined-none m in
    sym (after-append rules (rules.close q (joined (joined seen m) c)) (take n cs) (elements_from g ((j + 1) + n) (drop n cs)))
    ∙ ap (after rules (rules.close q (joined (joined seen m) c))) (sym (elements_unseen g n (j + 1) cs (λ i low high. unseen i (omega (arith, low)) high)))
    ∙ (λ k. after rules (rules.close q (joined (joined seen (sym whole k)) c)) (sym (elements_same f g (j + 1) cs (λ i far. later i (omega (arith, far)))) k))

-- ---- all bits

drop-step : {X : Type 0} (xs : List X) (at : ℕ) (x : X) (rest : List X) (d : X) → drop at xs ≡ x ∷ rest → (get_or xs at d ≡ x) × (drop (at + 1) xs ≡ rest)
drop-step [] zero x rest d e = absurd (cc)
drop-step [] (suc at) x rest d e = absurd (cc)
drop-step (y ∷ ys) zero x rest d e = let a : y ≡ x = cc in let b : ys ≡ rest = cc in (a, b)
drop-step (y ∷ ys) (suc at) x rest d e =
    let r = drop-step ys at x rest d e in
    let next : suc at + 1 ≡ suc (at + 1) = omega arith in
    (r.0, ap (λ n. drop n (y ∷ ys)) next ∙ r.1)

drop-nil : {X : Type 0} (n : ℕ) → drop {A = X} n [] ≡ []
drop-nil zero = refl
drop-nil (suc n) = refl

drop-drop : {X : Type 0} (n m : ℕ) (xs : List X) → drop n (drop m xs) ≡ drop (m + n) xs
drop-drop n zero xs = ap (λ k. drop k xs) (omega arith)
drop-drop n (suc m) [] = drop-nil n ∙ sym (drop-nil (suc m + n))
drop-drop n (suc m) (x ∷ xs) = let e : suc m + n ≡ suc (m + n) = omega arith in drop-drop n m xs ∙ sym (ap (λ k. drop k (x ∷ xs)) e)

drop-all : {X : Type 0} (xs : List X) → drop (length xs) xs ≡ []
drop-all [] = refl
drop-all (x ∷ xs) = drop-all xs

-- the state once the bit is read, d being how many elements end with it
step-elements : {Q : Type 0} (rules : ElementRules Q) (constants : List Marks) (q : Q) (seen m : Marks) (f g : ℕ → Marks) (j next d : ℕ)
    → next - j ≡ d → j ≤ next → j < length constants → f j ≡ joined m (g j) → ((i : ℕ) → j < i → f i ≡ g i) → ((i : ℕ) → i < next → g i ≡ unmarked)
    → let state = closed rules q (joined seen m) (take d (drop j constants)) in after rules state.0 (from_here state.1 g next (drop next constants)) ≡ after rules q (from_here seen f j (drop j constants))
step-elements rules constants q seen m f g j next zero far up within here later none =
    let same : next ≡ j = omega (arith, far, up) in
    ap (λ n. after rules q (from_here (joined seen m) g n (drop n constants))) same
    ∙ ap (after rules q) (stays_open seen m f g j (drop j constants) here later)
step-elements rules constants q seen m f g j next (suc n) far up within here later none =
    let c : Marks = get_or constants j unmarked in
    let cs : List Marks = drop (j + 1) constants in
    let first : drop j constants ≡ c ∷ cs = drop-cons constants j unmarked within ∙ (λ i. c ∷ drop (sym (add-one j) i) constants) in
    let at : next ≡ (j + 1) + n = omega (arith, far, up) in
    let P : List Marks → Type 0 = λ ds. let state = closed rules q (joined seen m) (take (suc n) ds) in after rules state.0 (from_here state.1 g next (drop next constants)) ≡ after rules q (from_here seen f j ds) in
    let q2 = after rules (rules.close q (joined (joined seen m) c)) (take n cs) in
    subst P (sym first)
    (ap (after rules q2) (from_here-none g next (drop next constants) ∙ ap (λ k. elements_from g k (drop k constants)) at ∙ ap (elements_from g ((j + 1) + n)) (sym (drop-drop n (j + 1) constants)))
    ∙ closes rules q seen m f g j n c cs here (none j (omega (arith, far))) later (λ i low high. none i (omega (arith, at, high))))

run-elements : {Q : Type 0} (rules : ElementRules Q) (constants : List Marks) (entries : List Entry) (at : ℕ) (q : Q) (seen : Marks) (es : List Entry) (bs : List ℕ) (w : Word)
    → drop at entries ≡ es → AreGrouped (length constants) es → length es ≡ length bs
    → (run (by_elements rules constants entries) at (q, seen) bs w).0 ≡ after rules q (from_here seen (marked es bs w) (first_element (length constants) es) (drop (first_element (length constants) es) constants))
unfolding from_here
run-elements rules constants entries at q seen [] [] w left ok long = sym (ap (λ cs. after rules q (from_here seen (marked [] [] w) (length constants) cs)) (drop-all constants))
run-elements rules constants entries at q seen [] (b ∷ bs) w left ok long = absurd (omega (arith, long))
run-elements rules constants entries at q seen (e ∷ es) [] w left ok long = absurd (omega (arith, long))
run-elements {Q} rules constants entries at q seen (e ∷ es) (b ∷ bs) w left ok long =
    let split = drop-step entries at e es no_entry left in
    let end : ℕ = length constants in
    let m : Marks = when (w b) e.marks in
    let moved : Entry → List Entry → Q × Marks = λ x xs. closed rules q (joined seen (when (w b) x.marks)) (between constants x.element (first_element end xs)) in
    let q2 : Q × Marks = moved e es in
    let next : ℕ = first_element end es in
    let g : ℕ → Marks = marked es bs w in
    let f : ℕ → Marks = marked (e ∷ es) (b ∷ bs) w in
    (λ i. (run (by_elements rules constants entries) (at + 1) (moved (split.0 i) (split.1 i)) bs w).0)
    ∙ run-elements rules constants entries (at + 1) q2.0 q2.1 es bs w split.1 ok.2 (omega (arith, long))
    ∙ step-elements rules constants q seen m f g e.element next (next - e.element) refl ok.1 ok.0 (marked-here e es b bs w) (λ i high. marked-later e es b bs w i high)
    (λ i low. marked-before end es bs w i ok.2 low)

take-nil : {X : Type 0} (n : ℕ) → take {A = X} n [] ≡ []
take-nil zero = refl
take-nil (suc n) = refl

-- elements before the first bit's
first-elements : {Q : Type 0} (rules : ElementRules Q) (constants : List Marks) (q : Q) (g : ℕ → Marks) (j : ℕ) → ((i : ℕ) → i < j → g i ≡ unmarked)
    → let state = closed rules q unmarked (between constants 0 j) in after rules state.0 (from_here state.1 g j (drop j constants)) ≡ after rules q (elements_from g 0 constants)
unfolding from_here
first-elements rules constants q g zero none = ap (after rules q) (from_here-none g 0 constants)
first-elements rules [] q g (suc j) none =
    let P : List Marks → Type 0 = λ ds. let state = closed rules q unmarked ds in after rules state.0 (from_here state.1 g (suc j) (drop (suc j) [])) ≡ q in
    subst P (sym (take-nil (suc j - 0))) refl
first-elements rules (c ∷ cs) q g (suc j) none =
    let n : 0 + suc j ≡ suc j = omega arith in
    let m : suc j - 0 ≡ suc j = omega arith in
    let P : ℕ → Type 0 = λ k. let state = closed rules q unmarked (take k (c ∷ cs)) in after rules state.0 (from_here state.1 g (suc j) (drop j cs)) ≡ after rules q (elements_from g 0 (c ∷ cs)) in
    subst P (sym m)
    (ap (after rules (after rules (rules.close q c) (take j cs))) (from_here-none g (suc j) (drop j cs))
    ∙ sym (after-append rules q (take (suc j) (c ∷ cs)) (elements_from g (suc j) (drop j cs)))
    ∙ ap (λ k. after rules q (take (suc j) (c ∷ cs) ++ elements_from g k (drop j cs))) (sym n)
    ∙ ap (after rules q) (sym (elements_unseen g (suc j) 0 (c ∷ cs) (λ i low high. none i (omega (arith, high, n))))))

pub accepts-by_elements : {Q : Type 0} (rules : ElementRules Q) (constants : List Marks) (entries : List Entry) (bits : List ℕ) (w : Word) → AreGrouped (length constants) entries → length entries ≡ length bits
    → accepts (by_elements rules constants entries) bits w ≡ accepts_elements rules (elements_of constants entries bits w)
accepts-by_elements rules constants entries bits w ok long =
    let j : ℕ = first_element (length constants) entries in
    let state = closed rules rules.start unmarked (between constants 0 j) in
    ap rules.accept
    (run-elements rules constants entries 0 state.0 state.1 entries bits w refl ok long
    ∙ first-elements rules constants rules.start (marked entries bits w) j (λ i low. marked-before (length constants) entries bits w i ok low))

-- ---- the elements that end with a bit are listed

-- the first bit's element is at most the end
pub first_within : (end : ℕ) (es : List Entry) → AreGrouped end es → first_element end es ≤ end
first_within end [] ok = omega arith
first_within end (e ∷ es) ok = let low : e.element < end = ok.0 in omega (arith, low)

pub next_within : (end : ℕ) (es : List Entry) (at : ℕ) (d : Entry) → AreGrouped end es → at < length es
    → ((get_or es at d).element ≤ first_element end (drop (at + 1) es)) × (first_element end (drop (at + 1) es) ≤ end)
next_within end [] at d ok within = absurd (omega (arith, within))
next_within end (e ∷ es) zero d ok within = (ok.1, first_within end es ok.2)
next_within end (e ∷ es) (suc at) d ok within =
    let more : suc at + 1 ≡ suc (at + 1) = omega arith in
    let P : ℕ → Type 0 = λ n. ((get_or es at d).element ≤ first_element end (drop n (e ∷ es))) × (first_element end (drop n (e ∷ es)) ≤ end) in
    subst P (sym more) (next_within end es at d ok.2 (omega (arith, within)))
