-- Reading bits by their entries is reading elements.
use Rattle.std.proofs.Common.{◌≡◌, ℕ, zero, suc, ◌+◌, ◌-◌, ◌<◌, ◌≤◌, eqb, Bool, true, false, ◌||◌, ◌&&◌, List, [], ◌∷◌, ◌++◌, length, get_or, take, drop, refl, sym, ap, ◌∙◌, subst, arith, drop-cons, add-one}
use Rattle.std.proofs.lemmas.Bool.{ne_eqb, eq-eqb}
use Rattle.std.proofs.Math.Bool.{beq}
use Rattle.sweep_rules.specs.Rules.{run, accepts}
use Rattle.sweep_sets.specs.declared.marks.Marks.{Marks}
use Rattle.sweep_sets.specs.declared.rules.Rule.{Rule}
use Rattle.sweep_sets.specs.declared.rules.Rule.TheVariants.{Equal, Subset, Superset, Union, Intersection, Difference, SymmetricDifference, Before, AtMost}
use Rattle.sweep_sets.specs.declared.rules.Progress.{Progress}
use Rattle.sweep_sets.specs.declared.rules.Progress.TheVariants.{Same, Settled}
use Rattle.sweep_sets.specs.declared.reading.Entry.{Entry}
use Rattle.sweep_sets.specs.declared.reading.Seen.{Seen}
use Rattle.sweep_sets.specs.Rules.{unmarked, joined, when, close, after, verdict, decided}
use Rattle.sweep_sets.specs.Reading.{first_element, AreGrouped, marked, elements_from, elements_of, closed, between, no_entry, step_as, started, by_elements}

-- ---- marks

or_none : (a : Bool) → (a || false) ≡ a
or_none true = refl
or_none false = refl

or_assoc : (a b c : Bool) → ((a || b) || c) ≡ (a || (b || c))
or_assoc true b c = refl
or_assoc false b c = refl

joined-none : (m : Marks) → joined m unmarked ≡ m
joined-none m = λ i. record { first = or_none m.first i; second = or_none m.second i; third = or_none m.third i }

joined-assoc : (a b c : Marks) → joined (joined a b) c ≡ joined a (joined b c)
joined-assoc a b c = λ i. record { first = or_assoc a.first b.first c.first i; second = or_assoc a.second b.second c.second i; third = or_assoc a.third b.third c.third i }

-- ---- the elements from one on, of which something was seen

-- seen of the element number j, and of later ones by the bits that follow
from_here : Marks → (ℕ → Marks) → ℕ → List Marks → List Marks
from_here seen g j [] = []
from_here seen g j (c ∷ cs) = joined (joined seen (g j)) c ∷ elements_from g (j + 1) cs

elements_same : (f g : ℕ → Marks) (j : ℕ) (cs : List Marks) → ((i : ℕ) → j ≤ i → f i ≡ g i) → elements_from f j cs ≡ elements_from g j cs
elements_same f g j [] same = refl
elements_same f g j (c ∷ cs) same = λ k. joined (same j (omega arith) k) c ∷ elements_same f g (j + 1) cs (λ i far. same i (omega (arith, far))) k

from_here-none : (g : ℕ → Marks) (j : ℕ) (cs : List Marks) → from_here unmarked g j cs ≡ elements_from g j cs
unfolding from_here
from_here-none g j [] = refl
from_here-none g j (c ∷ cs) = refl

-- elements of which nothing is seen are those of their constants
elements_unseen : (g : ℕ → Marks) (m j : ℕ) (cs : List Marks) → ((i : ℕ) → j ≤ i → i < j + m → g i ≡ unmarked) → elements_from g j cs ≡ take m cs ++ elements_from g (j + m) (drop m cs)
elements_unseen g zero j cs none = ap (λ n. elements_from g n cs) (omega arith)
elements_unseen g (suc m) j [] none = refl
elements_unseen g (suc m) j (c ∷ cs) none =
    let here : g j ≡ unmarked = none j (omega arith) (omega arith) in
    let at : (j + 1) + m ≡ j + suc m = omega arith in
    (λ k. joined (here k) c ∷ elements_unseen g m (j + 1) cs (λ i low high. none i (omega (arith, low)) (omega (arith, high))) k)
    ∙ ap (λ n. c ∷ (take m cs ++ elements_from g n (drop m cs))) at

after-append : (rule : Rule) (q : Progress) (ms ns : List Marks) → after rule q (ms ++ ns) ≡ after rule (after rule q ms) ns
after-append rule q [] ns = refl
after-append rule q (m ∷ ms) ns = after-append rule (close rule q m) ms ns

-- ---- what the bits mark

marked-before : (end : ℕ) (es : List Entry) (bs : List Bool) (i : ℕ) → AreGrouped end es → i < first_element end es → marked es bs i ≡ unmarked
marked-before end [] bs i ok low = refl
marked-before end (e ∷ es) [] i ok low = refl
marked-before end (e ∷ es) (b ∷ bs) i ok low =
    let up : e.element ≤ first_element end es = ok.1 in
    let other : eqb e.element i ≡ false = ne_eqb e.element i (λ same. omega (arith, low, same)) in
    ap (λ x. joined (when (x && b) e.marks) (marked es bs i)) other ∙ marked-before end es bs i ok.2 (omega (arith, up, low))

marked-later : (e : Entry) (es : List Entry) (b : Bool) (bs : List Bool) (i : ℕ) → e.element < i → marked (e ∷ es) (b ∷ bs) i ≡ marked es bs i
marked-later e es b bs i high = ap (λ x. joined (when (x && b) e.marks) (marked es bs i)) (ne_eqb e.element i (λ same. omega (arith, high, same)))

marked-here : (e : Entry) (es : List Entry) (b : Bool) (bs : List Bool) → marked (e ∷ es) (b ∷ bs) e.element ≡ joined (when b e.marks) (marked es bs e.element)
marked-here e es b bs = ap (λ x. joined (when (x && b) e.marks) (marked es bs e.element)) (eq-eqb e.element e.element refl)

-- ---- one bit

-- the bit is not the last of its element
stays_open : (seen m : Marks) (f g : ℕ → Marks) (j : ℕ) (cs : List Marks) → f j ≡ joined m (g j) → ((i : ℕ) → j < i → f i ≡ g i) → from_here (joined seen m) g j cs ≡ from_here seen f j cs
unfolding from_here
stays_open seen m f g j [] here later = refl
stays_open seen m f g j (c ∷ cs) here later =
    (λ k. joined (joined-assoc seen m (g j) k) c ∷ elements_from g (j + 1) cs)
    ∙ (λ k. joined (joined seen (sym here k)) c ∷ sym (elements_same f g (j + 1) cs (λ i far. later i (omega (arith, far)))) k)

-- the bit is the last of its element, and n more elements without bits follow
closes : (rule : Rule) (q : Progress) (seen m : Marks) (f g : ℕ → Marks) (j n : ℕ) (c : Marks) (cs : List Marks) → f j ≡ joined m (g j) → g j ≡ unmarked → ((i : ℕ) → j < i → f i ≡ g i)
    → ((i : ℕ) → j < i → i < (j + 1) + n → g i ≡ unmarked)
    → after rule (after rule (close rule q (joined (joined seen m) c)) (take n cs)) (elements_from g ((j + 1) + n) (drop n cs)) ≡ after rule q (from_here seen f j (c ∷ cs))
unfolding from_here
closes rule q seen m f g j n c cs here none later unseen =
    let whole : f j ≡ m = here ∙ ap (joined m) none ∙ joined-none m in
    sym (after-append rule (close rule q (joined (joined seen m) c)) (take n cs) (elements_from g ((j + 1) + n) (drop n cs)))
    ∙ ap (after rule (close rule q (joined (joined seen m) c))) (sym (elements_unseen g n (j + 1) cs (λ i low high. unseen i (omega (arith, low)) high)))
    ∙ (λ k. after rule (close rule q (joined (joined seen (sym whole k)) c)) (sym (elements_same f g (j + 1) cs (λ i far. later i (omega (arith, far)))) k))

-- ---- all bits

drop-step : {X : Type 0} (xs : List X) (at : ℕ) (x : X) (rest : List X) (d : X) → drop at xs ≡ x ∷ rest → (get_or xs at d ≡ x) × (drop (at + 1) xs ≡ rest)
drop-step [] zero x rest d e = absurd (cc)
drop-step [] (suc at) x rest d e = absurd (cc)
drop-step (y ∷ ys) zero x rest d e = let a : y ≡ x = cc in let b : ys ≡ rest = cc in (a, b)
drop-step (y ∷ ys) (suc at) x rest d e =
    let r = drop-step ys at x rest d e in
    let next : suc at + 1 ≡ suc (at + 1) = omega arith in
    (r.0, ap (λ n. drop n (y ∷ ys)) next ∙ r.1)

drop-nil : {X : Type 0} (n : ℕ) → drop {A = X} n [] ≡ []
drop-nil zero = refl
drop-nil (suc n) = refl

drop-drop : {X : Type 0} (n m : ℕ) (xs : List X) → drop n (drop m xs) ≡ drop (m + n) xs
drop-drop n zero xs = ap (λ k. drop k xs) (omega arith)
drop-drop n (suc m) [] = drop-nil n ∙ sym (drop-nil (suc m + n))
drop-drop n (suc m) (x ∷ xs) = let e : suc m + n ≡ suc (m + n) = omega arith in drop-drop n m xs ∙ sym (ap (λ k. drop k (x ∷ xs)) e)

drop-all : {X : Type 0} (xs : List X) → drop (length xs) xs ≡ []
drop-all [] = refl
drop-all (x ∷ xs) = drop-all xs

-- the state once the bit is read, d being how many elements end with it
step-elements : (rule : Rule) (constants : List Marks) (q : Progress) (seen m : Marks) (f g : ℕ → Marks) (j next d : ℕ)
    → next - j ≡ d → j ≤ next → j < length constants → f j ≡ joined m (g j) → ((i : ℕ) → j < i → f i ≡ g i) → ((i : ℕ) → i < next → g i ≡ unmarked)
    → let state = closed rule record { progress = q; marks = joined seen m } (take d (drop j constants)) in after rule state.progress (from_here state.marks g next (drop next constants)) ≡ after rule q (from_here seen f j (drop j constants))
step-elements rule constants q seen m f g j next zero far up within here later none =
    let same : next ≡ j = omega (arith, far, up) in
    ap (λ n. after rule q (from_here (joined seen m) g n (drop n constants))) same
    ∙ ap (after rule q) (stays_open seen m f g j (drop j constants) here later)
step-elements rule constants q seen m f g j next (suc n) far up within here later none =
    let c : Marks = get_or constants j unmarked in
    let cs : List Marks = drop (j + 1) constants in
    let first : drop j constants ≡ c ∷ cs = drop-cons constants j unmarked within ∙ (λ i. c ∷ drop (sym (add-one j) i) constants) in
    let at : next ≡ (j + 1) + n = omega (arith, far, up) in
    let P : List Marks → Type 0 = λ ds. let state = closed rule record { progress = q; marks = joined seen m } (take (suc n) ds) in after rule state.progress (from_here state.marks g next (drop next constants)) ≡ after rule q (from_here seen f j ds) in
    let q2 = after rule (close rule q (joined (joined seen m) c)) (take n cs) in
    subst P (sym first)
    (ap (after rule q2) (from_here-none g next (drop next constants) ∙ ap (λ k. elements_from g k (drop k constants)) at ∙ ap (elements_from g ((j + 1) + n)) (sym (drop-drop n (j + 1) constants)))
    ∙ closes rule q seen m f g j n c cs here (none j (omega (arith, far))) later (λ i low high. none i (omega (arith, at, high))))

run-elements : (rule : Rule) (truth : Bool) (constants : List Marks) (entries : List Entry) (at : ℕ) (q : Seen) (es : List Entry) (bs : List Bool)
    → drop at entries ≡ es → AreGrouped (length constants) es → length es ≡ length bs
    → (run (by_elements rule truth constants entries) at q bs).progress ≡ after rule q.progress (from_here q.marks (marked es bs) (first_element (length constants) es) (drop (first_element (length constants) es) constants))
unfolding from_here
run-elements rule truth constants entries at q [] [] left ok long = sym (ap (λ cs. after rule q.progress (from_here q.marks (marked [] []) (length constants) cs)) (drop-all constants))
run-elements rule truth constants entries at q [] (b ∷ bs) left ok long = absurd (omega (arith, long))
run-elements rule truth constants entries at q (e ∷ es) [] left ok long = absurd (omega (arith, long))
run-elements rule truth constants entries at q (e ∷ es) (b ∷ bs) left ok long =
    let split = drop-step entries at e es no_entry left in
    let end : ℕ = length constants in
    let m : Marks = when b e.marks in
    let q2 : Seen = step_as rule constants e es q b in
    let next : ℕ = first_element end es in
    let g : ℕ → Marks = marked es bs in
    let f : ℕ → Marks = marked (e ∷ es) (b ∷ bs) in
    (λ i. (run (by_elements rule truth constants entries) (at + 1) (step_as rule constants (split.0 i) (split.1 i) q b) bs).progress)
    ∙ run-elements rule truth constants entries (at + 1) q2 es bs split.1 ok.2 (omega (arith, long))
    ∙ step-elements rule constants q.progress q.marks m f g e.element next (next - e.element) refl ok.1 ok.0 (marked-here e es b bs) (λ i high. marked-later e es b bs i high)
    (λ i low. marked-before end es bs i ok.2 low)

take-nil : {X : Type 0} (n : ℕ) → take {A = X} n [] ≡ []
take-nil zero = refl
take-nil (suc n) = refl

-- elements before the first bit's
first-elements : (rule : Rule) (constants : List Marks) (q : Progress) (g : ℕ → Marks) (j : ℕ) → ((i : ℕ) → i < j → g i ≡ unmarked)
    → let state = closed rule record { progress = q; marks = unmarked } (between constants 0 j) in after rule state.progress (from_here state.marks g j (drop j constants)) ≡ after rule q (elements_from g 0 constants)
unfolding from_here
first-elements rule constants q g zero none = ap (after rule q) (from_here-none g 0 constants)
first-elements rule [] q g (suc j) none =
    let P : List Marks → Type 0 = λ ds. let state = closed rule record { progress = q; marks = unmarked } ds in after rule state.progress (from_here state.marks g (suc j) (drop (suc j) [])) ≡ q in
    subst P (sym (take-nil (suc j - 0))) refl
first-elements rule (c ∷ cs) q g (suc j) none =
    let n : 0 + suc j ≡ suc j = omega arith in
    let m : suc j - 0 ≡ suc j = omega arith in
    let P : ℕ → Type 0 = λ k. let state = closed rule record { progress = q; marks = unmarked } (take k (c ∷ cs)) in after rule state.progress (from_here state.marks g (suc j) (drop j cs)) ≡ after rule q (elements_from g 0 (c ∷ cs)) in
    subst P (sym m)
    (ap (after rule (after rule (close rule q c) (take j cs))) (from_here-none g (suc j) (drop j cs))
    ∙ sym (after-append rule q (take (suc j) (c ∷ cs)) (elements_from g (suc j) (drop j cs)))
    ∙ ap (λ k. after rule q (take (suc j) (c ∷ cs) ++ elements_from g k (drop j cs))) (sym n)
    ∙ ap (after rule q) (sym (elements_unseen g (suc j) 0 (c ∷ cs) (λ i low high. none i (omega (arith, high, n))))))

-- reading the bits decides the rule by the elements
pub read-decides : (rule : Rule) (truth : Bool) (constants : List Marks) (entries : List Entry) (bits : List Bool) → AreGrouped (length constants) entries → length entries ≡ length bits
    → accepts (by_elements rule truth constants entries) bits ≡ beq (decided rule (elements_of constants entries bits)) truth
read-decides rule truth constants entries bits ok long =
    let j : ℕ = first_element (length constants) entries in
    ap (λ p. beq (verdict rule p) truth)
    (run-elements rule truth constants entries 0 (started rule constants entries) entries bits refl ok long
    ∙ first-elements rule constants Same (marked entries bits) j (λ i low. marked-before (length constants) entries bits i ok low))

-- ---- what is settled

settled-close : (rule : Rule) (v : Bool) (m : Marks) → close rule (Settled v) m ≡ Settled v
settled-close Equal v m = refl
settled-close Subset v m = refl
settled-close Superset v m = refl
settled-close Union v m = refl
settled-close Intersection v m = refl
settled-close Difference v m = refl
settled-close SymmetricDifference v m = refl
settled-close Before v m = refl
settled-close AtMost v m = refl

settled-after : (rule : Rule) (v : Bool) (ms : List Marks) → after rule (Settled v) ms ≡ Settled v
settled-after rule v [] = refl
settled-after rule v (m ∷ ms) = ap (λ q. after rule q ms) (settled-close rule v m) ∙ settled-after rule v ms

settled-closed : (rule : Rule) (v : Bool) (q : Seen) (cs : List Marks) → q.progress ≡ Settled v → (closed rule q cs).progress ≡ Settled v
settled-closed rule v q [] is = is
settled-closed rule v q (c ∷ cs) is =
    ap (λ p. after rule (close rule p (joined q.marks c)) cs) is ∙ ap (λ p. after rule p cs) (settled-close rule v (joined q.marks c)) ∙ settled-after rule v cs

settled-run : (rule : Rule) (truth v : Bool) (constants : List Marks) (entries : List Entry) (at : ℕ) (q : Seen) (bs : List Bool) → q.progress ≡ Settled v
    → (run (by_elements rule truth constants entries) at q bs).progress ≡ Settled v
settled-run rule truth v constants entries at q [] is = is
settled-run rule truth v constants entries at q (b ∷ bs) is =
    let e : Entry = get_or entries at no_entry in
    let next : List Entry = drop (at + 1) entries in
    settled-run rule truth v constants entries (at + 1) (step_as rule constants e next q b) bs
    (settled-closed rule v record { progress = q.progress; marks = joined q.marks (when b e.marks) } (between constants e.element (first_element (length constants) next)) is)

-- what is settled otherwise than asked is never accepted
pub settled_is_lost : (rule : Rule) (truth v : Bool) (constants : List Marks) (entries : List Entry) (q : Seen) → q.progress ≡ Settled v → beq v truth ≡ false
    → (at : ℕ) (rest : List Bool) → beq (verdict rule (run (by_elements rule truth constants entries) at q rest).progress) truth ≡ false
settled_is_lost rule truth v constants entries q is other at rest =
    ap (λ p. beq (verdict rule p) truth) (settled-run rule truth v constants entries at q rest is) ∙ other

-- ---- the elements that end with a bit are listed

-- the first bit's element is at most the end
pub first_within : (end : ℕ) (es : List Entry) → AreGrouped end es → first_element end es ≤ end
first_within end [] ok = omega arith
first_within end (e ∷ es) ok = let low : e.element < end = ok.0 in omega (arith, low)

pub next_within : (end : ℕ) (es : List Entry) (at : ℕ) (d : Entry) → AreGrouped end es → at < length es
    → ((get_or es at d).element ≤ first_element end (drop (at + 1) es)) × (first_element end (drop (at + 1) es) ≤ end)
next_within end [] at d ok within = absurd (omega (arith, within))
next_within end (e ∷ es) zero d ok within = (ok.1, first_within end es ok.2)
next_within end (e ∷ es) (suc at) d ok within =
    let more : suc at + 1 ≡ suc (at + 1) = omega arith in
    let P : ℕ → Type 0 = λ n. ((get_or es at d).element ≤ first_element end (drop n (e ∷ es))) × (first_element end (drop n (e ∷ es)) ≤ end) in
    subst P (sym more) (next_within end es at d ok.2 (omega (arith, within)))
