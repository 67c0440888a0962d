-- The measure falls with each narrowing, each decision, and each going back with the narrowing after it.
use Rattle.std.proofs.Common.{◌≡◌, ℕ, zero, suc, ◌+◌, ◌*◌, ◌<◌, ◌≤◌, leb, Bool, true, false, List, [], ◌∷◌, refl, sym, ap, ◌∙◌, subst, inl, inr, arith}
use Rattle.std.proofs.lemmas.Bool.{cases_lt, cases_eq, cases_Bool, cond-true, cond-false, le-leb, lt-leb}
use Rattle.std.proofs.Math.Nat.{mul-le-mul_right}
use Rattle.search_rules.specs.Family.{Lies, AllLie}
use Rattle.search_rules.specs.Problem.{Problem, IsAmong}
use Rattle.search_rules.specs.Trail.{Entry, Replays, undo, top, back, cut}
use Rattle.search_rules.specs.Measure.{size_in, sum_to, total, fill, digit, read, measure}
use Rattle.search_rules.proofs.FamilyLemmas.{put-same}
use Rattle.search_rules.proofs.TrailLemmas.{back-over, back-stay, back-top, back-back, undo_grows, cut_replays}
use Rattle.search_rules.proofs.WalkLemmas.{replays_within}

pub size-in : {X : Type 0} (s : X → Bool) (x : X) (xs : List X) → s x ≡ true → size_in s (x ∷ xs) ≡ size_in s xs + 1
size-in s x xs has = cond-true (s x) (size_in s xs + 1) (size_in s xs) has

pub size-out : {X : Type 0} (s : X → Bool) (x : X) (xs : List X) → s x ≡ false → size_in s (x ∷ xs) ≡ size_in s xs
size-out s x xs out = cond-false (s x) (size_in s xs + 1) (size_in s xs) out

pub size_mono : {X : Type 0} (s t : X → Bool) (xs : List X) → Lies s t → size_in s xs ≤ size_in t xs
size_mono s t [] lies = omega arith
size_mono s t (x ∷ xs) lies =
    let rest : size_in s xs ≤ size_in t xs = size_mono s t xs lies in
    elim (cases_Bool (s x)) [
      | inl has ↦ omega (arith, size-in s x xs has, size-in t x xs (lies x has))
      | inr out ↦ elim (cases_Bool (t x)) [
        | inl has ↦ omega (arith, size-out s x xs out, size-in t x xs has)
        | inr too ↦ omega (arith, size-out s x xs out, size-out t x xs too)
      ]
    ]

pub size_strict : {X : Type 0} (s t : X → Bool) (x : X) (xs : List X) → Lies s t → t x ≡ true → s x ≡ false → IsAmong x xs
    → size_in s xs < size_in t xs
size_strict s t x [] lies has out among = absurd among
size_strict s t x (y ∷ ys) lies has out (inl same) =
    let rest : size_in s ys ≤ size_in t ys = size_mono s t ys lies in
    omega (arith, size-out s y ys (subst (λ z. s z ≡ false) same out), size-in t y ys (subst (λ z. t z ≡ true) same has))
size_strict s t x (y ∷ ys) lies has out (inr among) =
    let rest : size_in s ys < size_in t ys = size_strict s t x ys lies has out among in
    elim (cases_Bool (s y)) [
      | inl here ↦ omega (arith, size-in s y ys here, size-in t y ys (lies y here))
      | inr not_here ↦ elim (cases_Bool (t y)) [
        | inl there ↦ omega (arith, size-out s y ys not_here, size-in t y ys there)
        | inr too ↦ omega (arith, size-out s y ys not_here, size-out t y ys too)
      ]
    ]

pub sum_mono : {X : Type 0} (p : Problem X) (f g : ℕ → X → Bool) (n : ℕ) → AllLie f g → sum_to p f n ≤ sum_to p g n
sum_mono p f g zero all = omega arith
sum_mono p f g (suc n) all =
    let front : sum_to p f n ≤ sum_to p g n = sum_mono p f g n all in
    let last : size_in (f n) (p.values n) ≤ size_in (g n) (p.values n) = size_mono (f n) (g n) (p.values n) (all n) in
    omega arith

pub sum_strict : {X : Type 0} (p : Problem X) (f g : ℕ → X → Bool) (v n : ℕ) → AllLie f g → size_in (f v) (p.values v) < size_in (g v) (p.values v)
    → v < n → sum_to p f n < sum_to p g n
sum_strict p f g v zero all less lt = absurd (omega arith)
sum_strict {X} p f g v (suc n) all less lt = elim (cases_eq v n) [
  | inl same ↦
      let front : sum_to p f n ≤ sum_to p g n = sum_mono p f g n all in
      let last : size_in (f n) (p.values n) < size_in (g n) (p.values n) =
      subst (λ w. size_in (f w) (p.values w) < size_in (g w) (p.values w)) same less in
      omega arith
  | inr apart ↦
      let below : v < n = omega arith in
      let front : sum_to p f n < sum_to p g n = sum_strict p f g v n all less below in
      let last : size_in (f n) (p.values n) ≤ size_in (g n) (p.values n) = size_mono (f n) (g n) (p.values n) (all n) in
      omega arith
]

pub total_mono : {X : Type 0} (p : Problem X) (f g : ℕ → X → Bool) → AllLie f g → total p f ≤ total p g
unfolding total
total_mono p f g all = sum_mono p f g p.variables all

-- an entry makes the sum smaller
pub total_falls : {X : Type 0} (p : Problem X) (e : Entry X) (es : List (Entry X)) (f : ℕ → X → Bool) → Replays p (e ∷ es) f
    → total p f < total p (undo f e)
unfolding total
total_falls {X} p e es f replays =
    sum_strict p f (undo f e) e.var p.variables (undo_grows replays.0) smaller replays.0.known
  where
    there : undo f e e.var ≡ e.before
    there = put-same f e.var e.before

    smaller : size_in (f e.var) (p.values e.var) < size_in (undo f e e.var) (p.values e.var)
    smaller =
        let (x, has, out) = replays.0.part.proper in
        let before : undo f e e.var x ≡ true = ap (λ (t : X → Bool). t x) there ∙ has in
        size_strict (f e.var) (undo f e e.var) x (p.values e.var) (undo_grows replays.0 e.var) before out
        (p.listed e.var x replays.0.known (replays_within p es (undo f e) replays.1 e.var x before))

-- each level takes something away, so there are no more levels than values
pub top_bound : {X : Type 0} (p : Problem X) (es : List (Entry X)) (f : ℕ → X → Bool) → Replays p es f
    → top es + total p f ≤ total p p.initial
top_bound {X} p [] f replays = subst (λ (g : ℕ → X → Bool). 0 + total p g ≤ total p p.initial) (sym replays) (omega arith)
top_bound p (e ∷ es) f replays =
    let high : e.level ≤ top es + 1 = replays.0.high in
    let rest : top es + total p (undo f e) ≤ total p p.initial = top_bound p es (undo f e) replays.1 in
    let falls : total p f < total p (undo f e) = total_falls p e es f replays in
    omega arith

pub digit-in : {X : Type 0} (p : Problem X) (es : List (Entry X)) (f : ℕ → X → Bool) (k : ℕ) → k ≤ top es
    → digit p es f k ≡ total p (back k es f)
unfolding digit
digit-in p es f k le = cond-true (leb k (top es)) (total p (back k es f)) (fill p) (le-leb k (top es) le)

pub digit-out : {X : Type 0} (p : Problem X) (es : List (Entry X)) (f : ℕ → X → Bool) (k : ℕ) → top es < k → digit p es f k ≡ fill p
unfolding digit
digit-out p es f k lt = cond-false (leb k (top es)) (total p (back k es f)) (fill p) (lt-leb k (top es) lt)

pub fill-is : {X : Type 0} (p : Problem X) → fill p ≡ total p p.initial + 1
unfolding fill
fill-is p = refl

pub total_below : {X : Type 0} (p : Problem X) (es : List (Entry X)) (f : ℕ → X → Bool) → Replays p es f → total p f < fill p
total_below p es f replays =
    let le : total p f ≤ total p p.initial = total_mono p f p.initial (replays_within p es f replays) in
    omega (arith, fill-is p)

pub digit_below : {X : Type 0} (p : Problem X) (es : List (Entry X)) (f : ℕ → X → Bool) (k : ℕ) → Replays p es f
    → digit p es f k < fill p + 1
digit_below p es f k replays = elim (cases_lt (top es) k) [
  | inl out ↦ omega (arith, digit-out p es f k out)
  | inr in_trail ↦
      let below : total p (back k es f) < fill p = total_below p (cut k es) (back k es f) (cut_replays p k es f replays) in
      omega (arith, digit-in p es f k in_trail)
]

-- equal digits up to one that is smaller
pub read_same : (d e : ℕ → ℕ) (b n : ℕ) → ((j : ℕ) → j < n → d j ≡ e j) → read d b n ≡ read e b n
read_same d e b zero same = refl
read_same d e b (suc n) same =
    let front : read d b n ≡ read e b n = read_same d e b n (λ j lt. same j (omega arith)) in
    ap (λ m. m * b + d n) front ∙ ap (λ m. read e b n * b + m) (same n (omega arith))

pub read_falls : (d e : ℕ → ℕ) (b n i : ℕ) → i < n → ((j : ℕ) → j < i → d j ≡ e j) → d i < e i → ((j : ℕ) → d j < b)
    → read d b n < read e b n
read_falls d e b zero i lt same less below = absurd (omega arith)
read_falls d e b (suc n) i lt same less below = elim (cases_eq i n) [
  | inl here ↦
      let front : read d b n ≡ read e b n = read_same d e b n (λ j lower. same j (omega arith)) in
      let last : d n < e n = subst (λ m. d m < e m) here less in
      omega (arith, ap (λ m. m * b) front)
  | inr apart ↦
      let lower : i < n = omega arith in
      let earlier : read d b n < read e b n = read_falls d e b n i lower same less below in
      let front : read d b n + 1 ≤ read e b n = omega arith in
      let times : (read d b n + 1) * b ≤ read e b n * b = mul-le-mul_right b front in
      let last : d n < b = below n in
      omega arith
]

-- going back to level `k`, with an entry at that level, makes the measure smaller; `k` may be the newest level
pub back_falls : {X : Type 0} (p : Problem X) (es : List (Entry X)) (f : ℕ → X → Bool) (k : ℕ) (e : Entry X) (g : ℕ → X → Bool)
    → Replays p es f → k ≤ top es → e.level ≡ k → undo g e ≡ back k es f → Replays p (e ∷ cut k es) g
    → measure p (e ∷ cut k es) g < measure p es f
unfolding measure
back_falls {X} p es f k e g replays le level undone added =
    read_falls (digit p (e ∷ cut k es) g) (digit p es f) (fill p + 1) (fill p) k known same less (λ j. digit_below p (e ∷ cut k es) g j added)
  where
    known : k < fill p
    known =
        let bound : top es + total p f ≤ total p p.initial = top_bound p es f replays in
        omega (arith, fill-is p)

    same : (j : ℕ) → j < k → digit p (e ∷ cut k es) g j ≡ digit p es f j
    same j lt =
        let below : j < e.level = omega arith in
        let here : j ≤ e.level = omega arith in
        let there : j ≤ top es = omega arith in
        let lower : j ≤ k = omega arith in
        digit-in p (e ∷ cut k es) g j here
        ∙ (ap (total p) (back-over j e (cut k es) g below ∙ (ap (back j (cut k es)) undone ∙ back-back p j k es f replays lower))
        ∙ sym (digit-in p es f j there))

    less : digit p (e ∷ cut k es) g k < digit p es f k
    less =
        let falls : total p g < total p (undo g e) = total_falls p e (cut k es) g added in
        let here : k ≤ e.level = omega arith in
        let stay : e.level ≤ k = omega arith in
        omega (arith, digit-in p (e ∷ cut k es) g k here, ap (total p) (back-stay k e (cut k es) g stay), digit-in p es f k le, ap (total p) undone)

-- an entry added at the newest level, or one above it, makes the measure smaller
pub entry_falls : {X : Type 0} (p : Problem X) (e : Entry X) (es : List (Entry X)) (f : ℕ → X → Bool) → Replays p (e ∷ es) f
    → measure p (e ∷ es) f < measure p es (undo f e)
unfolding measure
entry_falls {X} p e es f replays =
    read_falls (digit p (e ∷ es) f) (digit p es (undo f e)) (fill p + 1) (fill p) e.level known same less (λ j. digit_below p (e ∷ es) f j replays)
  where
    known : e.level < fill p
    known =
        let bound : e.level + total p f ≤ total p p.initial = top_bound p (e ∷ es) f replays in
        omega (arith, fill-is p)

    same : (j : ℕ) → j < e.level → digit p (e ∷ es) f j ≡ digit p es (undo f e) j
    same j lt =
        let high : e.level ≤ top es + 1 = replays.0.high in
        let here : j ≤ e.level = omega arith in
        let there : j ≤ top es = omega arith in
        digit-in p (e ∷ es) f j here ∙ (ap (total p) (back-over j e es f lt) ∙ sym (digit-in p es (undo f e) j there))

    less : digit p (e ∷ es) f e.level < digit p es (undo f e) e.level
    less =
        let falls : total p f < total p (undo f e) = total_falls p e es f replays in
        let self : e.level ≤ e.level = omega arith in
        elim (cases_lt (top es) e.level) [
          | inl opens ↦
              let bound : total p f < fill p = total_below p (e ∷ es) f replays in
              omega (arith, digit-in p (e ∷ es) f e.level self, ap (total p) (back-stay e.level e es f self), digit-out p es (undo f e) e.level opens)
          | inr stays ↦
              let low : top es ≤ e.level = replays.0.low in
              omega (
                arith,
                digit-in p (e ∷ es) f e.level self,
                ap (total p) (back-stay e.level e es f self),
                digit-in p es (undo f e) e.level stays,
                ap (total p) (back-top e.level es (undo f e) low),
              )
        ]
