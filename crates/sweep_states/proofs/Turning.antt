-- How sets of states go on from bit to bit.
use Rattle.std.proofs.Common.{◌≡◌, ◌↔◌, ◌⊎◌, ℕ, suc, ◌+◌, ◌<◌, ◌≤◌, Bool, true, false, List, [], ◌∷◌, ◌++◌, length, take, get_or, Contains, refl, sym, ◌∙◌, ap, subst, inl, inr, arith}
use Rattle.std.proofs.lemmas.List.{take_more, take_all}
use Rattle.std.proofs.lemmas.List.Elements.{Contains-push, Contains-push_cases, Contains-append_left}
use Rattle.sweep_rules.specs.Rules.{run}
use Rattle.sweep_states.specs.Sweeps.{Each, Filtered, step_both, IsDeadPair, LeadsTo, PassesOn, SomePassesOn, SomeEnds, SomePasses}

-- ---- lists that grow

pub each_pushed : {X : Type 0} (P : X → Type 0) (xs : List X) (y : X) → Each P xs → P y → Each P (xs ++ y ∷ [])
each_pushed P xs y each here x h = elim (Contains-push_cases xs y x h) [ inl before ↦ each x before | inr e ↦ subst P e here ]

pub each_none : {X : Type 0} (P : X → Type 0) → Each P []
each_none P x h = let none : h.0 < 0 = h.1 in absurd (omega arith)

-- ---- one bit

leads_none : {P Q : Type 0} (f : Filtered P Q) (i : ℕ) → LeadsTo f i [] []
leads_none {P = P} {Q = Q} f i = record {
  only = λ t h. each_none {X = P × Q} (λ t. (s : P × Q) × (b : Bool) × Contains {X = P × Q} [] s × (t ≡ step_both f i s b)) t h;
  every = λ s b h. each_none {X = P × Q} (λ s. Contains {X = P × Q} [] (step_both f i s b) ⊎ IsDeadPair f (step_both f i s b)) s h;
}

-- what a step pushes, if its pair is not dead
abbrev pub Pushes : {P Q : Type 0} → Filtered P Q → P × Q → List (P × Q) → List (P × Q) → Type 0
Pushes f after old new = (new ≡ old ++ after ∷ []) ⊎ ((new ≡ old) × IsDeadPair f after)

pub kept_by_push : {P Q : Type 0} (f : Filtered P Q) (after t : P × Q) (old new : List (P × Q)) → Pushes f after old new → Contains {X = P × Q} old t → Contains {X = P × Q} new t
kept_by_push {P = P} {Q = Q} f after t old new (inl e) h = subst (λ ys. Contains {X = P × Q} ys t) (sym e) (Contains-append_left {X = P × Q} old (after ∷ []) t h)
kept_by_push {P = P} {Q = Q} f after t old new (inr e) h = subst (λ ys. Contains {X = P × Q} ys t) (sym e.0) h

pub there_or_dead : {P Q : Type 0} (f : Filtered P Q) (after : P × Q) (old new : List (P × Q)) → Pushes f after old new → Contains {X = P × Q} new after ⊎ IsDeadPair f after
there_or_dead {P = P} {Q = Q} f after old new (inl e) = inl (subst (λ ys. Contains {X = P × Q} ys after) (sym e) (Contains-push {X = P × Q} old after))
there_or_dead f after old new (inr e) = inr e.1

pub new_or_old : {P Q : Type 0} (f : Filtered P Q) (after t : P × Q) (old new : List (P × Q)) → Pushes f after old new → Contains {X = P × Q} new t → Contains {X = P × Q} old t ⊎ (after ≡ t)
new_or_old {P = P} {Q = Q} f after t old new (inl e) h = Contains-push_cases {X = P × Q} old after t (subst (λ ys. Contains {X = P × Q} ys t) e h)
new_or_old {P = P} {Q = Q} f after t old new (inr e) h = inl (subst (λ ys. Contains {X = P × Q} ys t) e.0 h)

pub each_by_push : {P Q : Type 0} (f : Filtered P Q) (R : P × Q → Type 0) (after : P × Q) (old new : List (P × Q)) → Pushes f after old new → R after → Each {X = P × Q} R old → Each {X = P × Q} R new
each_by_push f R after old new pushed here each t h = elim (new_or_old f after t old new pushed h) [ inl before ↦ each t before | inr e ↦ subst R e here ]

-- one pair more is stepped by both bits
leads_more : {P Q : Type 0} (f : Filtered P Q) (i : ℕ) (done : List (P × Q)) (s : P × Q) (old middle new : List (P × Q)) → LeadsTo f i done old
    → Pushes f (step_both f i s false) old middle → Pushes f (step_both f i s true) middle new → LeadsTo f i (done ++ s ∷ []) new
leads_more {P = P} {Q = Q} f i done s old middle new leads low high = record {
  only = λ t h. elim (new_or_old f (step_both f i s true) t middle new high h) [
    | inl before ↦ elim (new_or_old f (step_both f i s false) t old middle low before) [
      | inl earlier ↦ let o = leads.only t earlier in (o.0, o.1, Contains-append_left {X = P × Q} done (s ∷ []) o.0 o.2, o.3)
      | inr e ↦ (s, false, Contains-push {X = P × Q} done s, sym e)
    ]
    | inr e ↦ (s, true, Contains-push {X = P × Q} done s, sym e)
  ];
  every = λ r b h. elim (Contains-push_cases {X = P × Q} done s r h) [
    | inl before ↦ elim (leads.every r b before) [
      | inl there ↦ inl (kept_by_push f (step_both f i s true) (step_both f i r b) middle new high (kept_by_push f (step_both f i s false) (step_both f i r b) old middle low there))
      | inr dead ↦ inr dead
    ]
    | inr e ↦ let R : P × Q → Type 0 = λ u. Contains {X = P × Q} new (step_both f i u b) ⊎ IsDeadPair f (step_both f i u b) in subst R e (here b)
  ];
} where
  here : (b : Bool) → Contains {X = P × Q} new (step_both f i s b) ⊎ IsDeadPair f (step_both f i s b)
  here true = there_or_dead f (step_both f i s true) middle new high
  here false = elim (there_or_dead f (step_both f i s false) old middle low) [
    | inl there ↦ inl (kept_by_push f (step_both f i s true) (step_both f i s false) middle new high there)
    | inr dead ↦ inr dead
  ]

-- what the loop over the pairs keeps: the pairs after the bit, all of which occur there
pub record Advances {P Q : Type 0} (f : Filtered P Q) (i : ℕ) (R : P × Q → Type 0) (states next : List (P × Q)) : Type 0 where
  pub leads : LeadsTo f i states next
  pub occur : Each {X = P × Q} R next

pub advances_none : {P Q : Type 0} (f : Filtered P Q) (i : ℕ) (R : P × Q → Type 0) → Advances f i R [] []
advances_none {P = P} {Q = Q} f i R = record { leads = leads_none f i; occur = each_none {X = P × Q} R }

pub advances_turn : {P Q : Type 0} (f : Filtered P Q) (k : ℕ) (R : P × Q → Type 0) (xs : List (P × Q)) (i : ℕ) (s : P × Q) (old middle new : List (P × Q)) → i < length xs → s ≡ get_or xs i s
    → Advances f k R (take i xs) old → Pushes f (step_both f k s false) old middle → Pushes f (step_both f k s true) middle new → R (step_both f k s false) → R (step_both f k s true)
    → Advances f k R (take (i + 1) xs) new
advances_turn {P = P} {Q = Q} f k R xs i s old middle new within is so_far low high low_occurs high_occurs =
    let e : take (i + 1) xs ≡ take i xs ++ s ∷ [] = take_more xs i s within ∙ ap (λ (t : P × Q). take i xs ++ t ∷ []) (sym is) in
    record {
      leads = subst (λ ys. LeadsTo f k ys new) (sym e) (leads_more f k (take i xs) s old middle new so_far.leads low high);
      occur = each_by_push f R (step_both f k s true) middle new high high_occurs (each_by_push f R (step_both f k s false) old middle low low_occurs so_far.occur);
    }

pub advances_all : {P Q : Type 0} (f : Filtered P Q) (k : ℕ) (R : P × Q → Type 0) (xs : List (P × Q)) (i : ℕ) (next : List (P × Q)) → length xs ≤ i → Advances f k R (take i xs) next → Advances f k R xs next
advances_all f k R xs i next all so_far = subst (λ ys. Advances f k R ys next) (take_all i xs all) so_far

-- the same members lead to the same
pub leads_same : {P Q : Type 0} (f : Filtered P Q) (i : ℕ) (states old new : List (P × Q)) → ((t : P × Q) → Contains {X = P × Q} new t ↔ Contains {X = P × Q} old t) → LeadsTo f i states old → LeadsTo f i states new
leads_same f i states old new same leads = record {
  only = λ t h. leads.only t ((same t).0 h);
  every = λ s b h. elim (leads.every s b h) [ inl there ↦ inl ((same (step_both f i s b)).1 there) | inr dead ↦ inr dead ];
}

dead_ends : {P Q : Type 0} (f : Filtered P Q) (i left : ℕ) (rest : List Bool) (s : P × Q) → IsDeadPair f s → PassesOn f i left rest s → ⊥
dead_ends f i left rest s (inl dead) on = let c : false ≡ true = sym (dead (f.from + i) (on.word ++ rest)) ∙ on.ends in cc
dead_ends f i left rest s (inr dead) on = let c : false ≡ true = sym (dead i on.word) ∙ on.passes in cc

step_on : {P Q : Type 0} (f : Filtered P Q) (i left : ℕ) (rest : List Bool) (s : P × Q) (word : List Bool) → length word ≡ suc left → f.filter.accept (run f.filter i s.1 word) ≡ true
    → f.rules.accept (run f.rules (f.from + i) s.0 (word ++ rest)) ≡ true → (b : Bool) × PassesOn f (i + 1) left rest (step_both f i s b)
step_on f i left rest s [] long passes ends = absurd (omega (arith, long))
step_on f i left rest s (b ∷ bs) long passes ends =
    let e : f.from + i + 1 ≡ f.from + (i + 1) = omega arith in
    (b, record { word = bs; long = omega (arith, long); passes = passes; ends = subst (λ n. f.rules.accept (run f.rules n (f.rules.step (f.from + i) s.0 b) (bs ++ rest)) ≡ true) e ends })

step_back : {P Q : Type 0} (f : Filtered P Q) (i left : ℕ) (rest : List Bool) (s : P × Q) (b : Bool) → PassesOn f (i + 1) left rest (step_both f i s b) → PassesOn f i (suc left) rest s
step_back f i left rest s b on =
    let e : f.from + i + 1 ≡ f.from + (i + 1) = omega arith in
    let long : length on.word ≡ left = on.long in
    record {
      word = b ∷ on.word;
      long = omega (arith, long);
      passes = on.passes;
      ends = subst (λ n. f.rules.accept (run f.rules n (f.rules.step (f.from + i) s.0 b) (on.word ++ rest)) ≡ true) (sym e) on.ends;
    }

turn : {P Q : Type 0} (f : Filtered P Q) (i left : ℕ) (states next : List (P × Q)) (rest : List Bool) → LeadsTo f i states next → SomePassesOn f i (suc left) rest states ↔ SomePassesOn f (i + 1) left rest next
turn {P = P} {Q = Q} f i left states next rest leads = (forth, back)
  where
    forth : SomePassesOn f i (suc left) rest states → SomePassesOn f (i + 1) left rest next
    forth h =
        let o = step_on f i left rest h.state h.on.word h.on.long h.on.passes h.on.ends in
        elim (leads.every h.state o.0 h.among) [
          | inl there ↦ record { state = step_both f i h.state o.0; among = there; on = o.1 }
          | inr dead ↦ absurd (dead_ends f (i + 1) left rest (step_both f i h.state o.0) dead o.1)
        ]

    back : SomePassesOn f (i + 1) left rest next → SomePassesOn f i (suc left) rest states
    back h =
        let o = leads.only h.state h.among in
        record { state = o.0; among = o.2; on = step_back f i left rest o.0 o.1 (subst (PassesOn f (i + 1) left rest) o.3 h.on) }

pub each_same : {X : Type 0} (R : X → Type 0) (old new : List X) → ((t : X) → Contains new t ↔ Contains old t) → Each R old → Each R new
each_same R old new same each t h = each t ((same t).0 h)

-- ---- all bits of a filter

-- what the loop keeps: the states so far go on as those at the start did
abbrev pub KeepsOn : {P Q : Type 0} → Filtered P Q → ℕ → List P → ℕ → List (P × Q) → Type 0
KeepsOn f count states i pairs = (left : ℕ) (rest : List Bool) → i + left ≡ count → SomePasses f count rest states ↔ SomePassesOn f i left rest pairs

pub keeps_at_start : {P Q : Type 0} (f : Filtered P Q) (count : ℕ) (states : List P) (pairs : List (P × Q))
    → Each {X = P × Q} (λ s. Contains states s.0 × (s.1 ≡ f.filter.start)) pairs → Each (λ q. Contains {X = P × Q} pairs (q, f.filter.start)) states
    → KeepsOn f count states 0 pairs
keeps_at_start {P = P} {Q = Q} f count states pairs only every left rest e =
    let same : count ≡ left = omega (arith, e) in (
      (λ h. record { state = (h.state, f.filter.start); among = every h.state h.among; on = subst (λ n. PassesOn f 0 n rest (h.state, f.filter.start)) same h.on }),
      (λ h.
          let o = only h.state h.among in
          let is : h.state ≡ (h.state.0, f.filter.start) = λ j. (h.state.0, o.1 j) in
          record { state = h.state.0; among = o.0; on = subst (λ n. PassesOn f 0 n rest (h.state.0, f.filter.start)) (sym same) (subst (PassesOn f 0 left rest) is h.on) }),
    )

pub keeps_turn : {P Q : Type 0} (f : Filtered P Q) (count : ℕ) (states : List P) (i : ℕ) (pairs next : List (P × Q)) → LeadsTo f i pairs next → KeepsOn f count states i pairs → KeepsOn f count states (i + 1) next
keeps_turn f count states i pairs next leads keeps left rest e =
    let before = keeps (suc left) rest (omega (arith, e)) in
    let step = turn f i left pairs next rest leads in
    (λ h. step.0 (before.0 h), λ h. before.1 (step.1 h))

-- and all of them occur there
pub record Carries {P Q : Type 0} (f : Filtered P Q) (count : ℕ) (states : List P) (i : ℕ) (R : P × Q → Type 0) (pairs : List (P × Q)) : Type 0 where
  pub keeps : KeepsOn f count states i pairs
  pub occur : Each {X = P × Q} R pairs

pub ends_right : {P Q : Type 0} (f : Filtered P Q) (count : ℕ) (states : List P) (i : ℕ) (pairs : List (P × Q)) (ends : List P) → i ≡ count → KeepsOn f count states i pairs
    → Each (λ q. (t : Q) × Contains {X = P × Q} pairs (q, t) × (f.filter.accept t ≡ true)) ends → Each {X = P × Q} (λ s. f.filter.accept s.1 ≡ true → Contains ends s.0) pairs
    → (rest : List Bool) → SomePasses f count rest states ↔ SomeEnds f.rules (f.from + count) rest ends
ends_right {P = P} {Q = Q} f count states i pairs ends at keeps only every rest = (λ h. forth (both.0 h), λ h. both.1 (back h))
  where
    both : SomePasses f count rest states ↔ SomePassesOn f i 0 rest pairs
    both = keeps 0 rest (omega (arith, at))

    empty : (word : List Bool) → length word ≡ 0 → word ≡ []
    empty [] e = refl
    empty (b ∷ bs) e = absurd (omega (arith, e))

    forth : SomePassesOn f i 0 rest pairs → SomeEnds f.rules (f.from + count) rest ends
    forth h =
        let none = empty h.on.word h.on.long in
        let accepted : f.filter.accept h.state.1 ≡ true = subst (λ w. f.filter.accept (run f.filter i h.state.1 w) ≡ true) none h.on.passes in
        let ended : f.rules.accept (run f.rules (f.from + i) h.state.0 rest) ≡ true = subst (λ w. f.rules.accept (run f.rules (f.from + i) h.state.0 (w ++ rest)) ≡ true) none h.on.ends in
        record { state = h.state.0; among = every h.state h.among accepted; ends = subst (λ n. f.rules.accept (run f.rules (f.from + n) h.state.0 rest) ≡ true) at ended }

    back : SomeEnds f.rules (f.from + count) rest ends → SomePassesOn f i 0 rest pairs
    back h =
        let o = only h.state h.among in
        record {
          state = (h.state, o.0);
          among = o.1;
          on = record { word = []; long = refl; passes = o.2; ends = subst (λ n. f.rules.accept (run f.rules (f.from + n) h.state rest) ≡ true) (sym at) h.ends };
        }
