-- The states beside which a filter accepts.
use Rattle.std.proofs.Common.{◌≡◌, ◌↔◌, ℕ, ◌+◌, ◌<◌, ◌≤◌, Bool, true, false, List, [], ◌∷◌, ◌++◌, length, take, get_or, Contains, refl, sym, ◌∙◌, ap, subst, inl, inr}
use Rattle.std.proofs.lemmas.List.{take_more, take_all}
use Rattle.std.proofs.lemmas.List.Elements.{Contains-push, Contains-push_cases, Contains-append_left}
use Rattle.sweep_states.specs.Sweeps.{Each}
use Rattle.sweep_states.proofs.Turning.{each_none, each_same}

-- the ends are the first parts of the pairs whose second parts accept
pub record Finishes {P Q : Type 0} (accept : Q → Bool) (pairs : List (P × Q)) (ends : List P) : Type 0 where
  pub only : Each (λ q. (t : Q) × Contains {X = P × Q} pairs (q, t) × (accept t ≡ true)) ends
  pub every : Each {X = P × Q} (λ s. accept s.1 ≡ true → Contains ends s.0) pairs

pub finishes_none : {P Q : Type 0} (accept : Q → Bool) → Finishes {P = P} accept [] []
finishes_none {P = P} {Q = Q} accept = record {
  only = each_none {X = P} (λ q. (t : Q) × Contains {X = P × Q} [] (q, t) × (accept t ≡ true));
  every = each_none {X = P × Q} (λ s. accept s.1 ≡ true → Contains [] s.0);
}

taken_more : {P Q : Type 0} (accept : Q → Bool) (pairs : List (P × Q)) (ends : List P) (s : P × Q) → accept s.1 ≡ true → Finishes accept pairs ends → Finishes accept (pairs ++ s ∷ []) (ends ++ s.0 ∷ [])
taken_more {P = P} {Q = Q} accept pairs ends s is_taken h = record {
  only = λ q here. elim (Contains-push_cases ends s.0 q here) [
    | inl before ↦ let o = h.only q before in (o.0, Contains-append_left {X = P × Q} pairs (s ∷ []) (q, o.0) o.1, o.2)
    | inr e ↦ let R : P → Type 0 = λ p. (t : Q) × Contains {X = P × Q} (pairs ++ s ∷ []) (p, t) × (accept t ≡ true) in subst R e (s.1, Contains-push {X = P × Q} pairs s, is_taken)
  ];
  every = λ t here. elim (Contains-push_cases {X = P × Q} pairs s t here) [
    | inl before ↦ λ a. Contains-append_left ends (s.0 ∷ []) t.0 (h.every t before a)
    | inr e ↦ let R : P × Q → Type 0 = λ u. accept u.1 ≡ true → Contains (ends ++ s.0 ∷ []) u.0 in subst R e (λ a. Contains-push ends s.0)
  ];
}

left_more : {P Q : Type 0} (accept : Q → Bool) (pairs : List (P × Q)) (ends : List P) (s : P × Q) → accept s.1 ≡ false → Finishes accept pairs ends → Finishes accept (pairs ++ s ∷ []) ends
left_more {P = P} {Q = Q} accept pairs ends s no_more h = record {
  only = λ q here. let o = h.only q here in (o.0, Contains-append_left {X = P × Q} pairs (s ∷ []) (q, o.0) o.1, o.2);
  every = λ t here. elim (Contains-push_cases {X = P × Q} pairs s t here) [
    | inl before ↦ h.every t before
    | inr e ↦ let R : P × Q → Type 0 = λ u. accept u.1 ≡ true → Contains ends u.0 in subst R e (λ a. let clash : false ≡ true = sym no_more ∙ a in absurd (cc))
  ];
}

pub finishes_turn : {P Q : Type 0} (accept : Q → Bool) (xs : List (P × Q)) (i : ℕ) (s : P × Q) (old new : List P) → i < length xs → s ≡ get_or xs i s
    → (accept s.1 ≡ true → new ≡ old ++ s.0 ∷ []) → (accept s.1 ≡ false → new ≡ old) → Finishes accept (take i xs) old → Finishes accept (take (i + 1) xs) new
finishes_turn {P = P} {Q = Q} accept xs i s old new within is taken left h =
    let e : take (i + 1) xs ≡ take i xs ++ s ∷ [] = take_more xs i s within ∙ ap (λ (t : P × Q). take i xs ++ t ∷ []) (sym is) in
    subst (λ ys. Finishes accept ys new) (sym e) (each (accept s.1) refl)
  where
    each : (v : Bool) → accept s.1 ≡ v → Finishes accept (take i xs ++ s ∷ []) new
    each true a = subst (Finishes accept (take i xs ++ s ∷ [])) (sym (taken a)) (taken_more accept (take i xs) old s a h)
    each false a = subst (Finishes accept (take i xs ++ s ∷ [])) (sym (left a)) (left_more accept (take i xs) old s a h)

-- after the loop, and with each end once
pub finishes_all : {P Q : Type 0} (accept : Q → Bool) (xs : List (P × Q)) (i : ℕ) (ends distinct : List P) → length xs ≤ i → ((q : P) → Contains distinct q ↔ Contains ends q)
    → Finishes accept (take i xs) ends → Finishes accept xs distinct
finishes_all {P = P} {Q = Q} accept xs i ends distinct all same h =
    let whole = subst (λ ys. Finishes accept ys ends) (take_all i xs all) h in
    record { only = each_same (λ q. (t : Q) × Contains {X = P × Q} xs (q, t) × (accept t ≡ true)) ends distinct same whole.only; every = λ s here a. (same s.0).1 (whole.every s here a) }

-- what holds of each pair's first part holds of each end
pub end_occurs : {P Q : Type 0} (accept : Q → Bool) (pairs : List (P × Q)) (ends : List P) (R : P → Type 0) (S : Q → Type 0) → Finishes accept pairs ends → Each {X = P × Q} (λ s. R s.0 × S s.1) pairs → Each R ends
end_occurs accept pairs ends R S h each q here = let o = h.only q here in (each (q, o.0) o.1).0
