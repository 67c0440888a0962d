-- States beside the start of a filter.
use Rattle.std.proofs.Common.{◌≡◌, ℕ, ◌+◌, ◌<◌, ◌≤◌, List, [], ◌∷◌, ◌++◌, length, take, get_or, Contains, refl, sym, ◌∙◌, ap, subst, inl, inr}
use Rattle.std.proofs.lemmas.List.{take_more, take_all}
use Rattle.std.proofs.lemmas.List.Elements.{Contains-push, Contains-push_cases, Contains-append_left}
use Rattle.sweep_states.specs.Sweeps.{Each}
use Rattle.sweep_states.proofs.Turning.{each_none}

-- the pairs are the states beside this one
pub record Begins {P Q : Type 0} (start : Q) (states : List P) (pairs : List (P × Q)) : Type 0 where
  pub only : Each {X = P × Q} (λ s. Contains states s.0 × (s.1 ≡ start)) pairs
  pub every : Each (λ q. Contains {X = P × Q} pairs (q, start)) states

pub begins_none : {P Q : Type 0} (start : Q) → Begins {P = P} {Q = Q} start [] []
begins_none {P = P} {Q = Q} start = record {
  only = each_none {X = P × Q} (λ s. Contains [] s.0 × (s.1 ≡ start));
  every = each_none {X = P} (λ q. Contains {X = P × Q} [] (q, start));
}

begins_more : {P Q : Type 0} (start : Q) (states : List P) (pairs : List (P × Q)) (q : P) → Begins start states pairs → Begins start (states ++ q ∷ []) (pairs ++ (q, start) ∷ [])
begins_more {P = P} {Q = Q} start states pairs q begins = record {
  only = λ s h. elim (Contains-push_cases {X = P × Q} pairs (q, start) s h) [
    | inl before ↦ let o = begins.only s before in (Contains-append_left states (q ∷ []) s.0 o.0, o.1)
    | inr e ↦ let R : P × Q → Type 0 = λ t. Contains (states ++ q ∷ []) t.0 × (t.1 ≡ start) in subst R e (Contains-push states q, refl)
  ];
  every = λ p h. elim (Contains-push_cases states q p h) [
    | inl before ↦ Contains-append_left {X = P × Q} pairs ((q, start) ∷ []) (p, start) (begins.every p before)
    | inr e ↦ let R : P → Type 0 = λ r. Contains {X = P × Q} (pairs ++ (q, start) ∷ []) (r, start) in subst R e (Contains-push {X = P × Q} pairs (q, start))
  ];
}

pub begins_turn : {P Q : Type 0} (start : Q) (states : List P) (i : ℕ) (q : P) (s : Q) (old new : List (P × Q)) → i < length states → q ≡ get_or states i q → s ≡ start → new ≡ old ++ (q, s) ∷ []
    → Begins start (take i states) old → Begins start (take (i + 1) states) new
begins_turn {P = P} {Q = Q} start states i q s old new within is started pushed begins =
    let e : take (i + 1) states ≡ take i states ++ q ∷ [] = take_more states i q within ∙ ap (λ p. take i states ++ p ∷ []) (sym is) in
    let f : new ≡ old ++ (q, start) ∷ [] = pushed ∙ ap (λ r. old ++ (q, r) ∷ []) started in
    let more = begins_more start (take i states) old q begins in
    subst (λ xs. Begins start xs new) (sym e) (subst (Begins start (take i states ++ q ∷ [])) (sym f) more)

-- at the end of the loop, beside what the start is
pub begins_given : {P Q : Type 0} (first start : Q) (states : List P) (i : ℕ) (pairs : List (P × Q)) → length states ≤ i → first ≡ start → Begins first (take i states) pairs → Begins start states pairs
begins_given first start states i pairs all is begins = subst (λ q. Begins q states pairs) is (subst (λ xs. Begins first xs pairs) (take_all i states all) begins)

-- where each state occurs and the start does, so does each pair
pub begin_occurs : {P Q : Type 0} (start : Q) (states : List P) (pairs : List (P × Q)) (R : P → Type 0) (S : Q → Type 0) → Begins start states pairs → Each R states → S start
    → Each {X = P × Q} (λ s. R s.0 × S s.1) pairs
begin_occurs start states pairs R S begins each first s h = let o = begins.only s h in (each s.0 o.0, subst S (sym o.1) first)
