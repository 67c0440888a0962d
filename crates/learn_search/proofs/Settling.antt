-- What an exact step leaves quiet: its own constraint, and each that reads none of the variables it narrowed.
use Rattle.std.proofs.Common.{◌≡◌, ℕ, zero, suc, ◌<◌, Bool, true, List, [], ◌∷◌, length, set, Some, refl, sym, ap, ◌∙◌, subst, inl, inr, arith, Contains}
use Rattle.std.specs.Prelude.{◌⊎◌, slice_get}
use Rattle.std.proofs.lemmas.Bool.{cases_eq}
use Rattle.std.proofs.lemmas.List.{length-set, get_or-set_same}
use Rattle.std.proofs.lemmas.Option.{slice_get-get_or}
use Rattle.set_meaning.specs.declared.problems.VarId.{VarId}
use Rattle.bit_layout.proofs.Rising.{nothing_in_empty, in_cons, in_head, in_tail}
use Rattle.diagram_arena.specs.declared.nodes.Ref.{Ref}
use Rattle.search_rules.specs.Problem as rules
use Rattle.exact_steps.specs.Domains.{variable}
use Rattle.exact_steps.specs.Steps.{narrowed_in}
use Rattle.learn_search.specs.Way.{put_each}

-- ---- exact steps

module _ {X : Type 0} (p : rules.Problem X) (c : ℕ) (f g : ℕ → X → Bool) where
  -- values in the family that satisfy the constraint are in what its exact step leaves
  pub support_stays : rules.IsExactStep p c f g → (a : ℕ → X) → ((u : ℕ) → p.scope c u ≡ true → f u (a u) ≡ true) → p.holds c a → (u : ℕ) → p.scope c u ≡ true → g u (a u) ≡ true
  support_stays step a inside holds u scoped = step.whole u (a u) (record { values = a; scoped = scoped; at = refl; inside = inside; holds = holds })

  -- what the exact step of a constraint leads to is left as it is by it
  pub left_after : rules.IsExactStep p c f g → rules.IsLeft p c g
  left_after step v x scoped has =
      let e : rules.Extends p c f v x = step.sound v x scoped has in
      record { values = e.values; scoped = scoped; at = e.at; inside = support_stays step e.values e.inside e.holds; holds = e.holds }

  -- a step depends on the sets of the scope alone
  pub left_alike : ((u : ℕ) → p.scope c u ≡ true → g u ≡ f u) → rules.IsLeft p c f → rules.IsLeft p c g
  left_alike same left v x scoped has =
      let e : rules.Extends p c f v x = left v x scoped (subst (λ s. s x ≡ true) (same v scoped) has) in
      record {
        values = e.values;
        scoped = scoped;
        at = e.at;
        inside = λ u there. subst (λ s. s (e.values u) ≡ true) (sym (same u there)) (e.inside u there);
        holds = e.holds;
      }

-- ---- domains put in place of others

-- the variable is in the list, or it is not
pub member_cases : (vs : List VarId) (v : VarId) → Contains vs v ⊎ (Contains vs v → ⊥)
member_cases [] v = inr (λ h. nothing_in_empty v h)
member_cases (u ∷ vs) v = elim (member_cases vs v) [
  | inl later ↦ inl (in_tail u vs v later)
  | inr none ↦ elim (cases_eq u.0 v.0) [
    | inl same ↦ inl (subst (λ w. Contains (u ∷ vs) w) (ap variable same) (in_head u vs))
    | inr other ↦ inr (λ h. elim (in_cons u vs v h) [
      | inl here ↦ other (ap (λ (w : VarId). w.0) here)
      | inr later ↦ none later
    ])
  ]
]

set_other : (xs : List Ref) (i j : ℕ) (r : Ref) → (j ≡ i → ⊥) → slice_get (set xs i r) j ≡ slice_get xs j
set_other [] i j r ne = refl
set_other (x ∷ xs) zero zero r ne = absurd (ne refl)
set_other (x ∷ xs) zero (suc j) r ne = refl
set_other (x ∷ xs) (suc i) zero r ne = refl
set_other (x ∷ xs) (suc i) (suc j) r ne = set_other xs i j r (λ e. ne (ap suc e))

set_same : (xs : List Ref) (i : ℕ) (r : Ref) → i < length xs → slice_get (set xs i r) i ≡ Some r
set_same xs i r within =
    let long = length-set xs i r in
    slice_get-get_or (set xs i r) i r (omega (arith, long, within)) ∙ ap Some (get_or-set_same xs i r r within)

pub put_each-others : (kept : List (VarId × Ref)) (domains : List Ref) (n : ℕ) → (Contains (narrowed_in kept) (variable n) → ⊥) → slice_get (put_each kept domains) n ≡ slice_get domains n
put_each-others [] domains n none = refl
put_each-others ((v, r) ∷ kept) domains n none =
    put_each-others kept (set domains v.0 r) n (λ h. none (in_tail v (narrowed_in kept) (variable n) h))
    ∙ set_other domains v.0 n r (λ e. none (subst (λ w. Contains (v ∷ narrowed_in kept) w) (ap variable (sym e)) (in_head v (narrowed_in kept))))

-- the domain that a variable of the list has then is one that the list gives it
pub put_each-at : (kept : List (VarId × Ref)) (domains : List Ref) (w : VarId) → ((v : VarId) (r : Ref) → Contains {X = VarId × Ref} kept (v, r) → v.0 < length domains) → Contains (narrowed_in kept) w
    → (r : Ref) × (slice_get (put_each kept domains) w.0 ≡ Some r) × Contains {X = VarId × Ref} kept (w, r)
put_each-at [] domains w known h = absurd (nothing_in_empty w h)
put_each-at ((v, r) ∷ kept) domains w known h = elim (member_cases (narrowed_in kept) w) [
  | inl later ↦
      let rest = put_each-at kept (set domains v.0 r) w (λ u s k. subst (λ n. u.0 < n) (sym (length-set domains v.0 r)) (known u s (in_tail (v, r) kept (u, s) k))) later in
      (rest.0, rest.1, in_tail (v, r) kept (w, rest.0) rest.2)
  | inr none ↦ elim (in_cons v (narrowed_in kept) w h) [
    | inr later ↦ absurd (none later)
    | inl here ↦ (
      r,
      put_each-others kept (set domains v.0 r) w.0 none
          ∙ subst (λ (u : VarId). slice_get (set domains v.0 r) u.0 ≡ Some r) here (set_same domains v.0 r (known v r (in_head (v, r) kept))),
      subst (λ (u : VarId). Contains {X = VarId × Ref} ((v, r) ∷ kept) (u, r)) here (in_head (v, r) kept),
    )
  ]
]
