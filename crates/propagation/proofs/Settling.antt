-- What an exact step leaves quiet, and steps that stay where sets stay.
use Rattle.std.proofs.Common.{◌≡◌, ℕ, suc, ◌<◌, Bool, true, List, [], ◌∷◌, length, get_or, Some, refl, sym, ap, subst, inl, inr, Contains}
use Rattle.std.specs.Prelude.{◌⊎◌, slice_get}
use Rattle.std.specs.List.{AllZip}
use Rattle.std.proofs.lemmas.Bool.{cases_eq}
use Rattle.std.proofs.lemmas.Option.{slice_get-get_or}
use Rattle.set_meaning.specs.declared.kinds.Value.{Value}
use Rattle.set_meaning.specs.declared.problems.VarId.{VarId}
use Rattle.set_meaning.specs.declared.problems.Constraint.{Constraint}
use Rattle.set_meaning.specs.declared.problems.Problem.{Problem}
use Rattle.set_meaning.specs.Relations.{IsScope}
use Rattle.bit_layout.specs.Order.{LayoutState}
use Rattle.bit_layout.proofs.Rising.{nothing_in_empty, in_cons, in_head, in_tail}
use Rattle.diagram_arena.specs.declared.nodes.Ref.{Ref}
use Rattle.diagram_arena.specs.declared.nodes.Ref.TheVariants.{Zero}
use Rattle.diagram_arena.specs.Table.{Table}
use Rattle.search_rules.specs.Problem as rules
use Rattle.exact_steps.specs.Domains.{variable}
use Rattle.problem_rules.specs.Posed.{problem_of}
use Rattle.propagators.specs.Compiled.{CompiledState, IsCompiled}
use Rattle.propagators.proofs.Scopes.{IsEntry, entry}
use Rattle.propagation.specs.Quiet.{IsQuietAt}

-- ---- exact steps

module _ {X : Type 0} (p : rules.Problem X) (c : ℕ) (f g : ℕ → X → Bool) where
  -- values in the family that satisfy the constraint are in what its exact step leaves
  pub support_stays : rules.IsExactStep p c f g → (a : ℕ → X) → ((u : ℕ) → p.scope c u ≡ true → f u (a u) ≡ true) → p.holds c a → (u : ℕ) → p.scope c u ≡ true → g u (a u) ≡ true
  support_stays step a inside holds u scoped = step.whole u (a u) (record { values = a; scoped = scoped; at = refl; inside = inside; holds = holds })

  -- what the exact step of a constraint leads to is left as it is by it
  pub left_after : rules.IsExactStep p c f g → rules.IsLeft p c g
  left_after step v x scoped has =
      let e : rules.Extends p c f v x = step.sound v x scoped has in
      record { values = e.values; scoped = scoped; at = e.at; inside = support_stays step e.values e.inside e.holds; holds = e.holds }

  -- a step depends on the sets of the scope alone
  pub left_alike : ((u : ℕ) → p.scope c u ≡ true → g u ≡ f u) → rules.IsLeft p c f → rules.IsLeft p c g
  left_alike same left v x scoped has =
      let e : rules.Extends p c f v x = left v x scoped (subst (λ s. s x ≡ true) (same v scoped) has) in
      record {
        values = e.values;
        scoped = scoped;
        at = e.at;
        inside = λ u there. subst (λ s. s (e.values u) ≡ true) (sym (same u there)) (e.inside u there);
        holds = e.holds;
      }

pub quiet_alike : (p : Problem) (c : ℕ) (f g : ℕ → Value → Bool) → ((u : ℕ) → (problem_of p).scope c u ≡ true → g u ≡ f u) → IsQuietAt p f c → IsQuietAt p g c
quiet_alike p c f g same h = record {
  stays = left_alike (problem_of p) c f g same h.stays;
  values = h.values;
  inside = λ u scoped. subst (λ (s : Value → Bool). s (h.values u) ≡ true) (sym (same u scoped)) (h.inside u scoped);
  holds = h.holds;
}

-- ---- lists of variables

-- the variable is in the list, or it is not
pub member_cases : (vs : List VarId) (v : VarId) → Contains vs v ⊎ (Contains vs v → ⊥)
member_cases [] v = inr (λ h. nothing_in_empty v h)
member_cases (u ∷ vs) v = elim (member_cases vs v) [
  | inl later ↦ inl (in_tail u vs v later)
  | inr none ↦ elim (cases_eq u.0 v.0) [
    | inl same ↦ inl (subst (λ w. Contains (u ∷ vs) w) (ap variable same) (in_head u vs))
    | inr other ↦ inr (λ h. elim (in_cons u vs v h) [
      | inl here ↦ other (ap (λ (w : VarId). w.0) here)
      | inr later ↦ none later
    ])
  ]
]

-- ---- the constraints of a compiled problem

pub zip_lengths : {A B : Type 0} (R : A → B → Type 0) (xs : List A) (ys : List B) → AllZip R xs ys → length xs ≡ length ys
zip_lengths R [] [] h = refl
zip_lengths R [] (y ∷ ys) h = absurd h
zip_lengths R (x ∷ xs) [] h = absurd h
zip_lengths R (x ∷ xs) (y ∷ ys) h = ap suc (zip_lengths R xs ys h.1)

-- the scope and the diagram of a constraint of the problem
pub record IsThere (l : LayoutState) (p : Problem) (t : Table) (k : CompiledState) (c : ℕ) : Type 0 where
  pub scope : List VarId
  pub diagram : Ref
  pub constraint : Constraint
  pub scope_at : slice_get k.scopes c ≡ Some scope
  pub at : slice_get p.constraints c ≡ Some constraint
  pub entry_is : IsEntry l t constraint scope diagram

pub there : (l : LayoutState) (p : Problem) (t : Table) (k : CompiledState) (c : ℕ) → IsCompiled l p t k → c < length p.constraints → IsThere l p t k c
there l p t k c is known =
    let scopes = zip_lengths IsScope p.constraints k.scopes is.scopes in
    let diagrams = zip_lengths _ p.constraints k.diagrams is.diagrams in
    let scope_at = slice_get-get_or k.scopes c [] (subst (λ n. c < n) scopes known) in
    let diagram_at = slice_get-get_or k.diagrams c Zero (subst (λ n. c < n) diagrams known) in
    let found = entry l p t k c (get_or k.scopes c []) (get_or k.diagrams c Zero) is scope_at diagram_at in
    record { scope = get_or k.scopes c []; diagram = get_or k.diagrams c Zero; constraint = found.0; scope_at = scope_at; at = found.1; entry_is = found.2 }

pub scopes_count : (l : LayoutState) (p : Problem) (t : Table) (k : CompiledState) → IsCompiled l p t k → length k.scopes ≡ length p.constraints
scopes_count l p t k is = sym (zip_lengths IsScope p.constraints k.scopes is.scopes)

pub scopes_long : (l : LayoutState) (p : Problem) (t : Table) (k : CompiledState) (c : ℕ) → IsCompiled l p t k → c < length p.constraints → c < length k.scopes
scopes_long l p t k c is known = subst (λ n. c < n) (zip_lengths IsScope p.constraints k.scopes is.scopes) known
