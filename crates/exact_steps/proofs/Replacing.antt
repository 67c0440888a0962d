-- One domain replaced by another.
use Rattle.std.proofs.Common.{◌≡◌, ℕ, zero, suc, ◌<◌, eqb, Bool, true, false, List, [], ◌∷◌, length, set, Some, refl, sym, ap, ◌∙◌, subst, inl, inr, arith, eq-eqb}
use Rattle.std.specs.Prelude.{slice_get}
use Rattle.std.specs.Option.{option_map_or}
use Rattle.std.proofs.Math.Path.{fun_ext}
use Rattle.std.proofs.lemmas.Bool.{cases_eq, ne_eqb}
use Rattle.std.proofs.lemmas.List.{length-set, get_or-set_same}
use Rattle.std.proofs.lemmas.Option.{slice_get-get_or}
use Rattle.set_meaning.specs.declared.kinds.Value.{Value}
use Rattle.set_meaning.specs.declared.problems.VarId.{VarId}
use Rattle.bit_layout.specs.Order.{LayoutState}
use Rattle.diagram_arena.specs.declared.nodes.Ref.{Ref}
use Rattle.diagram_arena.specs.Table.{Table}
use Rattle.diagram_arena.specs.Arena.{Grows}
use Rattle.search_rules.specs.Family.{put}
use Rattle.exact_steps.specs.Domains.{variable, values_in, IsDomain, AreDomains, family}
use Rattle.exact_steps.proofs.Values.{same_some}
use Rattle.exact_steps.proofs.Wanted.{domain_grows, family_at}
use Rattle.exact_steps.proofs.Constraints.{family_grows}

set_other : (xs : List Ref) (i j : ℕ) (r : Ref) → (j ≡ i → ⊥) → slice_get (set xs i r) j ≡ slice_get xs j
set_other [] i j r ne = refl
set_other (x ∷ xs) zero zero r ne = absurd (ne refl)
set_other (x ∷ xs) zero (suc j) r ne = refl
set_other (x ∷ xs) (suc i) zero r ne = refl
set_other (x ∷ xs) (suc i) (suc j) r ne = set_other xs i j r (λ e. ne (ap suc e))

set_same : (xs : List Ref) (i : ℕ) (r : Ref) → i < length xs → slice_get (set xs i r) i ≡ Some r
set_same xs i r within =
    let long = length-set xs i r in
    slice_get-get_or (set xs i r) i r (omega (arith, long, within)) ∙ ap Some (get_or-set_same xs i r r within)

pub domains_replaced : (l : LayoutState) (t u : Table) (domains : List Ref) (v : VarId) (r : Ref) → Grows t u → AreDomains l t domains → v.0 < length domains → IsDomain l u v r → AreDomains l u (set domains v.0 r)
domains_replaced l t u domains v r grows are within is = record {
  long = length-set domains v.0 r ∙ are.long;
  each = λ w q e. elim (cases_eq w.0 v.0) [
    | inl same ↦
        let w_is : v ≡ w = ap variable (sym same) in
        let here : slice_get (set domains v.0 r) v.0 ≡ Some q = subst (λ n. slice_get (set domains v.0 r) n ≡ Some q) same e in
        let r_is : r ≡ q = same_some (slice_get (set domains v.0 r) v.0) r q (set_same domains v.0 r within) here in
        subst (λ w. IsDomain l u w q) w_is (subst (IsDomain l u v) r_is is)
    | inr other ↦ domain_grows l t u w q grows (are.each w q (sym (set_other domains v.0 w.0 r other) ∙ e))
  ];
}

pub family_replaced : (l : LayoutState) (t u : Table) (domains : List Ref) (v : VarId) (r : Ref) → Grows t u → AreDomains l t domains → v.0 < length domains
    → family l u (set domains v.0 r) ≡ put (family l t domains) v.0 (values_in l u v r)
family_replaced l t u domains v r grows are within = fun_ext (λ n. elim (cases_eq n v.0) [
  | inl same ↦ let on : eqb n v.0 ≡ true = eq-eqb n v.0 same in rw on (ap (family l u (set domains v.0 r)) same ∙ family_at l u (set domains v.0 r) v r (set_same domains v.0 r within))
  | inr other ↦ let off : eqb n v.0 ≡ false = ne_eqb n v.0 other in rw off
      (ap (λ o. λ x. option_map_or (λ q. values_in l u (variable n) q x) o true) (set_other domains v.0 n r other) ∙ ap (λ (f : ℕ → Value → Bool). f n) (family_grows l t u domains grows are))
])
