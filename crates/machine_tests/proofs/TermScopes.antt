-- The variables of linear terms are the scope of their sum.
use Rattle.std.proofs.Common.{◌≡◌, ◌<◌, List, length, get_or, map, All, Contains, sym, subst}
use Rattle.std.proofs.lemmas.List.{length-map, get_or-map}
use Rattle.std.proofs.lemmas.List.Elements.{All-map}
use Rattle.set_meaning.specs.declared.kinds.Kind.{Kind}
use Rattle.set_meaning.specs.declared.problems.VarId.{VarId}
use Rattle.linear_terms.specs.declared.terms.LinearTerm.{LinearTerm}

All-variables : (terms : List LinearTerm) → All (λ t. Contains (map (λ u. u.variable) terms) t.variable) terms
All-variables terms k d within =
    let long : k < length (map (λ (u : LinearTerm). u.variable) terms) = subst (λ n. k < n) (sym (length-map terms (λ (u : LinearTerm). u.variable))) within in
    let other = (get_or terms k d).variable in
    (k, long, get_or-map (λ (u : LinearTerm). u.variable) terms k d other within)

pub terms_in_scope : (terms : List LinearTerm) (scope : List VarId) → scope ≡ map (λ t. t.variable) terms → All (λ t. Contains scope t.variable) terms
terms_in_scope terms scope is =
    subst (λ vs. All (λ t. Contains vs t.variable) terms) (sym is)
    (All-variables terms)

pub variables_known : (kinds others : List Kind) (terms : List LinearTerm) (scope : List VarId) → scope ≡ map (λ t. t.variable) terms → kinds ≡ others → All (λ t. t.variable.0 < length others) terms
    → All (λ (v : VarId). v.0 < length kinds) scope
variables_known kinds others terms scope is same known =
    let P : VarId → Type 0 = λ v. v.0 < length kinds in
    let Q : List Kind → Type 0 = λ ks. All (λ (t : LinearTerm). t.variable.0 < length ks) terms in
    subst (All P) (sym is) (All-map P (λ (t : LinearTerm). t.variable) terms (subst Q (sym same) known))
