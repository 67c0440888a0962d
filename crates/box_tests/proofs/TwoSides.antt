-- Sides and domains of two variables, for the tests.
use Rattle.std.proofs.Common.{◌≡◌, ℕ, zero, suc, ◌<◌, List, [], ◌∷◌, length, Some, None, refl, sym, subst, arith}
use Rattle.std.specs.Prelude.{slice_get}
use Rattle.std.specs.List.Sorted.{IsStrictlySortedBy}
use Rattle.std.proofs.lemmas.List.Elements.{All-from_recursion}
use Rattle.bit_layout.specs.Order.{LayoutState}
use Rattle.diagram_arena.specs.declared.nodes.Ref.{Ref}
use Rattle.diagram_arena.specs.Table.{Table}
use Rattle.exact_steps.specs.Domains.{variable, IsDomain, AreDomains}
use Rattle.exact_steps.proofs.Values.{same_some}
use Rattle.value_sets.specs.Sets.{IsValueSet}
use Rattle.box_clauses.specs.declared.sides.Side.{Side}
use Rattle.box_clauses.specs.Boxes.{IsSide, AreSides}

pub two_sides : (l : LayoutState) (t : Table) (sides : List Side) (d e : Ref) → length l.kinds ≡ 2 → IsValueSet l t (variable 0) d → IsValueSet l t (variable 1) e
    → sides ≡ record { var = variable 0; set = d } ∷ record { var = variable 1; set = e } ∷ [] → AreSides l t sides
unfolding IsStrictlySortedBy
two_sides l t sides d e two first second is = subst (AreSides l t) (sym is) (record {
  ascending = ((refl, tt), (tt, tt));
  each = All-from_recursion (IsSide l t) (record { var = variable 0; set = d } ∷ record { var = variable 1; set = e } ∷ [])
      (record { known = omega (arith, two); set = first }, (record { known = omega (arith, two); set = second }, tt));
})

pub two_domains : (l : LayoutState) (t : Table) (domains : List Ref) (d e : Ref) → length l.kinds ≡ 2 → IsDomain l t (variable 0) d → IsDomain l t (variable 1) e → domains ≡ d ∷ e ∷ [] → AreDomains l t domains
two_domains l t domains d e two first second is = subst (AreDomains l t) (sym is) (record { long = sym two; each = λ v r. at v.0 r })
  where
    at : (n : ℕ) (r : Ref) → slice_get (d ∷ e ∷ []) n ≡ Some r → IsDomain l t (variable n) r
    at zero r h = let g : d ≡ r = same_some (Some d) d r refl h in subst (IsDomain l t (variable 0)) g first
    at (suc zero) r h = let g : e ≡ r = same_some (Some e) e r refl h in subst (IsDomain l t (variable 1)) g second
    at (suc (suc n)) r h = absurd (let g : None ≡ Some r = h in cc)
