-- The bit of a place is one of its variable's.
use Rattle.std.proofs.Common.{◌≡◌, ℕ, ◌==◌, true, false, ap, ◌∙◌}
use Rattle.std.specs.Option.{option_map_or}
use Rattle.std.proofs.lemmas.Bool.{eq-eqb}
use Rattle.set_meaning.specs.declared.problems.VarId.{VarId}
use Rattle.bit_layout.specs.declared.places.Place.{Place}
use Rattle.bit_layout.specs.Order.{LayoutState, StandsFor}
use Rattle.bit_layout.proofs.Finding.{stands_cases}
use Rattle.diagram_arena.specs.declared.nodes.Ref.{Ref}
use Rattle.diagram_arena.specs.Table.{Table}
use Rattle.diagram_arena.specs.Reach.{ReachesOnly}
use Rattle.refute_log.specs.Naming.{bits_of, IsOfOneVariable}

pub own_bit : (l : LayoutState) (v : VarId) (bit i : ℕ) → StandsFor l bit v i → bits_of l v bit ≡ true
own_bit l v bit i stands =
    let p = stands_cases l bit v i stands in
    ap (λ o. option_map_or (λ (q : Place). q.variable.0 == v.0) o false) p.1 ∙ eq-eqb p.0.variable.0 v.0 (ap (λ (x : VarId). x.0) p.2)

pub of_one : (l : LayoutState) (t : Table) (v : VarId) (r : Ref) → ReachesOnly t (bits_of l v) r → IsOfOneVariable l t r
of_one l t v r reaches = record { variable = v; reaches = reaches }
