-- Ids in their order, and whether two are one. Nothing here speaks of how an arena is kept.
use Rattle.std.proofs.Common.{◌≡◌, ◌≢◌, ℕ, ◌⊎◌, true, false, ap, inl, inr, arith}
use Rattle.std.specs.Ordering.{nat_cmp, is_eq}
use Rattle.std.specs.Cmp.{IsTotalOrder, nat_cmp_total, on_total}
use Rattle.std.specs.FinMap as map
use Rattle.std.proofs.lemmas.Bool.{cases_eq}
use Rattle.std.proofs.lemmas.Bool.Decides.{nat_tests}
use Rattle.diagram_arena.specs.declared.nodes.NodeId.{NodeId}
use Rattle.diagram_arena.specs.Table.{id_cmp}

pub same_id : (i j : NodeId) → i.0 ≡ j.0 → i ≡ j
same_id i j e = λ k. record { 0 = e k }

pub cases_id : (i j : NodeId) → (i ≡ j) ⊎ (i ≢ j)
cases_id i j = elim (cases_eq i.0 j.0) [ inl e ↦ inl (same_id i j e) | inr ne ↦ inr (λ e. ne (ap (λ (x : NodeId). x.0) e)) ]

pub id_cmp_total : IsTotalOrder id_cmp
id_cmp_total = on_total (λ (i : NodeId). i.0) nat_cmp_total

pub id_cmp-IsAntisymmetric : map.IsAntisymmetric id_cmp
id_cmp-IsAntisymmetric x y e = same_id x y (map.nat_cmp-IsAntisymmetric x.0 y.0 e)

pub tied_same : (q k : ℕ) → q ≡ k → is_eq (nat_cmp q k) ≡ true
tied_same q k e = grind (arith, nat_tests)

pub tied_other : (q k : ℕ) → q ≢ k → is_eq (nat_cmp q k) ≡ false
tied_other q k ne = grind (arith, nat_tests)
