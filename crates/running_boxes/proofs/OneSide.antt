-- One side of a resolvent: the union or the intersection that a call made.
use Rattle.std.proofs.Common.{◌≡◌, ◌<◌, Bool, true, cond, List, length, Some, refl, sym, ap, ◌∙◌, subst, eq-eqb}
use Rattle.std.specs.Prelude.{slice_get}
use Rattle.std.proofs.lemmas.Bool.{ne_eqb}
use Rattle.set_meaning.specs.declared.kinds.Value.{Value}
use Rattle.set_meaning.specs.declared.problems.VarId.{VarId}
use Rattle.bit_layout.specs.Order.{LayoutState}
use Rattle.diagram_arena.specs.declared.nodes.Ref.{Ref}
use Rattle.diagram_arena.specs.Table.{Table}
use Rattle.diagram_arena.specs.Arena.{table, Grows}
use Rattle.node_reclaim.specs.Pool.{PoolState}
use Rattle.node_reclaim.specs.Growth.{NewAre}
use Rattle.search_rules.specs.Family.{HasValue}
use Rattle.exact_steps.specs.Domains.{values_in, family}
use Rattle.value_sets.specs.Sets.{IsSetOf, both, either}
use Rattle.propagators.specs.Compiled.{AreInitialDomains}
use Rattle.box_clauses.specs.declared.sides.Side.{Side}
use Rattle.running_boxes.specs.Nodes.{IsPartOfValues}
use Rattle.running_boxes.specs.Work.{side_with, resolved_values, IsResolvedSide}
use Rattle.running_boxes.specs.Laws.{LowerLaws}
use Rattle.running_boxes.proofs.Places.{family_here}

-- initial domains stay initial domains as nodes are added
pub start_grows : (laws : LowerLaws) (l : LayoutState) (t u : Table) (start : List Ref) → Grows t u → AreInitialDomains l t start → AreInitialDomains l u start
start_grows laws l t u start grows are = record {
  long = are.long;
  each = λ v r at.
      let is = are.each v r at in
      let more = laws.grown l t u v r grows is.domain.diagram in
      record {
        domain = record { diagram = more.0; some = subst HasValue (sym more.1) is.domain.some };
        all = λ x h. subst (λ (f : Value → Bool). f x ≡ true) (sym more.1) (is.all x h);
      };
}

module _ (l : LayoutState) (t : Table) (running : List Ref) (v : VarId) (s : Side) (own : Ref) (at : slice_get running s.var.0 ≡ Some own) where
  pub united_values : s.var.0 ≡ v.0 → either (values_in l t s.var own) (values_in l t s.var s.set) ≡ resolved_values l t running v s
  united_values here =
      ap (λ (f : Value → Bool). either f (values_in l t s.var s.set)) (sym (family_here l t running s.var own at))
      ∙ sym (ap (λ q. cond q (either (family l t running s.var.0) (values_in l t s.var s.set)) (both (family l t running s.var.0) (values_in l t s.var s.set))) (eq-eqb s.var.0 v.0 here))

  pub met_values : (s.var.0 ≡ v.0 → ⊥) → both (values_in l t s.var own) (values_in l t s.var s.set) ≡ resolved_values l t running v s
  met_values other =
      ap (λ (f : Value → Bool). both f (values_in l t s.var s.set)) (sym (family_here l t running s.var own at))
      ∙ sym (ap (λ q. cond q (either (family l t running s.var.0) (values_in l t s.var s.set)) (both (family l t running s.var.0) (values_in l t s.var s.set))) (ne_eqb s.var.0 v.0 other))

  -- what a call made, told of the state that is left
  module _ (f : Value → Bool) (values : f ≡ resolved_values l t running v s) (now later : PoolState) (same : later ≡ now) where
    pub side_from : s.var.0 < length l.kinds → (r set : Ref) → set ≡ r → IsSetOf l (table now.arena) s.var f r → IsResolvedSide l t (table later.arena) running v s (side_with s.var set)
    side_from known r set is made =
        subst (λ (x : PoolState). IsResolvedSide l t (table x.arena) running v s (side_with s.var set)) (sym same)
        (subst (λ (y : Ref). IsResolvedSide l t (table now.arena) running v s (side_with s.var y)) (sym is)
        (record { same = refl; side = record { known = known; set = made.set }; values = made.values ∙ values }))

    pub made_from : NewAre t (table now.arena) (IsPartOfValues l s.var f) → NewAre t (table later.arena) (IsPartOfValues l s.var (resolved_values l t running v s))
    made_from made =
        subst (λ (x : PoolState). NewAre t (table x.arena) (IsPartOfValues l s.var (resolved_values l t running v s))) (sym same)
        (subst (λ (g : Value → Bool). NewAre t (table now.arena) (IsPartOfValues l s.var g)) values made)
