-- Sides that are put in place of others in a running box.
use Rattle.std.proofs.Common.{◌≡◌, ◌≢◌, ℕ, ◌<◌, Bool, true, List, [], ◌∷◌, length, set, Some, sym, ap, ◌∙◌, subst, inl, inr}
use Rattle.std.specs.Prelude.{slice_get, slice_set}
use Rattle.std.specs.List.{All}
use Rattle.std.specs.Option.{option_map_or}
use Rattle.std.proofs.Math.Path.{fun_ext}
use Rattle.std.proofs.lemmas.Bool.{cases_eq}
use Rattle.std.proofs.lemmas.List.{length-set}
use Rattle.std.proofs.lemmas.List.Elements.{All-weaker, All-head, All-tail, All-cons, All-nil}
use Rattle.set_meaning.specs.declared.kinds.Value.{Value}
use Rattle.set_meaning.specs.declared.problems.VarId.{VarId}
use Rattle.bit_layout.specs.Order.{LayoutState}
use Rattle.diagram_arena.specs.declared.nodes.Ref.{Ref}
use Rattle.diagram_arena.specs.Table.{Table}
use Rattle.exact_steps.specs.Domains.{variable, values_in, family}
use Rattle.value_sets.specs.Sets.{IsValueSet}
use Rattle.box_clauses.specs.declared.sides.Side.{Side}
use Rattle.box_clauses.specs.Boxes.{IsSide}
use Rattle.running_boxes.specs.Running.{AreRunning}
use Rattle.running_boxes.specs.Work.{put_sides, IsSideOf, NoneIsOf}
use Rattle.running_boxes.proofs.Lists.{same_some, set_other, set_same}

module _ (l : LayoutState) (u : Table) where
  pub family_here : (rs : List Ref) (v : VarId) (r : Ref) → slice_get rs v.0 ≡ Some r → family l u rs v.0 ≡ values_in l u v r
  family_here rs v r e = ap (λ o. λ x. option_map_or (λ q. values_in l u v q x) o true) e

  family_other : (rs : List Ref) (v : VarId) (r : Ref) (w : ℕ) → (w ≡ v.0 → ⊥) → family l u (slice_set rs v.0 r) w ≡ family l u rs w
  family_other rs v r w ne = ap (λ o. λ x. option_map_or (λ q. values_in l u (variable w) q x) o true) (set_other rs v.0 w r ne)

  -- ---- one side

  one_put : (rs : List Ref) (s : Side) → AreRunning l u rs → IsSide l u s → AreRunning l u (slice_set rs s.var.0 s.set)
  one_put rs s are is = record {
    long = length-set rs s.var.0 s.set ∙ are.long;
    each = λ w q e. elim (cases_eq w.0 s.var.0) [
      | inl same ↦
          let within : s.var.0 < length rs = subst (λ n. s.var.0 < n) (sym are.long) is.known in
          let here : slice_get (set rs s.var.0 s.set) s.var.0 ≡ Some q = subst (λ n. slice_get (set rs s.var.0 s.set) n ≡ Some q) same e in
          let r_is : s.set ≡ q = same_some (slice_get (set rs s.var.0 s.set) s.var.0) s.set q (set_same rs s.var.0 s.set within) here in
          let w_is : s.var ≡ w = ap variable (sym same) in
          subst (λ z. IsValueSet l u z q) w_is (subst (IsValueSet l u s.var) r_is is.set)
      | inr other ↦ are.each w q (sym (set_other rs s.var.0 w.0 s.set other) ∙ e)
    ];
  }

  -- ---- all sides

  pub sides_put : (sides : List Side) (rs : List Ref) → AreRunning l u rs → All (IsSide l u) sides → AreRunning l u (put_sides sides rs)
  sides_put [] rs are each = are
  sides_put (s ∷ sides) rs are each =
      sides_put sides (slice_set rs s.var.0 s.set) (one_put rs s are (All-head (IsSide l u) s sides each)) (All-tail (IsSide l u) s sides each)

  pub only_sides : (g : ℕ → Value → Bool) (sides : List Side) → All (IsSideOf l u g) sides → All (IsSide l u) sides
  only_sides g sides each = All-weaker (IsSideOf l u g) (IsSide l u) (λ s is. is.side) sides each

  -- where g is what stands beside the sides, and each side has what g has, the family becomes g
  pub put_is : (g : ℕ → Value → Bool) (sides : List Side) (rs : List Ref) → length rs ≡ length l.kinds → All (IsSideOf l u g) sides
      → ((w : ℕ) → NoneIsOf w sides → family l u rs w ≡ g w) → family l u (put_sides sides rs) ≡ g
  put_is g [] rs long each rest = fun_ext (λ w. rest w (All-nil (λ (s : Side). s.var.0 ≢ w)))
  put_is g (s ∷ sides) rs long each rest =
      let is = All-head (IsSideOf l u g) s sides each in
      let within : s.var.0 < length rs = subst (λ n. s.var.0 < n) (sym long) is.side.known in
      put_is g sides (slice_set rs s.var.0 s.set) (length-set rs s.var.0 s.set ∙ long) (All-tail (IsSideOf l u g) s sides each)
      (λ w none. elim (cases_eq w s.var.0) [
        | inl same ↦ subst (λ n. family l u (slice_set rs s.var.0 s.set) n ≡ g n) (sym same)
            (family_here (slice_set rs s.var.0 s.set) s.var s.set (set_same rs s.var.0 s.set within) ∙ is.values)
        | inr other ↦ family_other rs s.var s.set w other ∙ rest w (All-cons (λ (x : Side). x.var.0 ≢ w) s sides (λ e. other (sym e)) none)
      ])
