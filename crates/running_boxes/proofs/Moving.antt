-- What units begin with, in tables where what is pinned means the same.
use Rattle.std.proofs.Common.{◌≡◌, ℕ, Bool, true, List, None, Some, refl, sym, ap, ◌∙◌, subst, Contains}
use Rattle.std.specs.Prelude.{slice_get}
use Rattle.std.specs.List.{All}
use Rattle.std.specs.Option.{option_map_or}
use Rattle.std.proofs.Math.Path.{fun_ext}
use Rattle.std.proofs.lemmas.List.Elements.{Contains-get_or, All-weaker}
use Rattle.std.proofs.lemmas.Option.{slice_get_within, get_or_from_slice_get}
use Rattle.set_meaning.specs.declared.kinds.Value.{Value}
use Rattle.bit_layout.specs.Order.{LayoutState}
use Rattle.diagram_arena.specs.declared.nodes.Ref.{Ref}
use Rattle.diagram_arena.specs.Table.{Table}
use Rattle.diagram_arena.specs.Arena.{Grows}
use Rattle.node_reclaim.specs.Holders.{MeansTheSame}
use Rattle.exact_steps.specs.Domains.{variable, values_in, family}
use Rattle.box_clauses.specs.declared.sides.Side.{Side}
use Rattle.box_clauses.specs.Boxes.{IsSide}
use Rattle.running_boxes.specs.Running.{AreRunning}
use Rattle.running_boxes.specs.Work.{IsSideOf}
use Rattle.running_boxes.specs.Laws.{LowerLaws}

pub listed_at : {X : Type 0} (xs : List X) (n : ℕ) (x : X) → slice_get xs n ≡ Some x → Contains xs x
listed_at xs n x e = subst (Contains xs) (get_or_from_slice_get xs n x x e) (Contains-get_or xs n x (slice_get_within xs n x e))

module _ (laws : LowerLaws) (l : LayoutState) (t u : Table) where
  -- ---- nodes were added

  pub side_grows : (s : Side) → Grows t u → IsSide l t s → IsSide l u s
  side_grows s grows is = record { known = is.known; set = (laws.grown l t u s.var s.set grows is.set).0 }

  pub side_of_grows : (g : ℕ → Value → Bool) (s : Side) → Grows t u → IsSideOf l t g s → IsSideOf l u g s
  side_of_grows g s grows is = record { side = side_grows s grows is.side; values = (laws.grown l t u s.var s.set grows is.side.set).1 ∙ is.values }

  pub sides_of_grow : (g : ℕ → Value → Bool) (sides : List Side) → Grows t u → All (IsSideOf l t g) sides → All (IsSideOf l u g) sides
  sides_of_grow g sides grows each = All-weaker (IsSideOf l t g) (IsSideOf l u g) (λ s is. side_of_grows g s grows is) sides each

  pub running_grows : (running : List Ref) → Grows t u → AreRunning l t running → AreRunning l u running
  running_grows running grows are = record { long = are.long; each = λ v r e. (laws.grown l t u v r grows (are.each v r e)).0 }

  pub running_family_grows : (running : List Ref) → Grows t u → AreRunning l t running → family l u running ≡ family l t running
  running_family_grows running grows are = fun_ext (λ v. elim (slice_get running v) as (λ o. slice_get running v ≡ o → family l u running v ≡ family l t running v) [
    | None ↦ λ e. ap (λ o. λ x. option_map_or (λ r. values_in l u (variable v) r x) o true) e ∙ sym (ap (λ o. λ x. option_map_or (λ r. values_in l t (variable v) r x) o true) e)
    | Some r ↦ λ e. ap (λ o. λ x. option_map_or (λ r. values_in l u (variable v) r x) o true) e ∙ (laws.grown l t u (variable v) r grows (are.each (variable v) r e)).1
        ∙ sym (ap (λ o. λ x. option_map_or (λ r. values_in l t (variable v) r x) o true) e)
  ] refl)

  -- ---- refs mean the same

  pub running_same : (running : List Ref) → MeansTheSame t u running → AreRunning l t running → AreRunning l u running
  running_same running means are = record {
    long = are.long;
    each = λ v r e. let m = means r (listed_at running v.0 r e) in laws.set_of_words l t u v r m.0 m.1 (are.each v r e);
  }
