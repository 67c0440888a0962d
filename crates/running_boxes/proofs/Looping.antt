-- A loop over the sides: one side more is resolved.
use Rattle.std.proofs.Common.{◌≡◌, ℕ, ◌+◌, ◌<◌, ◌==◌, Bool, cond, List, [], ◌∷◌, ◌++◌, length, map, drop, get_or, sym, ap, ◌∙◌, subst, Contains, append_assoc}
use Rattle.std.specs.List.{All}
use Rattle.std.proofs.lemmas.List.{drop_more, map-append}
use Rattle.std.proofs.lemmas.List.Elements.{All-append, All-cons, All-nil, All-contains, Contains-get_or}
use Rattle.set_meaning.specs.declared.kinds.Value.{Value}
use Rattle.set_meaning.specs.declared.problems.VarId.{VarId}
use Rattle.bit_layout.specs.Order.{LayoutState}
use Rattle.diagram_arena.specs.declared.nodes.Ref.{Ref}
use Rattle.diagram_arena.specs.Table.{Table}
use Rattle.diagram_arena.specs.Arena.{Grows}
use Rattle.node_reclaim.specs.Growth.{NewAre}
use Rattle.diagram_ops.proofs.Steps.{news_then}
use Rattle.search_rules.specs.Box.{resolvent}
use Rattle.exact_steps.specs.Domains.{values_in, family}
use Rattle.value_sets.specs.Sets.{both, either}
use Rattle.box_clauses.specs.declared.sides.Side.{Side}
use Rattle.box_clauses.specs.Boxes.{IsSide}
use Rattle.running_boxes.specs.Running.{AreRunning}
use Rattle.running_boxes.specs.Nodes.{IsPartOfValues}
use Rattle.running_boxes.specs.Work.{var_of, IsSideOf, resolved_values, IsResolvedSide, IsOfResolved}
use Rattle.running_boxes.specs.Laws.{LowerLaws}
use Rattle.running_boxes.proofs.Moving.{sides_of_grow, running_family_grows}
use Rattle.running_boxes.proofs.Resolvents.{side_resolved}
use Rattle.running_boxes.proofs.Made.{new_also}

module _ (laws : LowerLaws) (l : LayoutState) (t now next : Table) (running : List Ref) (v : VarId) (sides : List Side) (are : AreRunning l t running) (each_is : All (IsSide l t) sides) (first : Grows t now) (second : Grows now next)
    (i : ℕ) (within : i < length sides) (s : Side) (at : get_or sides i s ≡ s) where
  listed : Contains sides s
  listed = subst (Contains sides) at (Contains-get_or sides i s within)

  -- the same, told from the first table
  values_told : resolved_values l now running v s ≡ resolved_values l t running v s
  values_told =
      ap (λ (f : ℕ → Value → Bool). cond (s.var.0 == v.0) (either (f s.var.0) (values_in l now s.var s.set)) (both (f s.var.0) (values_in l now s.var s.set))) (running_family_grows laws l t now running first are)
      ∙ ap (λ (g : Value → Bool). cond (s.var.0 == v.0) (either (family l t running s.var.0) g) (both (family l t running s.var.0) g)) (laws.grown l t now s.var s.set first (All-contains (IsSide l t) sides s each_is listed).set).1

  told : (r : Side) → IsResolvedSide l now next running v s r → IsResolvedSide l t next running v s r
  told r is = record { same = is.same; side = is.side; values = is.values ∙ values_told }

  pub next_each : (resolved : List Side) (r : Side) → IsResolvedSide l now next running v s r
      → ((b : ℕ → Value → Bool) → All (IsSideOf l t b) sides → All (IsSideOf l now (resolvent (family l t running) b v.0)) resolved)
      → (b : ℕ → Value → Bool) → All (IsSideOf l t b) sides → All (IsSideOf l next (resolvent (family l t running) b v.0)) (resolved ++ r ∷ [])
  next_each resolved r is before b all =
      let P : Side → Type 0 = IsSideOf l next (resolvent (family l t running) b v.0) in
      All-append P resolved (r ∷ []) (sides_of_grow laws l now next (resolvent (family l t running) b v.0) resolved second (before b all))
      (All-cons P r [] (side_resolved l t next running v b s r (All-contains (IsSideOf l t b) sides s all listed) (told r is)) (All-nil P))

  pub next_variables : (resolved : List Side) (r : Side) → r.var ≡ s.var → map var_of resolved ++ map var_of (drop i sides) ≡ map var_of sides → map var_of (resolved ++ r ∷ []) ++ map var_of (drop (i + 1) sides) ≡ map var_of sides
  next_variables resolved r same before =
      ap (λ vs. vs ++ map var_of (drop (i + 1) sides)) (map-append var_of resolved (r ∷ [])) ∙ append_assoc (map var_of resolved) (r.var ∷ []) (map var_of (drop (i + 1) sides))
      ∙ ap (λ u. map var_of resolved ++ u ∷ map var_of (drop (i + 1) sides)) (same ∙ sym (ap var_of at))
      ∙ sym (ap (λ rest. map var_of resolved ++ map var_of rest) (drop_more sides i s within)) ∙ before

  pub next_made : NewAre t now (IsOfResolved l t running v sides) → NewAre now next (IsPartOfValues l s.var (resolved_values l now running v s)) → NewAre t next (IsOfResolved l t running v sides)
  next_made before more = news_then t now next (IsOfResolved l t running v sides) second before
      (new_also now next (IsPartOfValues l s.var (resolved_values l now running v s)) (IsOfResolved l t running v sides)
      (λ W is. record { side = s; listed = listed; part = subst (λ (f : Value → Bool). IsPartOfValues l s.var f W) values_told is }) more)
