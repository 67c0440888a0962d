-- The step of a box in store, told by the rules.
use Rattle.std.proofs.Common.{◌≡◌, ℕ, ◌<◌, Bool, List, [], ◌∷◌, length, Option, Some, None, sym, ◌∙◌, subst}
use Rattle.std.specs.Prelude.{IsSomeAnd, slice_get}
use Rattle.std.specs.List.{All}
use Rattle.std.specs.Option.{option_map_or}
use Rattle.std.proofs.lemmas.List.Elements.{All-contains}
use Rattle.set_meaning.specs.declared.kinds.Value.{Value}
use Rattle.set_meaning.specs.declared.problems.BoxId.{BoxId}
use Rattle.set_meaning.specs.declared.problems.Problem.{Problem}
use Rattle.bit_layout.specs.Order.{LayoutState}
use Rattle.diagram_arena.specs.declared.nodes.Ref.{Ref}
use Rattle.diagram_arena.specs.Table.{Table}
use Rattle.node_reclaim.specs.Growth.{NewAre}
use Rattle.search_rules.specs.Box.{IsBoxStep}
use Rattle.search_rules.specs.Trail as rules
use Rattle.exact_steps.specs.declared.steps.StepResult.{StepResult}
use Rattle.exact_steps.specs.Domains.{values_in, family}
use Rattle.propagators.proofs.Moving.{listed_at}
use Rattle.domain_trail.specs.declared.entries.Reason.TheVariants as why
use Rattle.box_clauses.specs.declared.sides.Side.{Side}
use Rattle.box_clauses.specs.declared.store.StoredBox.{StoredBox}
use Rattle.box_clauses.specs.declared.stepping.BoxResult.{BoxResult}
use Rattle.box_clauses.specs.declared.stepping.BoxResult.TheVariants as of_box
use Rattle.box_clauses.specs.Boxes.{box_of, AreSides, step_of, GivesDomain, NewArePartsOutside}
use Rattle.search_state.specs.Readings.{sides_at}
use Rattle.running_boxes.specs.declared.beginning.Conflict.TheVariants as conflict
use Rattle.propagation.specs.Nodes.{IsOfUnit}
use Rattle.propagation.specs.Work.{CanPut, AreNarrowings, IsListed, IsAnswerOf}
use Rattle.propagation.specs.Laws.{BoxLaws}

-- ---- the sides of a box in store

pub sides_are : (o : Option StoredBox) (xs : List Side) → IsSomeAnd o (λ (s : StoredBox). s.sides ≡ xs) → xs ≡ option_map_or (λ (s : StoredBox). s.sides) o []
sides_are None xs h = absurd h
sides_are (Some s) xs h = sym h

pub are_sides : (l : LayoutState) (t : Table) (stored : List StoredBox) (o : Option StoredBox) (b : ℕ) (xs : List Side) → slice_get stored b ≡ o → All (λ (s : StoredBox). AreSides l t s.sides) stored
    → IsSomeAnd o (λ (s : StoredBox). s.sides ≡ xs) → AreSides l t xs
are_sides l t stored None b xs at each h = absurd h
are_sides l t stored (Some s) b xs at each h = subst (AreSides l t) h (All-contains (λ (s : StoredBox). AreSides l t s.sides) stored s each (listed_at stored b s at))

-- ---- its step

module _ (p : Problem) (l : LayoutState) (t u : Table) (stored : List StoredBox) (b : BoxId) (domains : List Ref) (known : b.0 < length stored) (laws : BoxLaws)
    (same_box : box_of l u (sides_at stored b.0) ≡ box_of l t (sides_at stored b.0)) (same : family l u domains ≡ family l t domains) where
  -- told with sets of the table u
  told : (o : BoxResult) → IsBoxStep (box_of l t (sides_at stored b.0)) (family l t domains) (step_of l u o) → IsBoxStep (box_of l u (sides_at stored b.0)) (family l u domains) (step_of l u o)
  told o h = subst (λ g. IsBoxStep g (family l u domains) (step_of l u o)) (sym same_box) (subst (λ g. IsBoxStep (box_of l t (sides_at stored b.0)) g (step_of l u o)) (sym same) h)

  answered : (o : BoxResult) (s : StepResult) → IsListed o s → GivesDomain l u (family l t domains) o → IsBoxStep (box_of l u (sides_at stored b.0)) (family l u domains) (step_of l u o)
      → IsAnswerOf p l u stored (family l u domains) (conflict.Box b) s
  answered of_box.Same s listed gives h = subst (IsAnswerOf p l u stored (family l u domains) (conflict.Box b)) (sym listed) h
  answered (of_box.Narrowed v r) s listed gives h =
      let g : ℕ → Value → Bool = family l u domains in
      let can : CanPut p l u stored (why.Box b) g v r = record {
        known = gives.0;
        domain = gives.1;
        part = subst (λ (f : ℕ → Value → Bool). rules.IsPart (values_in l u v r) (f v.0)) (sym same) gives.2;
        made = (laws.stored l u stored b.0 known, h);
      } in
      subst (IsAnswerOf p l u stored g (conflict.Box b)) (sym listed.1) (
        (λ empty. let both : (v, r) ∷ [] ≡ [] = sym listed.2 ∙ empty in cc),
        subst (AreNarrowings p l u stored (why.Box b) g) (sym listed.2) (can, tt),
        tt,
      )
  answered of_box.Empty s listed gives h = subst (IsAnswerOf p l u stored (family l u domains) (conflict.Box b)) (sym listed) (laws.of_box p l u stored b (family l u domains) known h)

  module _ (lent : List Ref) (is_lent : lent ≡ domains) (xs : List Side) (is_at : xs ≡ sides_at stored b.0) where
    pub box_answer : (o : BoxResult) (s : StepResult) → IsListed o s → GivesDomain l u (family l t lent) o → IsBoxStep (box_of l t xs) (family l t lent) (step_of l u o)
        → IsAnswerOf p l u stored (family l u domains) (conflict.Box b) s
    box_answer o s listed gives h =
        answered o s listed (subst (λ ds. GivesDomain l u (family l t ds) o) is_lent gives)
        (told o (subst (λ ss. IsBoxStep (box_of l t ss) (family l t domains) (step_of l u o)) is_at (subst (λ ds. IsBoxStep (box_of l t xs) (family l t ds) (step_of l u o)) is_lent h)))

    pub box_news : NewArePartsOutside l (box_of l t xs) (family l t lent) t u → NewAre t u (IsOfUnit p l t stored (family l t domains) (conflict.Box b))
    box_news parts i none live =
        let part = subst (λ ss. NewArePartsOutside l (box_of l t ss) (family l t domains) t u) is_at (subst (λ ds. NewArePartsOutside l (box_of l t xs) (family l t ds) t u) is_lent parts) i none live in
        record { variable = part.var; part = record { set = part.set; words = part.words; part = part.part } }
