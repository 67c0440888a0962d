-- What a store pins once a box was added, or was not.
use Rattle.std.proofs.Common.{◌≡◌, ℕ, ◌+◌, Bool, List, [], ◌∷◌, ◌++◌, append-nil, Result, Ok, Err, ap, ◌∙◌, subst, sym, arith}
use Rattle.std.specs.Prelude.{OnOk, OnErr}
use Rattle.std.specs.declared.alloc.AllocError.{AllocError}
use Rattle.std.specs.List.{flat_map}
use Rattle.std.proofs.lemmas.List.Concat.{flat_map-append}
use Rattle.set_meaning.specs.declared.problems.BoxId.{BoxId}
use Rattle.diagram_arena.specs.declared.nodes.NodeId.{NodeId}
use Rattle.node_reclaim.specs.Pool.{PoolState, pins_of, times, Unpins}
use Rattle.node_reclaim.specs.Holders.{Gains, AreHeld}
use Rattle.pin_lists.proofs.Counting.{times-append}
use Rattle.box_clauses.specs.declared.sides.Side.{Side}
use Rattle.box_clauses.specs.declared.store.StoredBox.{StoredBox}
use Rattle.box_clauses.specs.Sides.{sets_of}
use Rattle.box_clauses.specs.Stored.{stored, stored_sets}

module _ (a m b : PoolState) (old new : List StoredBox) (sides : List Side) (line : ℕ) (learned : Bool) (held : AreHeld a (stored_sets old)) (gained : Gains a m (sets_of sides)) where
  pub added_held : (r : Result BoxId AllocError) → OnOk r (new ≡ old ++ stored sides line learned ∷ []) → OnOk r (b ≡ m) → OnErr r (new ≡ old) → OnErr r (Unpins m b (sets_of sides)) → AreHeld b (stored_sets new)
  added_held (Ok id) more same stays spent = subst (λ s. AreHeld s (stored_sets new)) (sym same) (λ i.
      let all : times i (stored_sets new) ≡ times i (stored_sets old) + times i (sets_of sides) =
      ap (times i) (ap stored_sets more ∙ flat_map-append (λ (x : StoredBox). sets_of x.sides) old (stored sides line learned ∷ []) ∙ ap (λ rs. stored_sets old ++ rs) (append-nil (sets_of sides)))
      ∙ times-append i (stored_sets old) (sets_of sides) in
      let h = held i in
      let g = gained i in
      omega (arith, all, h, g))
  added_held (Err e) more same stays spent = subst (λ boxes. AreHeld b (stored_sets boxes)) (sym stays) (λ i.
      let h = held i in
      let g = gained i in
      let l = spent.lost i in
      omega (arith, h, g, l))
