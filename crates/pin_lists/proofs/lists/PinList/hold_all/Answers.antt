use Rattle.std.proofs.Common.{◌≡◌, ℕ, ◌+◌, ◌<◌, List, [], ◌∷◌, ◌++◌, length, get_or, take, sym, ap, ◌∙◌, subst, append_assoc}
use Rattle.std.proofs.lemmas.List.{take_more}
use Rattle.diagram_arena.specs.declared.nodes.Ref.{Ref}
use Rattle.diagram_arena.specs.declared.nodes.Ref.TheVariants.{Zero}
use Rattle.pin_lists.specs.Units.{Moves}
use Rattle.pin_lists.proofs.Leaving.{moved_from, moves_then, only_then}
use Rattle.pin_lists.proofs.lists.PinList.hold_all.Goals as goal

listed_more : (start refs : List Ref) (i : ℕ) (d : Ref) (before after : List Ref) → i < length refs → before ≡ start ++ take i refs → after ≡ before ++ get_or refs i d ∷ [] → after ≡ start ++ take (i + 1) refs
listed_more start refs i d before after within is more =
    more ∙ ap (λ ds. ds ++ get_or refs i d ∷ []) is ∙ append_assoc start (take i refs) (get_or refs i d ∷ []) ∙ ap (λ ds. start ++ ds) (sym (take_more refs i d within))

pub loop-r-preserved : goal.loop-r-preserved
loop-r-preserved c = record {
  listed = listed_more c.args.self.now c.args.refs.now c.loop-r.r-index Zero c.loop-r.self c.hold.new.self c.loop-r-test.true c.loop-r.invariant.listed c.in_ok-hold.ensures.listed;
  moved = moves_then c.args.ops.now c.loop-r.ops c.hold.new.ops c.args.self.now c.loop-r.self c.hold.new.self c.loop-r.invariant.moved
      (subst (Moves c.loop-r.ops c.hold.new.ops c.loop-r.self) (sym c.in_ok-hold.ensures.listed)
      (moved_from c.loop-r.ops c.hold.new.ops c.loop-r.self (get_or c.args.refs.now c.loop-r.r-index Zero ∷ []) c.in_ok-hold.ensures.gained));
  only = only_then c.args.ops.now c.loop-r.ops c.hold.new.ops c.loop-r.invariant.only c.hold.ensures.only;
}
