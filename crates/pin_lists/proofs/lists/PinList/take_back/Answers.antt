use Rattle.std.proofs.Common.{◌≡◌, ◌<◌, [], ◌∷◌, ◌++◌, List, length, Some, sym, subst}
use Rattle.std.specs.Prelude.{slice_get}
use Rattle.diagram_arena.specs.declared.nodes.Ref.{Ref}
use Rattle.node_reclaim.specs.Holders.{AreHeld}
use Rattle.pin_lists.proofs.Counting.{taken_pinned, taken_back}
use Rattle.pin_lists.proofs.lists.PinList.take_back.Goals as goal

pub unpin-requires : goal.unpin-requires
unpin-requires c =
    taken_pinned c.args.ops.now c.self.inside.refs.items c.args.at c.exchange-spent.result
    (subst (λ (rs : List Ref). c.args.at < length rs) (sym c.self.view_is) c.requires.at)
    (subst (λ (rs : List Ref). slice_get rs c.args.at ≡ Some c.exchange-spent.result) c.self.invariant c.exchange-spent.ensures.before)
    (subst (AreHeld c.args.ops.now) (sym c.self.view_is) c.requires.held)

pub returns-clause-moved : goal.returns-clause-moved
returns-clause-moved c = rw (← c.self.view_is) (
    taken_back c.args.ops.now c.unpin.new.self c.self.inside.refs.items c.args.aside.now c.take_last-pin.new.self c.args.at c.exchange-spent.result c.at.result
    (subst (λ (rs : List Ref). c.args.at < length rs) (sym c.self.view_is) c.requires.at)
    (subst (λ (rs : List Ref). slice_get rs c.args.at ≡ Some c.exchange-spent.result) c.self.invariant c.exchange-spent.ensures.before)
    (subst (λ (r : Ref). c.args.aside.now ≡ c.take_last-pin.new.self ++ r ∷ []) (sym c.at.ensures) c.take_last-pin.ensures)
    c.unpin.ensures)
