use Rattle.std.proofs.Common.{◌≡◌, ◌<◌, List, length, Some, sym, subst}
use Rattle.std.specs.Prelude.{slice_get}
use Rattle.diagram_arena.specs.declared.nodes.Ref.{Ref}
use Rattle.node_reclaim.specs.Holders.{AreHeld}
use Rattle.pin_lists.proofs.Counting.{spent_is_held, replaced}
use Rattle.pin_lists.proofs.lists.PinList.replace.Goals as goal

pub unpin-requires : goal.unpin-requires
unpin-requires c =
    spent_is_held c.args.ops.now c.pin.new.self c.self.inside.refs.items c.args.at c.exchange-before.result c.args.r
    (subst (λ (rs : List Ref). c.args.at < length rs) (sym c.self.view_is) c.requires.at)
    (subst (λ (rs : List Ref). slice_get rs c.args.at ≡ Some c.exchange-before.result) c.self.invariant c.exchange-before.ensures.before)
    (subst (AreHeld c.args.ops.now) (sym c.self.view_is) c.requires.held) c.in_ok-pin.ensures.pinned

pub returns-clause-moved : goal.returns-clause-moved
returns-clause-moved c = rw (← c.self.view_is) (
    replaced c.args.ops.now c.pin.new.self c.unpin.new.self c.self.inside.refs.items c.args.at c.exchange-before.result c.args.r
    (subst (λ (rs : List Ref). c.args.at < length rs) (sym c.self.view_is) c.requires.at)
    (subst (λ (rs : List Ref). slice_get rs c.args.at ≡ Some c.exchange-before.result) c.self.invariant c.exchange-before.ensures.before)
    c.in_ok-pin.ensures.pinned c.unpin.ensures)
