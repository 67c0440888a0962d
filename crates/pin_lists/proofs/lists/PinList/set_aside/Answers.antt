use Rattle.std.proofs.Common.{◌≡◌, ◌-◌, [], ◌∷◌, ◌++◌, List, sym, ap, ◌∙◌, subst, arith}
use Rattle.std.specs.Prelude.{slice_index_or, slice_set}
use Rattle.diagram_arena.specs.declared.nodes.Ref.{Ref}
use Rattle.diagram_arena.specs.declared.nodes.Ref.TheVariants.{Zero}
use Rattle.pin_lists.specs.Units.{Moves}
use Rattle.pin_lists.proofs.Counting.{put_aside, last_is, last_set, same_exchange}
use Rattle.pin_lists.proofs.lists.PinList.set_aside.Goals as goal

pub invariant_of-aside : goal.invariant_of-aside
invariant_of-aside c =
    c.swap_items-2.ensures.other Zero
    ∙ same_exchange c.self.inside.pins.items c.self.inside.refs.items c.aside.inside.pins.items c.aside.inside.refs.items c.args.at (c.len-last.result - 1) c.self.invariant c.aside.invariant
    ∙ sym (c.swap_items.ensures.other Zero)

pub returns-clause-listed : goal.returns-clause-listed
returns-clause-listed c =
    c.swap_items.ensures.one Zero
    ∙ ap (slice_set c.self.inside.refs.items c.args.at) (last_is c.args.aside.now c.aside.inside.refs.items c.args.r Zero c.len-last.result (c.aside.view_is ∙ c.in_ok-hold.ensures.listed) (omega (arith, c.len-last.ensures, c.aside.inside.refs.ok.0)))
    ∙ ap (λ (rs : List Ref). slice_set rs c.args.at c.args.r) c.self.view_is

pub returns-clause-put_aside : goal.returns-clause-put_aside
returns-clause-put_aside c =
    c.swap_items.ensures.other Zero
    ∙ last_set c.args.aside.now c.aside.inside.refs.items c.args.r (slice_index_or c.self.inside.refs.items c.args.at Zero) c.len-last.result (c.aside.view_is ∙ c.in_ok-hold.ensures.listed) (omega (arith, c.len-last.ensures, c.aside.inside.refs.ok.0))
    ∙ ap (λ (rs : List Ref). c.args.aside.now ++ slice_index_or rs c.args.at Zero ∷ []) c.self.view_is

pub returns-clause-moved : goal.returns-clause-moved
returns-clause-moved c =
    subst (λ (rs : List Ref). Moves c.args.ops.now c.hold.new.ops (c.args.self.now ++ c.args.aside.now) (rs ++ c.swap_items.new.ys.items)) (sym (returns-clause-listed c))
    (subst (λ (rs : List Ref). Moves c.args.ops.now c.hold.new.ops (c.args.self.now ++ c.args.aside.now) (slice_set c.args.self.now c.args.at c.args.r ++ rs)) (sym (returns-clause-put_aside c))
    (put_aside c.args.ops.now c.hold.new.ops c.args.self.now c.args.aside.now c.args.at c.args.r c.requires.at c.in_ok-hold.ensures.gained))
