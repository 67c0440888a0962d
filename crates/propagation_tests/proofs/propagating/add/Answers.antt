use Rattle.std.proofs.Common.{List, ◌∙◌, subst}
use Rattle.node_reclaim.specs.Holders.{Gains}
use Rattle.box_clauses.specs.declared.sides.Side.{Side}
use Rattle.box_clauses.specs.Sides.{sets_of}
use Rattle.propagation_tests.proofs.Filling.{filled_more}
use Rattle.propagation_tests.proofs.propagating.add.Goals as goal

pub returns-clause-filled : goal.returns-clause-filled
returns-clause-filled c =
    filled_more c.value_sets_stay.ensures.grown c.compiled_stays.ensures.grown c.args.p.now c.args.layout.now c.args.ops.now c.sides_of.new.ops c.new.new.ops c.add.new.ops c.args.compiled.now c.args.store.now c.add.new.self
    c.in_ok-sides.sides.items c.in_ok-held.held c.requires.filled c.in_ok-sides.ensures.stays c.in_ok-sides.ensures.sides (c.in_ok-held.ensures.sides ∙ c.as_slice.ensures.value) c.new.ensures.only
    (subst (λ (sides : List Side). Gains c.sides_of.new.ops c.new.new.ops (sets_of sides)) c.as_slice.ensures.value c.in_ok-held.ensures.gained)
    c.in_ok-add.ensures.pinned c.in_ok-add.ensures.stored
