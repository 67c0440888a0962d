use Rattle.std.proofs.Common.{List, sym, subst}
use Rattle.node_reclaim.specs.Holders.{Gains}
use Rattle.box_clauses.specs.declared.sides.Side.{Side}
use Rattle.box_clauses.specs.Sides.{sets_of}
use Rattle.box_tests.proofs.Lives.{added_held}
use Rattle.box_tests.proofs.storing.add.Goals as goal

pub returns-clause-held : goal.returns-clause-held
returns-clause-held c =
    added_held c.args.ops.now c.new.new.ops c.add.new.ops c.args.store.now c.add.new.self c.in_ok-held.held c.args.line c.args.learned c.requires.held
    (subst (λ (sides : List Side). Gains c.args.ops.now c.new.new.ops (sets_of sides)) (sym c.in_ok-held.ensures.sides) c.in_ok-held.ensures.gained)
    c.add.result c.add.ensures.stored c.add.ensures.pinned c.add.ensures.same c.add.ensures.spent
