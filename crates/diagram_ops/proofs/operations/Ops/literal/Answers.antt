use Rattle.std.proofs.Common.{sym, subst, Bool}
use Rattle.std.specs.Prelude.{IfOk}
use Rattle.diagram_arena.specs.Arena.{table}
use Rattle.diagram_ops.specs.Words.{words_with, Denotes}
use Rattle.diagram_ops.proofs.Results.{can_literal_true, can_literal_false, literal_true, literal_false, result_part, literal_asks, literal_reach}
use Rattle.diagram_ops.proofs.operations.Ops.literal.Goals as goal

pub node-requires : goal.node-requires
node-requires c = can_literal_true _ c.args.bit c.ranges.bit.fits

pub node-requires-else-value : goal.node-requires-else-value
node-requires-else-value c = can_literal_false _ c.args.bit c.ranges.bit.fits

pub returns-then-value-clause-words : goal.returns-then-value-clause-words
returns-then-value-clause-words c =
    subst (λ (v : Bool). IfOk c.node.result (Denotes (table c.node.new.self.arena) (words_with c.args.bit v))) (sym c.if-value.true)
    (literal_true _ _ c.args.bit c.node.result c.node.ensures.joins)

pub returns-then-value-clause-parts : goal.returns-then-value-clause-parts
returns-then-value-clause-parts c =
    result_part _ _ (words_with c.args.bit c.args.value) c.node.result c.node.ensures.only_new (returns-then-value-clause-words c)

pub returns-then-value-clause-reach : goal.returns-then-value-clause-reach
returns-then-value-clause-reach c bits on =
    literal_reach _ _ c.node.ensures.stays.reduced c.args.bit c.args.value (returns-then-value-clause-parts c) bits on

pub returns-else-value-clause-words : goal.returns-else-value-clause-words
returns-else-value-clause-words c =
    subst (λ (v : Bool). IfOk c.node-else-value.result (Denotes (table c.node-else-value.new.self.arena) (words_with c.args.bit v))) (sym c.if-value.false)
    (literal_false _ _ c.args.bit c.node-else-value.result c.node-else-value.ensures.joins)

pub returns-else-value-clause-parts : goal.returns-else-value-clause-parts
returns-else-value-clause-parts c =
    result_part _ _ (words_with c.args.bit c.args.value) c.node-else-value.result c.node-else-value.ensures.only_new (returns-else-value-clause-words c)

pub returns-else-value-clause-reach : goal.returns-else-value-clause-reach
returns-else-value-clause-reach c bits on =
    literal_reach _ _ c.node-else-value.ensures.stays.reduced c.args.bit c.args.value (returns-else-value-clause-parts c) bits on

pub returns-then-value-clause-asks : goal.returns-then-value-clause-asks
returns-then-value-clause-asks c bits on =
    literal_asks _ c.node.ensures.stays.reduced c.args.bit c.args.value c.node.result (returns-then-value-clause-words c) bits on

pub returns-else-value-clause-asks : goal.returns-else-value-clause-asks
returns-else-value-clause-asks c bits on =
    literal_asks _ c.node-else-value.ensures.stays.reduced c.args.bit c.args.value c.node-else-value.result (returns-else-value-clause-words c) bits on
