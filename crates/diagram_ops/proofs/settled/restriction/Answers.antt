use Rattle.std.proofs.Common.{sym, subst}
use Rattle.diagram_arena.specs.Arena.{table, triple_of}
use Rattle.diagram_ops.specs.declared.question.Question.TheVariants.{Restrict}
use Rattle.diagram_ops.specs.Steps.{IsAnswer}
use Rattle.diagram_ops.proofs.Short.{restricts_zero, restricts_one, restricts_below, restricts_there}
use Rattle.diagram_ops.proofs.settled.restriction.Goals as goal

pub returns-in-Zero-clause-found : goal.returns-in-Zero-clause-found
returns-in-Zero-clause-found c = restricts_zero _ c.args.f c.args.bit c.args.value c.in-Zero.is

pub returns-in-One-clause-found : goal.returns-in-One-clause-found
returns-in-One-clause-found c = restricts_one _ c.args.f c.args.bit c.args.value c.in-One.is

pub returns-then-node-bit-clause-found : goal.returns-then-node-bit-clause-found
returns-then-node-bit-clause-found c =
    restricts_below _ c.node-node.ensures.reduced c.args.f c.in-Node.id (triple_of c.node-node.result.now) c.args.bit c.args.value c.in-Node.is c.node-node.ensures.stands.at c.if-node-bit.true

pub returns-then-node-bit-2-clause-found : goal.returns-then-node-bit-2-clause-found
returns-then-node-bit-2-clause-found c =
    subst (IsAnswer (table c.args.arena.now) (Restrict c.args.f c.args.bit c.args.value)) (sym c.child.ensures)
    (restricts_there _ c.node-node.ensures.reduced c.args.f c.in-Node.id (triple_of c.node-node.result.now) c.args.bit c.args.value c.in-Node.is c.node-node.ensures.stands.at c.if-node-bit-2.true)
