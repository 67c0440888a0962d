use Rattle.std.proofs.Common.{◌≡◌, ◌<◌, length, arith}
use Rattle.diagram_arena.specs.Arena.{table}
use Rattle.branching.proofs.Taking.{one_value_each}
use Rattle.branching.proofs.Reciting.{values_assigned, values_single}
use Rattle.branching.proofs.reading.single_values.Goals as goal

pub value_at-requires-clause-domain : goal.value_at-requires-clause-domain
value_at-requires-clause-domain c = c.requires.domains.each c.variable-v.result c.domain_of.result c.domain_of.ensures

pub value_at-requires-clause-one : goal.value_at-requires-clause-one
value_at-requires-clause-one c =
    let l = c.args.layout.now in
    let test = c.loop-i-test.true in
    let long = c.requires.domains.long in
    let is = c.variable-v.ensures in
    let within : c.variable-v.result.0 < length l.kinds = omega (arith, test, long, is) in
    one_value_each l (table c.args.ops.now.arena) c.args.domains.now c.variable-v.result c.domain_of.result (length l.kinds) within c.domain_of.ensures c.requires.one

pub returns-clause-assignment : goal.returns-clause-assignment
returns-clause-assignment c =
    let l = c.args.layout.now in
    let past = c.loop-i-test.false in
    let upto = c.loop-i.auto.i-end in
    let long = c.requires.domains.long in
    let all : c.loop-i.i ≡ length l.kinds = omega (arith, past, upto, long) in
    values_assigned l (table c.args.ops.now.arena) c.args.domains.now c.loop-i.values.items c.loop-i.i c.obeys_order.ensures c.requires.domains c.loop-i.invariant all

pub returns-clause-single : goal.returns-clause-single
returns-clause-single c p kinds =
    let l = c.args.layout.now in
    let past = c.loop-i-test.false in
    let upto = c.loop-i.auto.i-end in
    let long = c.requires.domains.long in
    let all : c.loop-i.i ≡ length l.kinds = omega (arith, past, upto, long) in
    values_single l (table c.args.ops.now.arena) c.args.domains.now c.loop-i.values.items c.loop-i.i c.obeys_order.ensures c.requires.domains c.loop-i.invariant all p c.requires.one kinds
