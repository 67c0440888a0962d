use Rattle.std.proofs.Common.{sym, subst, ap, arith, true, false}
use Rattle.diagram_arena.specs.Arena.{table}
use Rattle.diagram_ops.specs.declared.product.Product.{Product}
use Rattle.diagram_ops.specs.declared.product.Product.TheVariants.{Single}
use Rattle.diagram_ops.specs.Meanings.{rank, first_of, AreSidesOf}
use Rattle.diagram_ops.proofs.Meant.{first_more, there_more, extends_then}
use Rattle.diagram_ops.proofs.Moves.{descends, side_there, pair_sides, own_sides, single_sides}
use Rattle.diagram_ops.proofs.pairs.Pairs.+split.Goals as goal

pub returns-in-Single-clause-sides : goal.returns-in-Single-clause-sides
returns-in-Single-clause-sides t c =
    subst (λ (x : Product). AreSidesOf (table c.args.arena.now) c.args.self.now.pairs.items c.args.self.now.pairs.items x c.args.bit (Single c.split-lo.result.0) (Single c.split-lo.result.1)) (sym c.in-Single.is)
    (single_sides (table c.args.arena.now) c.args.self.now.pairs.items c.in-Single.r c.args.bit c.split-lo.result.0 c.split-lo.result.1 c.split-lo.ensures)

pub returns-then-pair-bit-clause-sides : goal.returns-then-pair-bit-clause-sides
returns-then-pair-bit-clause-sides t c =
    let d = (descends (table c.args.arena.now) c.args.self.now.pairs.items c.args.p c.args.bit c.in-Both.id c.pair-pair.result c.in-Both.is c.requires.there c.requires.above c.pair-pair.ensures) in
    let same = ap (first_of (table c.args.arena.now) c.args.self.now.pairs.items) c.in-Both.is in
    let first = d.parts.first in
    let far = c.if-pair-bit.true in
    subst (λ (x : Product). AreSidesOf (table c.args.arena.now) c.args.self.now.pairs.items c.args.self.now.pairs.items c.args.p c.args.bit x x) c.in-Both.is
    (own_sides (table c.args.arena.now) c.len.ensures.reduced c.args.self.now.pairs.items c.args.p c.args.bit (omega (arith, same, first, far)))

pub split-requires-in-Both : goal.split-requires-in-Both
split-requires-in-Both t c =
    let d = (descends (table c.args.arena.now) c.args.self.now.pairs.items c.args.p c.args.bit c.in-Both.id c.pair-pair.result c.in-Both.is c.requires.there c.requires.above c.pair-pair.ensures) in
    let right = d.parts.right in
    let same = ap rank c.in-Both.is in
    let early = d.parts.right_earlier in
    let first = first_more (table c.args.arena.now) c.args.self.now.pairs.items c.split.new.self.pairs.items c.in_ok-left_lo-in-Both.ensures.extends c.pair-pair.result.right right.0 right.1 in
    let deep = d.parts.right_deep in
    let above = d.above in
    (omega (arith, same, early, c.decreases), (there_more (table c.args.arena.now) c.args.self.now.pairs.items c.split.new.self.pairs.items c.in_ok-left_lo-in-Both.ensures.extends c.pair-pair.result.right right, omega (arith, first, deep, above)))

pub join-requires-clause-left_there : goal.join-requires-clause-left_there
join-requires-clause-left_there t c =
    let d = (descends (table c.args.arena.now) c.args.self.now.pairs.items c.args.p c.args.bit c.in-Both.id c.pair-pair.result c.in-Both.is c.requires.there c.requires.above c.pair-pair.ensures) in
    there_more (table c.args.arena.now) c.split.new.self.pairs.items c.split-in-Both.new.self.pairs.items c.in_ok-right_lo-in-Both.ensures.extends c.in_ok-left_lo-in-Both.left_lo
    (side_there (table c.args.arena.now) c.args.self.now.pairs.items c.split.new.self.pairs.items c.pair-pair.result.left c.args.bit c.in_ok-left_lo-in-Both.left_lo c.in_ok-left_lo-in-Both.left_hi c.in_ok-left_lo-in-Both.ensures.sides d.parts.left false)

pub join-requires-clause-right_there : goal.join-requires-clause-right_there
join-requires-clause-right_there t c =
    let d = (descends (table c.args.arena.now) c.args.self.now.pairs.items c.args.p c.args.bit c.in-Both.id c.pair-pair.result c.in-Both.is c.requires.there c.requires.above c.pair-pair.ensures) in
    side_there (table c.args.arena.now) c.split.new.self.pairs.items c.split-in-Both.new.self.pairs.items c.pair-pair.result.right c.args.bit c.in_ok-right_lo-in-Both.right_lo c.in_ok-right_lo-in-Both.right_hi c.in_ok-right_lo-in-Both.ensures.sides
    (there_more (table c.args.arena.now) c.args.self.now.pairs.items c.split.new.self.pairs.items c.in_ok-left_lo-in-Both.ensures.extends c.pair-pair.result.right d.parts.right) false

pub join-requires-in-Both-clause-left_there : goal.join-requires-in-Both-clause-left_there
join-requires-in-Both-clause-left_there t c =
    let d = (descends (table c.args.arena.now) c.args.self.now.pairs.items c.args.p c.args.bit c.in-Both.id c.pair-pair.result c.in-Both.is c.requires.there c.requires.above c.pair-pair.ensures) in
    there_more (table c.args.arena.now) c.split.new.self.pairs.items c.join.new.self.pairs.items (extends_then c.split.new.self.pairs.items c.split-in-Both.new.self.pairs.items c.join.new.self.pairs.items c.in_ok-right_lo-in-Both.ensures.extends c.in_ok-lo-in-Both.ensures.extends) c.in_ok-left_lo-in-Both.left_hi
    (side_there (table c.args.arena.now) c.args.self.now.pairs.items c.split.new.self.pairs.items c.pair-pair.result.left c.args.bit c.in_ok-left_lo-in-Both.left_lo c.in_ok-left_lo-in-Both.left_hi c.in_ok-left_lo-in-Both.ensures.sides d.parts.left true)

pub join-requires-in-Both-clause-right_there : goal.join-requires-in-Both-clause-right_there
join-requires-in-Both-clause-right_there t c =
    let d = (descends (table c.args.arena.now) c.args.self.now.pairs.items c.args.p c.args.bit c.in-Both.id c.pair-pair.result c.in-Both.is c.requires.there c.requires.above c.pair-pair.ensures) in
    there_more (table c.args.arena.now) c.split-in-Both.new.self.pairs.items c.join.new.self.pairs.items c.in_ok-lo-in-Both.ensures.extends c.in_ok-right_lo-in-Both.right_hi
    (side_there (table c.args.arena.now) c.split.new.self.pairs.items c.split-in-Both.new.self.pairs.items c.pair-pair.result.right c.args.bit c.in_ok-right_lo-in-Both.right_lo c.in_ok-right_lo-in-Both.right_hi c.in_ok-right_lo-in-Both.ensures.sides
    (there_more (table c.args.arena.now) c.args.self.now.pairs.items c.split.new.self.pairs.items c.in_ok-left_lo-in-Both.ensures.extends c.pair-pair.result.right d.parts.right) true)

pub returns-in_ok-hi-in-Both-clause-sides : goal.returns-in_ok-hi-in-Both-clause-sides
returns-in_ok-hi-in-Both-clause-sides t c =
    let d = (descends (table c.args.arena.now) c.args.self.now.pairs.items c.args.p c.args.bit c.in-Both.id c.pair-pair.result c.in-Both.is c.requires.there c.requires.above c.pair-pair.ensures) in
    subst (λ (x : Product). AreSidesOf (table c.args.arena.now) c.args.self.now.pairs.items c.join-in-Both.new.self.pairs.items x c.args.bit c.in_ok-lo-in-Both.lo c.in_ok-hi-in-Both.hi) (sym c.in-Both.is)
    (pair_sides (table c.args.arena.now) c.args.self.now.pairs.items c.split.new.self.pairs.items c.split-in-Both.new.self.pairs.items c.join.new.self.pairs.items c.join-in-Both.new.self.pairs.items c.in-Both.id c.pair-pair.result c.args.bit c.in_ok-left_lo-in-Both.left_lo c.in_ok-left_lo-in-Both.left_hi c.in_ok-right_lo-in-Both.right_lo c.in_ok-right_lo-in-Both.right_hi c.in_ok-lo-in-Both.lo c.in_ok-hi-in-Both.hi
    d.there c.pair-pair.ensures (record {
      left = c.in_ok-left_lo-in-Both.ensures.sides;
      then_left = c.in_ok-left_lo-in-Both.ensures.extends;
      right = c.in_ok-right_lo-in-Both.ensures.sides;
      then_right = c.in_ok-right_lo-in-Both.ensures.extends;
      on_lo = c.in_ok-lo-in-Both.ensures.joined;
      then_lo = c.in_ok-lo-in-Both.ensures.extends;
      on_hi = c.in_ok-hi-in-Both.ensures.joined;
      then_hi = c.in_ok-hi-in-Both.ensures.extends;
    }))
