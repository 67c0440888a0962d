use Rattle.std.proofs.Common.{sym, ◌∙◌, arith, true, false}
use Rattle.diagram_arena.specs.Arena.{table}
use Rattle.diagram_ops.specs.Meanings.{front_of}
use Rattle.diagram_ops.proofs.Insides.{at_true, at_false}
use Rattle.diagram_ops.proofs.Meant.{means_more, there_more, extends_then, extends_self}
use Rattle.diagram_ops.proofs.Moves.{side_there}
use Rattle.diagram_ops.proofs.Same.{empty_more, empty_puts, known_none}
use Rattle.diagram_ops.proofs.Emptying.{single_some, front_some, fronts_none, goes_down}
use Rattle.diagram_ops.proofs.products.+has_some.Goals as goal

pub returns-in-Single-clause-some : goal.returns-in-Single-clause-some
returns-in-Single-clause-some t c V means = single_some (table c.args.arena.now) c.len.ensures.reduced c.args.pairs.now.pairs.items c.args.p V c.in-Single.r c.is_zero.result c.in-Single.is c.is_zero.ensures means

pub returns-then-contains-clause-some : goal.returns-then-contains-clause-some
returns-then-contains-clause-some t c V means = known_none (table c.args.arena.now) c.args.pairs.now.pairs.items _ c.args.p V c.requires.known (sym c.contains.ensures ∙ c.if-contains.true) means

pub has_some-requires : goal.has_some-requires
has_some-requires t c =
    let down = goes_down (table c.args.arena.now) c.len.ensures.reduced c.args.pairs.now.pairs.items c.split.new.self.pairs.items c.split.new.self.pairs.items c.args.p c.first_bit-bit.result c.in_ok-lo-in-Both.lo c.in_ok-lo-in-Both.hi c.in_ok-lo-in-Both.ensures.sides c.requires.there c.first_bit-bit.ensures (extends_self c.split.new.self.pairs.items) false in (
      omega (arith, down, c.decreases),
      (
        side_there (table c.args.arena.now) c.args.pairs.now.pairs.items c.split.new.self.pairs.items c.args.p c.first_bit-bit.result c.in_ok-lo-in-Both.lo c.in_ok-lo-in-Both.hi c.in_ok-lo-in-Both.ensures.sides c.requires.there false,
        empty_more (table c.args.arena.now) c.args.pairs.now.pairs.items c.split.new.self.pairs.items _ c.in_ok-lo-in-Both.ensures.extends c.requires.known,
      ),
    )

pub has_some-requires-in-Both : goal.has_some-requires-in-Both
has_some-requires-in-Both t c =
    let more = c.in_ok-has_some-in-Both.ensures.extends in
    let down = goes_down (table c.args.arena.now) c.len.ensures.reduced c.args.pairs.now.pairs.items c.split.new.self.pairs.items c.has_some.new.pairs.pairs.items c.args.p c.first_bit-bit.result c.in_ok-lo-in-Both.lo c.in_ok-lo-in-Both.hi c.in_ok-lo-in-Both.ensures.sides c.requires.there c.first_bit-bit.ensures more true in (
      omega (arith, down, c.decreases),
      (
        there_more (table c.args.arena.now) c.split.new.self.pairs.items c.has_some.new.pairs.pairs.items more c.in_ok-lo-in-Both.hi (side_there (table c.args.arena.now) c.args.pairs.now.pairs.items c.split.new.self.pairs.items c.args.p c.first_bit-bit.result c.in_ok-lo-in-Both.lo c.in_ok-lo-in-Both.hi c.in_ok-lo-in-Both.ensures.sides c.requires.there true),
        c.in_ok-has_some-in-Both.ensures.known,
      ),
    )

pub returns-then-branch-clause-some : goal.returns-then-branch-clause-some
returns-then-branch-clause-some t c V means =
    front_some V c.first_bit-bit.result false (at_true c.in_ok-has_some-in-Both.field-0 _ _ c.if-branch.true
    (c.in_ok-has_some-in-Both.ensures.some (front_of V c.first_bit-bit.result false) (c.in_ok-lo-in-Both.ensures.sides.means V means false)))

pub returns-then-branch-2-clause-some : goal.returns-then-branch-2-clause-some
returns-then-branch-2-clause-some t c V means =
    front_some V c.first_bit-bit.result true (at_true c.in_ok-has_some-in-Both-2.field-0 _ _ c.if-branch-2.true
    (c.in_ok-has_some-in-Both-2.ensures.some (front_of V c.first_bit-bit.result true)
    (means_more (table c.args.arena.now) c.split.new.self.pairs.items c.has_some.new.pairs.pairs.items c.in_ok-has_some-in-Both.ensures.extends c.in_ok-lo-in-Both.hi _ (c.in_ok-lo-in-Both.ensures.sides.means V means true))))

pub returns-in_ok-add-in-Both-clause-some : goal.returns-in_ok-add-in-Both-clause-some
returns-in_ok-add-in-Both-clause-some t c V means =
    fronts_none (table c.args.arena.now) c.args.pairs.now.pairs.items c.split.new.self.pairs.items c.args.p c.first_bit-bit.result c.in_ok-lo-in-Both.lo c.in_ok-lo-in-Both.hi c.in_ok-lo-in-Both.ensures.sides V means
    (at_false c.in_ok-has_some-in-Both.field-0 _ _ c.if-branch.false
    (c.in_ok-has_some-in-Both.ensures.some (front_of V c.first_bit-bit.result false) (c.in_ok-lo-in-Both.ensures.sides.means V means false)))
    (at_false c.in_ok-has_some-in-Both-2.field-0 _ _ c.if-branch-2.false
    (c.in_ok-has_some-in-Both-2.ensures.some (front_of V c.first_bit-bit.result true)
    (means_more (table c.args.arena.now) c.split.new.self.pairs.items c.has_some.new.pairs.pairs.items c.in_ok-has_some-in-Both.ensures.extends c.in_ok-lo-in-Both.hi _ (c.in_ok-lo-in-Both.ensures.sides.means V means true))))

pub returns-in_ok-add-in-Both-clause-known : goal.returns-in_ok-add-in-Both-clause-known
returns-in_ok-add-in-Both-clause-known t c =
    let V = c.requires.there.0 in
    let means = c.requires.there.1 in
    let more = extends_then c.args.pairs.now.pairs.items c.split.new.self.pairs.items c.has_some-in-Both.new.pairs.pairs.items c.in_ok-lo-in-Both.ensures.extends (extends_then c.split.new.self.pairs.items c.has_some.new.pairs.pairs.items c.has_some-in-Both.new.pairs.pairs.items c.in_ok-has_some-in-Both.ensures.extends c.in_ok-has_some-in-Both-2.ensures.extends) in
    empty_puts (table c.args.arena.now) c.has_some-in-Both.new.pairs.pairs.items _ _ c.args.p V c.in_ok-has_some-in-Both-2.ensures.known (means_more (table c.args.arena.now) c.args.pairs.now.pairs.items c.has_some-in-Both.new.pairs.pairs.items more c.args.p V means)
    (fronts_none (table c.args.arena.now) c.args.pairs.now.pairs.items c.split.new.self.pairs.items c.args.p c.first_bit-bit.result c.in_ok-lo-in-Both.lo c.in_ok-lo-in-Both.hi c.in_ok-lo-in-Both.ensures.sides V means
    (at_false c.in_ok-has_some-in-Both.field-0 _ _ c.if-branch.false
    (c.in_ok-has_some-in-Both.ensures.some (front_of V c.first_bit-bit.result false) (c.in_ok-lo-in-Both.ensures.sides.means V means false)))
    (at_false c.in_ok-has_some-in-Both-2.field-0 _ _ c.if-branch-2.false
    (c.in_ok-has_some-in-Both-2.ensures.some (front_of V c.first_bit-bit.result true)
    (means_more (table c.args.arena.now) c.split.new.self.pairs.items c.has_some.new.pairs.pairs.items c.in_ok-has_some-in-Both.ensures.extends c.in_ok-lo-in-Both.hi _ (c.in_ok-lo-in-Both.ensures.sides.means V means true)))))
    c.in_ok-add-in-Both.ensures
