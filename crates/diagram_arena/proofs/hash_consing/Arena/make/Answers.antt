use Rattle.std.proofs.Common.{◌<◌, refl}
use Rattle.diagram_arena.specs.Table.{bit_end}
use Rattle.diagram_arena.specs.Arena.{table, triple, IsNeeded, equal_children, node_there}
use Rattle.diagram_arena.proofs.Meaning.{bit_end_is}
use Rattle.diagram_arena.proofs.Growth.{grows_self, joins_node}
use Rattle.diagram_arena.proofs.States.{added, Added}
use Rattle.diagram_arena.proofs.hash_consing.Arena.make.Goals as goal

pub returns-in-Some-clause-joins : goal.returns-in-Some-clause-joins
returns-in-Some-clause-joins c =
    let ok = c.find.ensures.reduced in
    joins_node _ _ (grows_self _ ok) ok c.in-Some.id (triple c.args.bit c.args.lo c.args.hi) c.in-Some.ensures.found c.requires

outcome : (c : goal.After-add) → Added c.args.self.now c.add.new.self c.args.bit c.args.lo c.args.hi c.add.result
outcome c =
    let small : c.args.bit < bit_end = rw bit_end_is c.ranges.bit.fits in
    let needed : IsNeeded (table c.args.self.now) c.args.bit c.args.lo c.args.hi = record {
      differ = λ e. let same = c.is_same.ensures.1 e in cc;
      absent = c.in-None.ensures.absent;
    } in
    added _ _ _ _ _ _ c.find.ensures.reduced c.requires needed small c.add.ensures.added c.add.ensures.err

pub returns-in-None-clause-joins : goal.returns-in-None-clause-joins
returns-in-None-clause-joins c = (outcome c).joins

pub returns-in-None-clause-only_new : goal.returns-in-None-clause-only_new
returns-in-None-clause-only_new c = (outcome c).only_new

pub returns-in-None-clause-grows : goal.returns-in-None-clause-grows
returns-in-None-clause-grows c = (outcome c).grown

pub returns-in-None-clause-reduced : goal.returns-in-None-clause-reduced
returns-in-None-clause-reduced c = (outcome c).reduced

pub returns-then-is_same-clause-made : goal.returns-then-is_same-clause-made
returns-then-is_same-clause-made c = equal_children (c.is_same.ensures.0 c.if-is_same.true) refl refl

pub returns-in-Some-clause-made : goal.returns-in-Some-clause-made
returns-in-Some-clause-made c = node_there c.in-Some.id (λ e. let same = c.is_same.ensures.1 e in cc) c.in-Some.ensures.found refl refl

pub returns-in-None-clause-made : goal.returns-in-None-clause-made
returns-in-None-clause-made c = (outcome c).made

pub returns-in-None-clause-keeps : goal.returns-in-None-clause-keeps
returns-in-None-clause-keeps c = (outcome c).keeps

pub returns-in-None-clause-untagged : goal.returns-in-None-clause-untagged
returns-in-None-clause-untagged c = (outcome c).untagged
