use Rattle.set_meaning.specs.declared.problems.Relation.TheVariants.{IntMin, IntMax, IntAbs, BoolAnd, BoolOr, BoolXor, ArrayBoolAnd, ArrayBoolOr}
use Rattle.int_channel.proofs.ChoiceBranches.{at_kinds}
use Rattle.int_channel.proofs.choices.branches_of.Goals as goal

pub returns-in-IntMin : goal.returns-in-IntMin
returns-in-IntMin c = at_kinds c.args.kinds.now IntMin c.args.relation c.args.args.now c.minimum.result c.in-IntMin.is c.requires.fits c.minimum.ensures

pub returns-in-IntMax : goal.returns-in-IntMax
returns-in-IntMax c = at_kinds c.args.kinds.now IntMax c.args.relation c.args.args.now c.maximum.result c.in-IntMax.is c.requires.fits c.maximum.ensures

pub returns-in-IntAbs : goal.returns-in-IntAbs
returns-in-IntAbs c = at_kinds c.args.kinds.now IntAbs c.args.relation c.args.args.now c.absolute_value.result c.in-IntAbs.is c.requires.fits c.absolute_value.ensures

pub returns-in-BoolAnd : goal.returns-in-BoolAnd
returns-in-BoolAnd c = at_kinds c.args.kinds.now BoolAnd c.args.relation c.args.args.now c.conjunction.result c.in-BoolAnd.is c.requires.fits c.conjunction.ensures

pub returns-in-BoolOr : goal.returns-in-BoolOr
returns-in-BoolOr c = at_kinds c.args.kinds.now BoolOr c.args.relation c.args.args.now c.disjunction.result c.in-BoolOr.is c.requires.fits c.disjunction.ensures

pub returns-in-BoolXor : goal.returns-in-BoolXor
returns-in-BoolXor c = at_kinds c.args.kinds.now BoolXor c.args.relation c.args.args.now c.exclusive_or.result c.in-BoolXor.is c.requires.fits c.exclusive_or.ensures

pub returns-in-ArrayBoolAnd : goal.returns-in-ArrayBoolAnd
returns-in-ArrayBoolAnd c = at_kinds c.args.kinds.now ArrayBoolAnd c.args.relation c.args.args.now c.all_true.result c.in-ArrayBoolAnd.is c.requires.fits c.all_true.ensures

pub returns-in-ArrayBoolOr : goal.returns-in-ArrayBoolOr
returns-in-ArrayBoolOr c = at_kinds c.args.kinds.now ArrayBoolOr c.args.relation c.args.args.now c.some_true.result c.in-ArrayBoolOr.is c.requires.fits c.some_true.ensures
