use Rattle.std.proofs.Common.{◌↔◌, IsTrue, subst, sym}
use Rattle.std.specs.Prelude.{Bool, List, Result, IfOk}
use Rattle.std.specs.declared.alloc.AllocError.{AllocError}
use Rattle.set_meaning.specs.declared.kinds.Value.{Value}
use Rattle.set_meaning.specs.declared.problems.Arg.{Arg}
use Rattle.set_meaning.specs.declared.problems.Relation.{Relation}
use Rattle.set_meaning.specs.Relations.{HoldsOf}
use Rattle.set_meaning.proofs.meaning.relations.relation_holds.Goals as goal

-- what the test of a relation ensures
abbrev Tells : Result Bool AllocError → List Arg → List Value → Relation → Type 0
Tells result args values relation = IfOk result (λ holds. IsTrue holds ↔ HoldsOf relation args values)

pub returns-in-IntLinNe : goal.returns-in-IntLinNe
unfolding HoldsOf
returns-in-IntLinNe c = subst (Tells c.compared-in-IntLinNe.result c.args.args.now c.args.values.now) (sym c.in-IntLinNe.is) c.compared-in-IntLinNe.ensures

pub returns-in-ArrayIntElement : goal.returns-in-ArrayIntElement
unfolding HoldsOf
returns-in-ArrayIntElement c = subst (Tells c.int_element.result c.args.args.now c.args.values.now) (sym c.in-ArrayIntElement.is) c.int_element.ensures

pub returns-in-BoolClause : goal.returns-in-BoolClause
unfolding HoldsOf
returns-in-BoolClause c = subst (Tells c.clause.result c.args.args.now c.args.values.now) (sym c.in-BoolClause.is) c.clause.ensures

pub returns-in-ArrayBoolAnd : goal.returns-in-ArrayBoolAnd
unfolding HoldsOf
returns-in-ArrayBoolAnd c = subst (Tells c.conjunction.result c.args.args.now c.args.values.now) (sym c.in-ArrayBoolAnd.is) c.conjunction.ensures

pub returns-in-ArrayBoolOr : goal.returns-in-ArrayBoolOr
unfolding HoldsOf
returns-in-ArrayBoolOr c = subst (Tells c.disjunction.result c.args.args.now c.args.values.now) (sym c.in-ArrayBoolOr.is) c.disjunction.ensures

pub returns-in-ArrayBoolElement : goal.returns-in-ArrayBoolElement
unfolding HoldsOf
returns-in-ArrayBoolElement c = subst (Tells c.bool_element.result c.args.args.now c.args.values.now) (sym c.in-ArrayBoolElement.is) c.bool_element.ensures
