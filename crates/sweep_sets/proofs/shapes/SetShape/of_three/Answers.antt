use Rattle.std.proofs.lemmas.Result.{IfOk-weaker}
use Rattle.sweep_sets.specs.declared.shapes.SetShape.{SetShape}
use Rattle.sweep_sets.proofs.Exact.{made_grouped, exact_three}
use Rattle.sweep_sets.proofs.shapes.SetShape.of_three.Goals as goal

pub returns-clause-valid : goal.returns-clause-valid
returns-clause-valid c = IfOk-weaker _ _ _ (λ (s : SetShape) is. made_grouped _ c.args.places.now c.args.rule c.args.truth s c.requires.ascending c.requires.elements is) c.made.ensures

pub returns-clause-exact : goal.returns-clause-exact
returns-clause-exact c =
    IfOk-weaker _ _ _
    (λ (s : SetShape) is. exact_three _ c.args.first.now c.args.second.now c.args.third.now c.args.places.now c.args.rule c.args.truth s
    record { sorted = c.requires.ascending; elements = c.requires.elements; made = is }
    record { first = c.operand_of.ensures; second = c.operand_of-2.ensures; third = c.operand_of-3.ensures })
    c.made.ensures
