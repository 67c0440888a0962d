use Rattle.std.proofs.Common.{refl, FitsSigned}
use Rattle.std.proofs.lemmas.Result.{IfOk-weaker}
use Rattle.std.proofs.lemmas.Int.{to_z-of_z}
use mir.Syntax.{w64}
use Rattle.sweep_sets.specs.declared.rules.Rule.TheVariants.{Subset}
use Rattle.sweep_sets.specs.declared.shapes.SetShape.{SetShape}
use Rattle.sweep_sets.proofs.Exact.{made_grouped, exact_member}
use Rattle.sweep_sets.proofs.shapes.SetShape.of_member.Goals as goal

pub returns-clause-valid : goal.returns-clause-valid
returns-clause-valid c = IfOk-weaker _ _ _ (λ (s : SetShape) is. made_grouped _ c.args.places.now Subset c.args.truth s c.requires.ascending c.requires.elements is) c.made.ensures

pub returns-clause-exact : goal.returns-clause-exact
returns-clause-exact c =
    let fits : FitsSigned w64 c.args.member = c.ranges.member in
    let single = simp to_z-of_z at c.in_ok-single.ensures.exact in
    IfOk-weaker _ _ _
    (λ (s : SetShape) is. exact_member _ c.args.member c.args.set.now c.args.places.now c.args.truth s
    record { sorted = c.requires.ascending; elements = c.requires.elements; made = is }
    record {
      first = record { constant = single; variable = refl };
      second = c.operand_of.ensures;
      third = record { constant = c.in_ok-nothing.ensures.exact; variable = refl };
    })
    c.made.ensures
