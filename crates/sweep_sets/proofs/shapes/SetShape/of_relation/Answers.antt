use Rattle.std.proofs.Common.{◌≡◌, ◌∷◌, [], Bool, List, arith, ap, subst}
use Rattle.std.proofs.Math.Bool.{beq}
use Rattle.std.proofs.lemmas.Result.{IfOk-weaker}
use Rattle.set_meaning.specs.declared.problems.Arg.{Arg}
use Rattle.set_meaning.specs.declared.problems.Arg.TheVariants.{One}
use Rattle.set_meaning.specs.declared.problems.Term.{Term}
use Rattle.sweep_sets.specs.declared.rules.Rule.{Rule}
use Rattle.sweep_sets.specs.declared.shapes.SetShape.{SetShape}
use Rattle.sweep_sets.specs.Relations.{rule_truth}
use Rattle.sweep_sets.specs.Shapes.{HasTruth, RelatesTwo, RelatesThree, IsExact}
use Rattle.sweep_sets.proofs.ExactRelations.{two_are, three_are, shape_of_two, shape_of_three}
use Rattle.sweep_sets.proofs.shapes.SetShape.of_relation.Goals as goal

pub returns-in-len2-clause-exact : goal.returns-in-len2-clause-exact
returns-in-len2-clause-exact c =
    let args : List Arg = c.args.args.now in
    let a : Term = c.term_of.result.now in
    let b : Term = c.term_of-in-len2.result.now in
    let are : args ≡ One a ∷ One b ∷ [] = two_are args c.first-item.result c.second-item.result a b (omega (arith, c.in-len2.len_at_least)) (omega (arith, c.in-len2.len_below)) c.first-item.is c.second-item.is c.term_of.ensures c.term_of-in-len2.ensures in
    IfOk-weaker _ _ _
    (λ (s : SetShape) exact. shape_of_two c.args.places.now c.args.relation c.args.truth a b args s are c.requires.sets
    (subst (λ (rule : Rule). IsExact c.args.places.now s (a ∷ b ∷ []) (λ values. HasTruth (beq (rule_truth c.args.relation) c.args.truth) (RelatesTwo rule a b values))) c.rule_of-rule.ensures
    (subst (λ (truth : Bool). IsExact c.args.places.now s (a ∷ b ∷ []) (λ values. HasTruth truth (RelatesTwo c.rule_of-rule.result a b values))) (ap (λ v. beq v c.args.truth) c.rule_truth.ensures) exact)))
    c.of_two.ensures.exact

pub returns-in-len3-clause-exact : goal.returns-in-len3-clause-exact
returns-in-len3-clause-exact c =
    let args : List Arg = c.args.args.now in
    let a : Term = c.term_of-in-len3.result.now in
    let b : Term = c.term_of-in-len3-2.result.now in
    let d : Term = c.term_of-in-len3-3.result.now in
    let are : args ≡ One a ∷ One b ∷ One d ∷ [] = three_are args c.first-item-then-args-lt4.result c.second-item-then-args-lt4.result c.third-item.result a b d (omega (arith, c.in-len3.len_at_least)) (omega (arith, c.in-len3.len_below))
    c.first-item-then-args-lt4.is c.second-item-then-args-lt4.is c.third-item.is c.term_of-in-len3.ensures c.term_of-in-len3-2.ensures c.term_of-in-len3-3.ensures in
    IfOk-weaker _ _ _
    (λ (s : SetShape) exact. shape_of_three c.args.places.now c.args.relation c.args.truth a b d args s are c.requires.sets
    (subst (λ (rule : Rule). IsExact c.args.places.now s (a ∷ b ∷ d ∷ []) (λ values. HasTruth (beq (rule_truth c.args.relation) c.args.truth) (RelatesThree rule a b d values))) c.rule_of-rule.ensures
    (subst (λ (truth : Bool). IsExact c.args.places.now s (a ∷ b ∷ d ∷ []) (λ values. HasTruth truth (RelatesThree c.rule_of-rule.result a b d values))) (ap (λ v. beq v c.args.truth) c.rule_truth.ensures) exact)))
    c.of_three.ensures.exact
