use Rattle.std.proofs.Common.{◌≡◌, ◌↔◌, true, negsuc, pos, ◌+ℤ◌, length, map, sum_by, unsigned_abs, ◌∙◌, ap, sym, subst, arith}
use Rattle.std.proofs.lemmas.List.{length-map}
use Rattle.std.proofs.lemmas.Int.{to_z-of_z}
use Rattle.std.specs.Prelude.{FitsSigned}
use mir.Syntax.{w64}
use Rattle.bit_machine.specs.Rules.{accepts}
use Rattle.linear_machine.specs.declared.comparison.Comparison.{Comparison}
use Rattle.linear_machine.specs.declared.comparison.Comparison.TheVariants.{Equal}
use Rattle.linear_machine.specs.Sums.{Compares, sum_of_true}
use Rattle.linear_machine.specs.Steps.{rules_of}
use Rattle.int_channel.specs.Machines.{weight_of}
use Rattle.int_channel.proofs.Membership.{member_sum, member_accepts, weights_small}
use Rattle.int_channel.proofs.members.member_machine.Goals as goal

pub new-requires : goal.new-requires
new-requires c =
    let small = weights_small c.bit_of_element-own.result c.args.bits.now c.requires.ascend in
    let same = ap (sum_by unsigned_abs) (c.as_slice.ensures.value ∙ c.in_ok-weights.ensures) in
    omega (arith, small, same)

pub returns-clause-places : goal.returns-clause-places
returns-clause-places c =
    ap length (c.in_ok-machine.ensures.weights ∙ c.as_slice.ensures.value ∙ c.in_ok-weights.ensures) ∙ length-map c.args.bits.now (weight_of c.bit_of_element-own.result)

pub returns-clause-accepts : goal.returns-clause-accepts
returns-clause-accepts c values w gives =
    let m = c.in_ok-machine.machine in
    let items : m.weights ≡ map (weight_of c.bit_of_element-own.result) c.args.bits.now = c.in_ok-machine.ensures.weights ∙ c.as_slice.ensures.value ∙ c.in_ok-weights.ensures in
    let base : m.constant ≡ negsuc 0 = c.in_ok-machine.ensures.constant in
    let fits : FitsSigned w64 c.args.element = c.ranges.element in
    let said = member_sum c.words_are_read_by_position.ensures.at c.args.layout.now c.args.set c.args.element c.bit_of_element-own.result c.args.bits.now values w
    (simp to_z-of_z at c.bit_of_element-own.ensures) c.requires.ascend c.requires.listed gives in
    member_accepts m c.args.bits.now w (map (weight_of c.bit_of_element-own.result) c.args.bits.now) items base c.in_ok-machine.ensures.comparison (accepts (rules_of m) c.args.bits.now w ≡ true) _ (c.accepts_by_its_sum.ensures m c.args.bits.now w) said
