use Rattle.std.proofs.Common.{rules, to_z, of_z, FitsSigned, refl}
use Rattle.std.specs.Int.{w128}
use Rattle.std.proofs.lemmas.Int.{to_z-of_z}
use Rattle.int_channel.proofs.ChoiceSums.{sum_compared}
use Rattle.int_channel.proofs.choices.amounts.Amount.compared.Goals as goal

pub returns : goal.returns
returns c = λ base ms h short.
    let constant = c.args.self.constant in
    let fits : FitsSigned w128 constant = search rules in
    sum_compared c.args.comparison base ms c.args.self record { terms = c.of.result; constant = to_z w128 (of_z w128 constant); comparison = c.args.comparison }
    refl c.of.ensures (to_z-of_z w128 constant fits) h short
