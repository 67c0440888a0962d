use Rattle.std.proofs.Common.{pos, [], refl, arith}
use Rattle.std.specs.Prelude.{⊤}
use Rattle.linear_machine.specs.declared.comparison.Comparison.TheVariants.{Equal}
use Rattle.int_channel.specs.Choices.{ComparesSum}
use Rattle.int_channel.proofs.ChoiceSums.{same_atom}
use Rattle.int_channel.proofs.choices.amounts.trivial.Goals as goal

pub returns : goal.returns
returns c = same_atom [] (ComparesSum Equal (pos 0) []) (λ values. ⊤) c.compared.result (λ values. (λ _. tt, λ _. refl)) (c.compared.ensures (pos 0) [] c.constant.ensures.amount (omega arith))
