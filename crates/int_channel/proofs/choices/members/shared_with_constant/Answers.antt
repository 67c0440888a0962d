use Rattle.std.proofs.Common.{◌↔◌, ℤ, Vec, Global, Contains, ap, sym, subst}
use Rattle.std.specs.Prelude.{IfOk}
use Rattle.set_meaning.specs.declared.kinds.Value.{Value}
use Rattle.set_meaning.specs.Sets.{Has}
use Rattle.int_channel.specs.Choices.{elements_of_constant}
use Rattle.int_channel.proofs.ChoiceLoops.{nothing_kept}
use Rattle.int_channel.proofs.choices.members.shared_with_constant.Goals as goal

pub returns-in-Bool : goal.returns-in-Bool
returns-in-Bool c = nothing_kept c.args.numbers.now (elements_of_constant c.args.value.now) c.new.result.items c.new.ensures.items (ap elements_of_constant c.in-Bool.is)

pub returns-in-Int : goal.returns-in-Int
returns-in-Int c = nothing_kept c.args.numbers.now (elements_of_constant c.args.value.now) c.new-in-Int.result.items c.new-in-Int.ensures.items (ap elements_of_constant c.in-Int.is)

pub returns-in-Set : goal.returns-in-Set
returns-in-Set c =
    subst (λ (v : Value). IfOk c.shared_with_set.result (λ (shared : Vec ℤ Global). (n : ℤ) → Contains shared.items n ↔ (Contains c.args.numbers.now n × Has (elements_of_constant v) n))) (sym c.in-Set.is)
    c.shared_with_set.ensures
