use Rattle.std.proofs.Common.{◌↔◌, ℤ, Vec, Global, Contains, ap, sym, subst}
use Rattle.std.specs.Prelude.{IfOk}
use Rattle.set_meaning.specs.declared.kinds.Kind.{Kind}
use Rattle.set_meaning.specs.Sets.{Has}
use Rattle.int_channel.specs.Choices.{elements_in}
use Rattle.int_channel.proofs.ChoiceLoops.{nothing_kept}
use Rattle.int_channel.proofs.choices.members.shared_with_kind.Goals as goal

pub returns-in-Bool : goal.returns-in-Bool
returns-in-Bool c = nothing_kept c.args.numbers.now (elements_in c.args.kind.now) c.new.result.items c.new.ensures.items (ap elements_in c.in-Bool.is)

pub returns-in-Int : goal.returns-in-Int
returns-in-Int c = nothing_kept c.args.numbers.now (elements_in c.args.kind.now) c.new-in-Int.result.items c.new-in-Int.ensures.items (ap elements_in c.in-Int.is)

pub returns-in-Set : goal.returns-in-Set
returns-in-Set c =
    subst (λ (v : Kind). IfOk c.shared_with_set.result (λ (shared : Vec ℤ Global). (n : ℤ) → Contains shared.items n ↔ (Contains c.args.numbers.now n × Has (elements_in v) n))) (sym c.in-Set.is)
    c.shared_with_set.ensures
