use Rattle.std.proofs.lemmas.Result.{IfOk-weaker}
use Rattle.int_channel.specs.declared.forms.Atom.{Atom}
use Rattle.int_channel.proofs.ChoiceFacts.{at_most_is}
use Rattle.int_channel.proofs.choices.facts.at_most.Goals as goal

pub returns : goal.returns
returns c = IfOk-weaker c.two.result _ _ (λ (atom : Atom) h. at_most_is c.args.a.now c.args.b.now atom h) c.two.ensures
