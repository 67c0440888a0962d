use Rattle.std.proofs.lemmas.Result.{IfOk-weaker}
use Rattle.int_channel.specs.declared.forms.Atom.{Atom}
use Rattle.int_channel.proofs.ChoiceFacts.{equal_is}
use Rattle.int_channel.proofs.choices.facts.equal.Goals as goal

pub returns : goal.returns
returns c = IfOk-weaker c.two.result _ _ (λ (atom : Atom) h. equal_is c.args.a.now c.args.b.now atom h) c.two.ensures
