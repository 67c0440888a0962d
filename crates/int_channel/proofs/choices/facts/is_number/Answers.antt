use Rattle.std.proofs.Common.{FitsSigned, w64}
use Rattle.std.proofs.lemmas.Int.{to_z-of_z}
use Rattle.std.proofs.lemmas.Result.{IfOk-weaker}
use Rattle.int_channel.specs.declared.forms.Atom.{Atom}
use Rattle.int_channel.proofs.ChoiceFacts.{number_is}
use Rattle.int_channel.proofs.choices.facts.is_number.Goals as goal

pub returns : goal.returns
returns c =
    let fits : FitsSigned w64 c.args.number = c.ranges.number in
    IfOk-weaker c.one.result _ _ (λ (atom : Atom) h. number_is c.args.a.now c.args.number atom h) (simp to_z-of_z at c.one.ensures)
