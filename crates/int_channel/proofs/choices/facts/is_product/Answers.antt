use Rattle.std.proofs.Common.{FitsSigned, w64}
use Rattle.std.proofs.lemmas.Int.{to_z-of_z}
use Rattle.std.proofs.lemmas.Result.{IfOk-weaker}
use Rattle.int_channel.specs.declared.forms.Atom.{Atom}
use Rattle.int_channel.proofs.ChoiceFacts.{product_is}
use Rattle.int_channel.proofs.choices.facts.is_product.Goals as goal

pub returns : goal.returns
returns c =
    let fits : FitsSigned w64 c.args.number = c.ranges.number in
    IfOk-weaker c.two.result _ _ (λ (atom : Atom) h. product_is c.args.number c.args.a.now c.args.b.now atom h) (simp to_z-of_z at c.two.ensures)
