use Rattle.std.proofs.Common.{None}
use Rattle.fzn_parser.specs.declared.tree.Item.{Item}
use Rattle.fzn_parser.specs.declared.tree.Form.TheVariants as forms
use Rattle.fzn_model.specs.declared.faults.ModelFault.TheVariants as faults
use Rattle.fzn_model.specs.FaultsOf.{AreTooManyBits}
use Rattle.fzn_model.specs.FirstFault.{AtPlaces, IsFirstOf}
use Rattle.fzn_model.proofs.Declaring.{bits_first, no_bits, of_form}
use Rattle.fzn_model.proofs.declarations.too_many_bits.Goals as goal

pub returns-in-Some : goal.returns-in-Some
returns-in-Some c =
    let v = c.in-Variable in
    of_form (λ (i : Item). IsFirstOf (AtPlaces faults.TooManyBits (AreTooManyBits c.args.before.now i)) c.fault_if.result) c.args.item.now (forms.Variable v.sort v.name v.anns v.value) v.is
    (bits_first c.args.before.now c.args.item.now.at v.sort v.name v.anns v.value c.args.so_far.now.kinds.items c.requires.known
    c.args.so_far.now.counts.bits c.args.so_far.now.counts.integer_values c.requires.bits c.requires.values
    c.in_ok-weight-in-Variable.field-0 c.in-Some.weight c.in_ok-weight-in-Variable.ensures c.in-Some.is
    c.is_too_much.result c.is_too_much.ensures c.fault_if.result c.fault_if.ensures)

pub returns-in-None : goal.returns-in-None
returns-in-None c =
    let v = c.in-Variable in
    of_form (λ (i : Item). IsFirstOf (AtPlaces faults.TooManyBits (AreTooManyBits c.args.before.now i)) None) c.args.item.now (forms.Variable v.sort v.name v.anns v.value) v.is
    (no_bits c.args.before.now c.args.item.now.at v.sort v.name v.anns v.value c.args.so_far.now.kinds.items c.requires.known
    c.in_ok-weight-in-Variable.field-0 c.in_ok-weight-in-Variable.ensures c.in-None.is)
