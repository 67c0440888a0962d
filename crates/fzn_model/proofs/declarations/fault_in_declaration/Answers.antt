use Rattle.fzn_model.proofs.Declaring.{all_joined}
use Rattle.fzn_model.proofs.declarations.fault_in_declaration.Goals as goal

pub returns : goal.returns
returns c =
    all_joined c.args.before.now c.args.item.now
    c.declared_twice.result c.in_ok-too_many_bits.field-0 c.unbounded.result c.float_type.result c.declared_number.result c.in_ok-bad_domain.field-0 c.in_ok-bad_universe.field-0
    c.wrong_length.result c.in_ok-bad_output.field-0
    c.earlier-name.result c.earlier.result c.earlier-bounds.result c.earlier-2.result c.earlier-sort.result c.earlier-shape.result c.earlier-3.result c.earlier-4.result
    c.earlier-name.ensures c.earlier.ensures c.earlier-bounds.ensures c.earlier-2.ensures c.earlier-sort.ensures c.earlier-shape.ensures c.earlier-3.ensures c.earlier-4.ensures
    c.declared_twice.ensures c.in_ok-too_many_bits.ensures c.unbounded.ensures c.float_type.ensures c.declared_number.ensures c.in_ok-bad_domain.ensures c.in_ok-bad_universe.ensures
    c.wrong_length.ensures c.in_ok-bad_output.ensures
