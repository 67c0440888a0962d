use Rattle.std.proofs.Common.{refl}
use Rattle.fzn_model.proofs.Declaring.{length_first}
use Rattle.fzn_model.proofs.declarations.wrong_length.Goals as goal

pub returns-in-Array : goal.returns-in-Array
returns-in-Array c =
    let a = c.in-Array in
    length_first c.args.form.now a.length a.is_var a.sort a.name a.anns a.items_at a.items a.is c.items.result.now c.items.ensures
    c.is_length.result _ c.is_length.ensures refl c.fault_if.result c.fault_if.ensures
