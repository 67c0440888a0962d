use Rattle.fzn_model.proofs.Declaring.{array_output, scalar_output}
use Rattle.fzn_model.proofs.declarations.bad_output.Goals as goal

pub returns-else-not-is_var : goal.returns-else-not-is_var
returns-else-not-is_var c =
    let a = c.in-Array in
    array_output c.args.form.now a.length a.is_var a.sort a.name a.anns a.items_at a.items a.is c.if-not-is_var.false
    c.items-in-Array-2.result.now c.items-in-Array.result.now c.items-in-Array-2.ensures c.items-in-Array.ensures c.bad_output_of_array.result c.bad_output_of_array.ensures

pub returns-in-Variable : goal.returns-in-Variable
returns-in-Variable c =
    let v = c.in-Variable in
    scalar_output c.args.form.now v.sort v.name v.anns c.items.result.now v.value v.is c.items.ensures c.bad_output_of_scalar.result c.bad_output_of_scalar.ensures
