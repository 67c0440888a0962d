use Rattle.std.specs.List.{flat_map}
use Rattle.fzn_model.specs.Items.{parts_of}
use Rattle.fzn_model.specs.PartFaults.{IsFound, OfAsked, OfSome, with_shapes}
use Rattle.fzn_model.specs.Shapes.{shapes_named}
use Rattle.fzn_model.specs.State.{naming_of}
use Rattle.fzn_model.proofs.Founds.{first_found}
use Rattle.fzn_model.proofs.expressions.fault_in_arguments.Goals as goal

pub returns : goal.returns
returns c =
    let naming = naming_of c.args.declared.now in
    let found : IsFound (OfSome (OfAsked naming) (with_shapes (shapes_named c.args.name.now) c.args.args.now)) naming c.args.start (flat_map parts_of c.args.args.now) c.in_ok-found.found
    = rw (c.as_slice.ensures.value, c.in_ok-shapes.ensures) at c.in_ok-found.ensures in
    rw c.earlier.ensures
    (first_found (OfSome (OfAsked naming) (with_shapes (shapes_named c.args.name.now) c.args.args.now)) naming c.args.start (flat_map parts_of c.args.args.now) c.in_ok-found.found found)
