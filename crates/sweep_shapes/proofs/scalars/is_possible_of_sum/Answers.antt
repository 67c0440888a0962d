use Rattle.std.proofs.Common.{◌∙◌, sym, ap, subst, length, IsTrue}
use Rattle.bit_layout.proofs.Listing.{all_zip_long}
use Rattle.sweep_sums.specs.Forms.{IsSumOf}
use Rattle.sweep_shapes.specs.Numbers.{AreNumbersWithin}
use Rattle.sweep_shapes.proofs.Known.{scope_known}
use Rattle.sweep_shapes.proofs.Summing.{SumTask, fit_is_satisfied}
use Rattle.sweep_shapes.proofs.scalars.is_possible_of_sum.Goals as goal

pub all_numbers_within-requires-clause-known : goal.all_numbers_within-requires-clause-known
all_numbers_within-requires-clause-known c = scope_known c.args.kinds.now c.args.c.now c.args.variables.now c.requires.fits c.requires.scope

pub some_fit-requires-clause-paired : goal.some_fit-requires-clause-paired
some_fit-requires-clause-paired c =
    ap length c.as_slice-lists.ensures.value
    ∙ sym (all_zip_long (AreNumbersWithin c.args.kinds.now c.args.table.now c.args.sides.now) c.args.variables.now c.in_ok-lists.lists.items c.in_ok-lists.ensures)

pub returns : goal.returns
returns c =
    let sum : IsSumOf c.args.kinds.now c.args.read.now.relation c.args.read.now.args c.in_ok-sum.sum =
    subst (λ args. IsSumOf c.args.kinds.now c.args.read.now.relation args c.in_ok-sum.sum) c.items-args.ensures c.in_ok-sum.ensures in
    let task : SumTask c.args.kinds.now c.args.c.now c.args.read.now c.args.variables.now c.args.truth c.in_ok-sum.sum = record {
      weighted = c.sums_are_weighted.ensures;
      fits = c.requires.fits;
      reading = c.requires.read;
      scope = c.requires.scope;
      sum = sum;
    } in
    fit_is_satisfied c.args.kinds.now c.args.table.now c.args.sides.now c.args.c.now c.args.read.now c.args.variables.now c.args.truth c.in_ok-sum.sum c.in_ok-lists.lists.items
    c.as_slice-lists.result.now c.requires.legal c.requires.named task c.in_ok-lists.ensures c.as_slice-lists.ensures.value (IsTrue c.in_ok-yes.yes) c.in_ok-yes.ensures
