use Rattle.std.proofs.Common.{◌≤◌, to_z, of_z, w64, FitsSigned, take, arith}
use Rattle.std.proofs.lemmas.Int.{to_z-of_z}
use Rattle.int_channel.specs.Choices.{multiples_of}
use Rattle.int_channel.proofs.ChoiceArrays.{item_added, items_compared, short_multiples}
use Rattle.int_channel.proofs.choices.arrays.sum_of_items.Goals as goal

pub loop-item-preserved : goal.loop-item-preserved
loop-item-preserved c =
    let items = c.args.items.now in
    let i = c.loop-item.item-index in
    let base = to_z w64 (of_z w64 c.args.base) in
    let k = to_z w64 (of_z w64 c.args.k) in
    let t = c.item-item.result in
    let was = c.loop-item.invariant.size in
    let grown = c.in_ok-plus.ensures.size in
    record {
      amount = item_added base k items i t c.plus.new.self c.loop-item-test.true c.item-item.is (c.in_ok-plus.ensures.amount base (multiples_of k (take i items)) c.loop-item.invariant.amount);
      size = omega (arith, was, grown);
    }

pub returns : goal.returns
returns c =
    let items = c.args.items.now in
    let i = c.loop-item.item-index in
    let base = to_z w64 (of_z w64 c.args.base) in
    let k = to_z w64 (of_z w64 c.args.k) in
    let l = to_z w64 (of_z w64 c.args.l) in
    let t = c.args.term.now in
    let fits_base : FitsSigned w64 c.args.base = c.ranges.base in
    let fits_k : FitsSigned w64 c.args.k = c.ranges.k in
    let fits_l : FitsSigned w64 c.args.l = c.ranges.l in
    let amount = c.in_ok-plus-2.ensures.amount base (multiples_of k (take i items)) c.loop-item.invariant.amount in
    items_compared c.args.base c.args.k c.args.l base k l items t i c.compared.result (to_z-of_z w64 c.args.base fits_base) (to_z-of_z w64 c.args.k fits_k) (to_z-of_z w64 c.args.l fits_l) c.loop-item-test.false
    (c.compared.ensures base _ amount (short_multiples k items i (l, t) c.requires.few))
