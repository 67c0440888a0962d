use Rattle.std.proofs.Common.{List, sym, subst}
use Rattle.set_meaning.specs.declared.kinds.Kind.{Kind}
use Rattle.set_shapes.specs.Tables.{AreSets}
use Rattle.set_shapes.proofs.OneBranch.{pair_sets, equality_over, equality_tells}
use Rattle.set_shapes.proofs.branches.equality_machine.Goals as goal

pub new-requires-clause-sets : goal.new-requires-clause-sets
new-requires-clause-sets c = pair_sets c.args.kinds.now c.in_ok-operands.operands c.args.item.now c.args.set.now c.in_ok-operands.ensures c.requires.item c.requires.set

pub returns-clause-over : goal.returns-clause-over
returns-clause-over c =
    let l = c.args.layout.now in
    let o = c.in_ok-operands.operands in
    let sets = pair_sets c.args.kinds.now o c.args.item.now c.args.set.now c.in_ok-operands.ensures c.requires.item c.requires.set in
    let own : AreSets l.kinds o = subst (λ (ks : List Kind). AreSets ks o) (sym c.requires.kinds) sets in
    equality_over l o c.args.bits.now c.as_slice.result.now (record { table = c.in_ok-table.table; places = c.in_ok-places.places }) c.obeys_order.ensures own (record { table = c.in_ok-table.ensures; lent_is = c.as_slice.ensures.value; places = c.in_ok-places.ensures })

pub returns-clause-tells : goal.returns-clause-tells
returns-clause-tells c =
    let l = c.args.layout.now in
    let o = c.in_ok-operands.operands in
    let sets = pair_sets c.args.kinds.now o c.args.item.now c.args.set.now c.in_ok-operands.ensures c.requires.item c.requires.set in
    let own : AreSets l.kinds o = subst (λ (ks : List Kind). AreSets ks o) (sym c.requires.kinds) sets in
    equality_tells l o c.args.item.now c.args.set.now c.args.bits.now c.as_slice.result.now (record { table = c.in_ok-table.table; places = c.in_ok-places.places }) c.obeys_order.ensures own c.in_ok-operands.ensures
    (record { table = c.in_ok-table.ensures; lent_is = c.as_slice.ensures.value; places = c.in_ok-places.ensures })
