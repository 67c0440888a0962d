use Rattle.std.proofs.Common.{◌<◌, get_or, refl, sym, subst}
use Rattle.sweep_shapes.proofs.Deciding.{listed_known, as_long, variable_turn, decided}
use Rattle.sweep_shapes.proofs.axioms.is_possible_by_trials.Goals as goal

pub values_within-requires-clause-known : goal.values_within-requires-clause-known
values_within-requires-clause-known c =
    listed_known c.args.kinds.now c.args.c.now c.args.variables.now c.args.variables.now c.loop-v.v-index (record { 0 = 0 }) c.requires.variables c.requires.fits
    refl c.loop-v-test.true

pub open-requires : goal.open-requires
open-requires c =
    subst (λ n. (get_or c.args.variables.now c.loop-v.v-index (record { 0 = 0 })).0 < n) (sym c.loop-v.invariant.long)
    (as_long c.args.kinds.now c.as_mut_slice-slots.result.now c.in_ok-values.values.items (get_or c.args.variables.now c.loop-v.v-index (record { 0 = 0 })).0 c.in_ok-values.ensures
    c.as_mut_slice-slots.ensures.value
    (listed_known c.args.kinds.now c.args.c.now c.args.variables.now c.args.variables.now c.loop-v.v-index (record { 0 = 0 }) c.requires.variables c.requires.fits
    refl c.loop-v-test.true))

pub loop-v-preserved : goal.loop-v-preserved
loop-v-preserved c =
    variable_turn c.args.kinds.now c.args.table.now c.args.sides.now c.args.c.now c.args.variables.now c.args.variables.now c.as_mut_slice-slots.result.now c.in_ok-values.values.items
    c.loop-v.v-index (record { 0 = 0 }) c.in_ok-own.own.items c.loop-v.slots c.open.new.values c.loop-v.choices.items c.open.new.choices.items c.requires.variables c.requires.fits
    refl c.in_ok-values.ensures c.as_mut_slice-slots.ensures.value c.loop-v-test.true c.in_ok-own.ensures c.in_ok-open.ensures c.loop-v.invariant

pub returns : goal.returns
returns c =
    decided c.args.kinds.now c.args.table.now c.args.sides.now c.args.c.now c.args.variables.now c.args.variables.now c.as_mut_slice-slots.result.now c.in_ok-values.values.items
    c.loop-v.slots c.loop-v.choices.items c.as_slice.result.now c.loop-v.v-index c.in_ok-yes.yes c.requires.variables c.requires.fits refl c.in_ok-values.ensures
    c.as_mut_slice-slots.ensures.value c.requires.scope c.loop-v-test.false c.loop-v.invariant c.as_slice.ensures.value c.in_ok-yes.ensures.tried
