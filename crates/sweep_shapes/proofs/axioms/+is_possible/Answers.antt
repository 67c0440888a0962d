use Rattle.std.proofs.Common.{arith}
use Rattle.sweep_shapes.proofs.Known.{variable_known}
use Rattle.sweep_shapes.proofs.Fixing.{FixingLaw, allowed_item, fixed_fits, fixed_sides, fixed_named, fixed_fewer, tried_more, found_one, none_found}
use Rattle.sweep_shapes.proofs.axioms.+is_possible.Goals as goal

pub values_within-requires-clause-known : goal.values_within-requires-clause-known
values_within-requires-clause-known t c = variable_known c.args.kinds.now c.args.c.now c.in-Some.v c.requires.fits c.in-Some.ensures

pub is_possible-requires : goal.is_possible-requires
is_possible-requires t c =
    let law : FixingLaw = record {
      exact = c.fixing_is_exact.ensures.exact;
      fits = c.fixing_is_exact.ensures.fits;
      sides = c.fixing_is_exact.ensures.sides;
      named = c.fixing_is_exact.ensures.named;
      fewer = c.fixing_is_exact.ensures.fewer;
    } in
    let allowed = allowed_item c.args.kinds.now c.args.table.now c.args.sides.now c.in-Some.v.0 c.in_ok-own-in-Some.own.items c.as_slice-tried.result.now c.loop-x.x-index c.x-item.result c.in_ok-own-in-Some.ensures
    c.as_slice-tried.ensures.value c.loop-x-test.true c.x-item.is in
    let less = fixed_fewer law c.args.c.now c.in_ok-one-in-Some.one c.in-Some.v c.x-item.result c.in-Some.ensures c.in_ok-one-in-Some.ensures in
    let fits = fixed_fits law c.args.kinds.now c.args.table.now c.args.sides.now c.args.c.now c.in_ok-one-in-Some.one c.in-Some.v c.x-item.result c.requires.fits allowed c.in_ok-one-in-Some.ensures in
    let ok = fixed_sides law c.args.kinds.now c.args.table.now c.args.sides.now c.as_slice-left.result.now c.in_ok-left-in-Some.left.items c.in-Some.v c.requires.sides c.as_slice-left.ensures.value
    c.in_ok-left-in-Some.ensures in
    let named = fixed_named law c.args.sides.now c.as_slice-left.result.now c.in_ok-left-in-Some.left.items c.args.c.now c.in_ok-one-in-Some.one c.in-Some.v c.x-item.result c.requires.scope
    c.as_slice-left.ensures.value c.in_ok-left-in-Some.ensures c.in_ok-one-in-Some.ensures in
    (omega (arith, less, c.decreases), (c.requires.legal, (c.requires.layout, (fits, (ok, named)))))

pub returns-then-found : goal.returns-then-found
returns-then-found t c =
    let law : FixingLaw = record {
      exact = c.fixing_is_exact.ensures.exact;
      fits = c.fixing_is_exact.ensures.fits;
      sides = c.fixing_is_exact.ensures.sides;
      named = c.fixing_is_exact.ensures.named;
      fewer = c.fixing_is_exact.ensures.fewer;
    } in
    let known = variable_known c.args.kinds.now c.args.c.now c.in-Some.v c.requires.fits c.in-Some.ensures in
    let allowed = allowed_item c.args.kinds.now c.args.table.now c.args.sides.now c.in-Some.v.0 c.in_ok-own-in-Some.own.items c.as_slice-tried.result.now c.loop-x.x-index c.x-item.result c.in_ok-own-in-Some.ensures
    c.as_slice-tried.ensures.value c.loop-x-test.true c.x-item.is in
    found_one law c.args.kinds.now c.args.table.now c.args.sides.now c.as_slice-left.result.now c.in_ok-left-in-Some.left.items c.args.c.now c.in_ok-one-in-Some.one c.in-Some.v c.x-item.result
    c.in_ok-found-in-Some.found c.requires.fits known allowed c.as_slice-left.ensures.value c.in_ok-left-in-Some.ensures c.in_ok-one-in-Some.ensures c.in_ok-found-in-Some.ensures c.if-found.true

pub loop-x-preserved : goal.loop-x-preserved
loop-x-preserved t c =
    tried_more c.args.kinds.now c.args.table.now c.as_slice-left.result.now c.args.c.now c.in_ok-one-in-Some.one c.in-Some.v c.as_slice-tried.result.now c.loop-x.x-index c.x-item.result
    c.in_ok-found-in-Some.found c.loop-x-test.true c.x-item.is c.in_ok-one-in-Some.ensures c.in_ok-found-in-Some.ensures c.if-found.false c.loop-x.invariant

pub returns-after-loop-x : goal.returns-after-loop-x
returns-after-loop-x t c =
    let law : FixingLaw = record {
      exact = c.fixing_is_exact.ensures.exact;
      fits = c.fixing_is_exact.ensures.fits;
      sides = c.fixing_is_exact.ensures.sides;
      named = c.fixing_is_exact.ensures.named;
      fewer = c.fixing_is_exact.ensures.fewer;
    } in
    let known = variable_known c.args.kinds.now c.args.c.now c.in-Some.v c.requires.fits c.in-Some.ensures in
    none_found law c.args.kinds.now c.args.table.now c.args.sides.now c.as_slice-left.result.now c.in_ok-left-in-Some.left.items c.args.c.now c.in-Some.v c.in_ok-own-in-Some.own.items
    c.as_slice-tried.result.now c.loop-x.x-index c.requires.fits known c.in_ok-own-in-Some.ensures c.as_slice-tried.ensures.value c.as_slice-left.ensures.value c.in_ok-left-in-Some.ensures
    c.loop-x-test.false c.loop-x.invariant
