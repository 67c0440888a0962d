use Rattle.std.proofs.Common.{slice_index_or, refl, sym, subst}
use Rattle.set_meaning.specs.declared.problems.VarId.{VarId}
use Rattle.diagram_arena.specs.declared.nodes.Ref.{Ref}
use Rattle.diagram_arena.specs.declared.nodes.Ref.TheVariants.{Zero}
use Rattle.diagram_arena.specs.Table.{IsLive}
use Rattle.diagram_arena.specs.Arena.{table}
use Rattle.node_reclaim.specs.Pool.{PoolState}
use Rattle.pin_lists.proofs.Leaving.{moves_then, only_then}
use Rattle.domain_trail.specs.Trail.{held}
use Rattle.propagation.proofs.Narrowings.{narrowed_itself, next_within, next_live, next_done, next_rest, next_folded}
use Rattle.propagation.proofs.putting.put.Goals as goal

pub loop-v-init : goal.loop-v-init
loop-v-init c = record {
  done = narrowed_itself c.args.p.now c.args.layout.now (table c.args.ops.now.arena) c.args.boxes.now c.args.trail.now c.requires.legal;
  rest = c.requires.narrowings;
  folded = refl;
  moved = λ i. refl;
  only = refl;
}

pub narrow-requires-clause-known : goal.narrow-requires-clause-known
narrow-requires-clause-known c = next_within c.args.p.now c.laws.ensures.narrow c.args.layout.now (table c.args.ops.now.arena) c.args.boxes.now c.args.reason c.requires.kinds c.requires.known c.requires.step c.args.kept.now c.loop-v.v-index (record { 0 = 0 }, Zero) c.loop-v-test.true c.args.trail.now c.loop-v.trail c.loop-v.invariant.done c.loop-v.invariant.rest

pub narrow-requires-clause-live : goal.narrow-requires-clause-live
narrow-requires-clause-live c =
    let d : VarId × Ref = (record { 0 = 0 }, Zero) in
    subst (λ (s : PoolState). IsLive (table s.arena) (slice_index_or c.args.kept.now c.loop-v.v-index d).1) (sym c.loop-v.invariant.only) (next_live c.args.p.now c.laws.ensures.narrow c.args.layout.now (table c.args.ops.now.arena) c.args.boxes.now c.args.reason c.requires.kinds c.requires.known c.requires.step c.args.kept.now c.loop-v.v-index (record { 0 = 0 }, Zero) c.loop-v-test.true c.args.trail.now c.loop-v.trail c.loop-v.invariant.done c.loop-v.invariant.rest)

pub loop-v-preserved : goal.loop-v-preserved
loop-v-preserved c = record {
  done = next_done c.args.p.now c.laws.ensures.narrow c.args.layout.now (table c.args.ops.now.arena) c.args.boxes.now c.args.reason c.requires.kinds c.requires.known c.requires.step c.args.kept.now c.loop-v.v-index (record { 0 = 0 }, Zero) c.loop-v-test.true c.args.trail.now c.loop-v.trail c.loop-v.invariant.done c.loop-v.invariant.rest c.narrow.new.self c.in_ok-narrow.ensures.narrowed;
  rest = next_rest c.args.p.now c.laws.ensures.narrow c.args.layout.now (table c.args.ops.now.arena) c.args.boxes.now c.args.reason c.requires.kinds c.requires.known c.requires.step c.args.kept.now c.loop-v.v-index (record { 0 = 0 }, Zero) c.loop-v-test.true c.args.trail.now c.loop-v.trail c.loop-v.invariant.done c.loop-v.invariant.rest c.narrow.new.self c.in_ok-narrow.ensures.narrowed;
  folded = next_folded c.args.p.now c.laws.ensures.narrow c.args.layout.now (table c.args.ops.now.arena) c.args.boxes.now c.args.reason c.requires.kinds c.requires.known c.requires.step c.args.kept.now c.loop-v.v-index (record { 0 = 0 }, Zero) c.loop-v-test.true c.args.trail.now c.loop-v.trail c.loop-v.invariant.done c.loop-v.invariant.rest c.narrow.new.self c.in_ok-narrow.ensures.narrowed c.loop-v.invariant.folded;
  moved = moves_then c.args.ops.now c.loop-v.ops c.narrow.new.ops (held c.args.trail.now) (held c.loop-v.trail) (held c.narrow.new.self) c.loop-v.invariant.moved c.narrow.ensures.moved;
  only = only_then c.args.ops.now c.loop-v.ops c.narrow.new.ops c.loop-v.invariant.only c.narrow.ensures.only;
}
