use Rattle.std.proofs.Common.{◌≡◌, ℕ, Bool, ◌+◌, List, ◌++◌, map, drop, slice_index_or, sym, subst}
use Rattle.std.proofs.lemmas.List.{get_or_default}
use Rattle.diagram_ops.proofs.Steps.{stays_then}
use Rattle.set_meaning.specs.declared.kinds.Value.{Value}
use Rattle.diagram_arena.specs.declared.nodes.Ref.TheVariants.{Zero}
use Rattle.diagram_arena.specs.Arena.{table}
use Rattle.std.specs.List.{All}
use Rattle.search_rules.specs.Box.{resolvent}
use Rattle.exact_steps.specs.Domains.{family}
use Rattle.box_clauses.specs.declared.sides.Side.{Side}
use Rattle.running_boxes.specs.Work.{var_of, IsSideOf}
use Rattle.running_boxes.proofs.Moving.{running_grows}
use Rattle.running_boxes.proofs.OneSide.{start_grows}
use Rattle.running_boxes.proofs.Looping.{next_each, next_variables, next_made}
use Rattle.running_boxes.proofs.resolving.resolved_sides.Goals as goal

pub resolved_side-requires-clause-start : goal.resolved_side-requires-clause-start
resolved_side-requires-clause-start c = start_grows c.laws.ensures c.args.layout.now (table c.args.ops.now.arena) (table c.loop-side.ops.arena) c.args.start.now c.loop-side.invariant.stays.grows c.requires.start

pub resolved_side-requires-clause-running : goal.resolved_side-requires-clause-running
resolved_side-requires-clause-running c = running_grows c.laws.ensures c.args.layout.now (table c.args.ops.now.arena) (table c.loop-side.ops.arena) c.args.running.now c.loop-side.invariant.stays.grows c.requires.running

pub returns-in_err-changed-clause-made : goal.returns-in_err-changed-clause-made
returns-in_err-changed-clause-made c =
    let d : Side = record { var = record { 0 = 0 }; set = Zero } in
    let s : Side = slice_index_or c.args.sides.now c.loop-side.side-index d in
    next_made c.laws.ensures c.args.layout.now (table c.args.ops.now.arena) (table c.loop-side.ops.arena) (table c.resolved_side.new.ops.arena) c.args.running.now c.args.v c.args.sides.now c.requires.running c.requires.sides
    c.loop-side.invariant.stays.grows c.resolved_side.ensures.stays.grows c.loop-side.side-index c.loop-side-test.true s (get_or_default c.args.sides.now c.loop-side.side-index s d c.loop-side-test.true)
    c.loop-side.invariant.made c.resolved_side.ensures.made

pub returns-in_err-append-clause-made : goal.returns-in_err-append-clause-made
returns-in_err-append-clause-made c =
    let d : Side = record { var = record { 0 = 0 }; set = Zero } in
    let s : Side = slice_index_or c.args.sides.now c.loop-side.side-index d in
    next_made c.laws.ensures c.args.layout.now (table c.args.ops.now.arena) (table c.loop-side.ops.arena) (table c.resolved_side.new.ops.arena) c.args.running.now c.args.v c.args.sides.now c.requires.running c.requires.sides
    c.loop-side.invariant.stays.grows c.resolved_side.ensures.stays.grows c.loop-side.side-index c.loop-side-test.true s (get_or_default c.args.sides.now c.loop-side.side-index s d c.loop-side-test.true)
    c.loop-side.invariant.made c.resolved_side.ensures.made

pub loop-side-preserved : goal.loop-side-preserved
loop-side-preserved c =
    let d : Side = record { var = record { 0 = 0 }; set = Zero } in
    let s : Side = slice_index_or c.args.sides.now c.loop-side.side-index d in
    let at : slice_index_or c.args.sides.now c.loop-side.side-index s ≡ s = get_or_default c.args.sides.now c.loop-side.side-index s d c.loop-side-test.true in
    record {
      stays = stays_then c.args.ops.now c.loop-side.ops c.resolved_side.new.ops c.loop-side.invariant.stays c.resolved_side.ensures.stays;
      variables = subst (λ (xs : List Side). map var_of xs ++ map var_of (drop (c.loop-side.side-index + 1) c.args.sides.now) ≡ map var_of c.args.sides.now) (sym c.in_ok-append.ensures)
          (next_variables c.laws.ensures c.args.layout.now (table c.args.ops.now.arena) (table c.loop-side.ops.arena) (table c.resolved_side.new.ops.arena) c.args.running.now c.args.v c.args.sides.now c.requires.running c.requires.sides
          c.loop-side.invariant.stays.grows c.resolved_side.ensures.stays.grows c.loop-side.side-index c.loop-side-test.true s at
          c.loop-side.resolved.items c.in_ok-changed.changed c.in_ok-changed.ensures.side.same c.loop-side.invariant.variables);
      each = subst (λ (xs : List Side). (b : ℕ → Value → Bool) → All (IsSideOf c.args.layout.now (table c.args.ops.now.arena) b) c.args.sides.now
          → All (IsSideOf c.args.layout.now (table c.resolved_side.new.ops.arena) (resolvent (family c.args.layout.now (table c.args.ops.now.arena) c.args.running.now) b c.args.v.0)) xs) (sym c.in_ok-append.ensures)
          (next_each c.laws.ensures c.args.layout.now (table c.args.ops.now.arena) (table c.loop-side.ops.arena) (table c.resolved_side.new.ops.arena) c.args.running.now c.args.v c.args.sides.now c.requires.running c.requires.sides
          c.loop-side.invariant.stays.grows c.resolved_side.ensures.stays.grows c.loop-side.side-index c.loop-side-test.true s at
          c.loop-side.resolved.items c.in_ok-changed.changed c.in_ok-changed.ensures.side c.loop-side.invariant.each);
      made = next_made c.laws.ensures c.args.layout.now (table c.args.ops.now.arena) (table c.loop-side.ops.arena) (table c.resolved_side.new.ops.arena) c.args.running.now c.args.v c.args.sides.now c.requires.running c.requires.sides
          c.loop-side.invariant.stays.grows c.resolved_side.ensures.stays.grows c.loop-side.side-index c.loop-side-test.true s at c.loop-side.invariant.made c.resolved_side.ensures.made;
    }
