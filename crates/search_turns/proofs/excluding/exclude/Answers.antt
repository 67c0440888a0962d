use Rattle.std.proofs.Common.{◌<◌, List, [], ◌++◌, length, sym, ap, ◌∙◌, subst}
use Rattle.diagram_arena.specs.declared.nodes.Ref.{Ref}
use Rattle.diagram_arena.specs.Arena.{table}
use Rattle.box_clauses.specs.Sides.{sets_of}
use Rattle.std.specs.Prelude.{All}
use Rattle.std.proofs.Common.{◌^◌, ◌∷◌, false, arith}
use Rattle.bit_layout.proofs.Making.{few_kinds}
use Rattle.diagram_arena.specs.Table.{IsLive}
use Rattle.node_reclaim.specs.Holders.{Gains}
use Rattle.box_clauses.specs.declared.sides.Side.{Side}
use Rattle.box_clauses.specs.Stored.{stored}
use Rattle.propagators.specs.Compiled.{AreInitialDomains}
use Rattle.running_boxes.specs.Running.{AreRunning, AreSidesOfRunning}
use Rattle.search_turns.proofs.Resuming.{domains_run, sides_live, moved_stored}
use Rattle.search_turns.proofs.excluding.exclude.Goals as goal

pub sides_of-requires-clause-few : goal.sides_of-requires-clause-few
sides_of-requires-clause-few c = subst (λ (ds : List Ref). length ds < 2 ^ 32) (sym c.domains.ensures) (subst (λ n. n < 2 ^ 32) (sym c.requires.domains.long) (let few = few_kinds c.args.layout.now.kinds c.obeys_order.ensures.limits in omega (arith, few)))

pub new-requires : goal.new-requires
new-requires c = subst (λ (ss : List Side). All (λ (s : Side). IsLive (table c.args.ops.now.arena) s.set) ss) (sym c.as_slice.ensures.value) (sides_live c.args.layout.now (table c.args.ops.now.arena) c.in_ok-sides.sides.items (subst (λ (ds : List Ref). AreSidesOfRunning c.args.layout.now (table c.args.ops.now.arena) ds c.in_ok-sides.sides.items) c.domains.ensures (c.in_ok-sides.ensures c.args.layout.now (table c.args.ops.now.arena) (subst (AreInitialDomains c.args.layout.now (table c.args.ops.now.arena)) (sym c.start.ensures) c.requires.start) (subst (AreRunning c.args.layout.now (table c.args.ops.now.arena)) (sym c.domains.ensures) (domains_run c.args.layout.now (table c.args.ops.now.arena) c.args.trail.now.domains c.requires.domains)))).ascending)

pub returns-in-Ok-clause-stored : goal.returns-in-Ok-clause-stored
returns-in-Ok-clause-stored c = record {
  newest = c.in-Ok.ensures.id;
  sides = c.in_ok-sides.sides.items;
  are = (subst (λ (ds : List Ref). AreSidesOfRunning c.args.layout.now (table c.args.ops.now.arena) ds c.in_ok-sides.sides.items) c.domains.ensures (c.in_ok-sides.ensures c.args.layout.now (table c.args.ops.now.arena) (subst (AreInitialDomains c.args.layout.now (table c.args.ops.now.arena)) (sym c.start.ensures) c.requires.start) (subst (AreRunning c.args.layout.now (table c.args.ops.now.arena)) (sym c.domains.ensures) (domains_run c.args.layout.now (table c.args.ops.now.arena) c.args.trail.now.domains c.requires.domains))));
  added = c.in-Ok.ensures.stored ∙ ap (λ (ss : List Side). c.args.boxes.now ++ stored ss 0 false ∷ []) (c.in_ok-held.ensures.sides ∙ c.as_slice.ensures.value);
}

pub returns-in-Ok-clause-moved : goal.returns-in-Ok-clause-moved
returns-in-Ok-clause-moved c = moved_stored c.args.ops.now c.new.new.ops c.store.new.ops c.args.boxes.now c.store.new.boxes c.in_ok-held.held (subst (λ (ss : List Side). Gains c.args.ops.now c.new.new.ops (sets_of ss)) (sym c.in_ok-held.ensures.sides) c.in_ok-held.ensures.gained) c.store.ensures.moved

pub returns-clause-moved : goal.returns-clause-moved
returns-clause-moved c = moved_stored c.args.ops.now c.new.new.ops c.store.new.ops c.args.boxes.now c.store.new.boxes c.in_ok-held.held (subst (λ (ss : List Side). Gains c.args.ops.now c.new.new.ops (sets_of ss)) (sym c.in_ok-held.ensures.sides) c.in_ok-held.ensures.gained) c.store.ensures.moved
