use Rattle.std.proofs.Common.{◌≡◌, List, sym, ◌∙◌, subst}
use Rattle.std.specs.List.{All}
use Rattle.std.proofs.lemmas.Result.{IfOk-weaker}
use Rattle.std.proofs.lemmas.List.Elements.{All-weaker}
use Rattle.diagram_arena.specs.Table.{IsLive}
use Rattle.diagram_arena.specs.Arena.{table}
use Rattle.box_clauses.specs.declared.sides.Side.{Side}
use Rattle.box_clauses.specs.Boxes.{IsSide}
use Rattle.running_boxes.specs.Running.{AreSidesOfRunning}
use Rattle.explain.proofs.StillPinned.{few_running}
use Rattle.explain.proofs.holding.hold_sides.Goals as goal

pub sides_of-requires-clause-few : goal.sides_of-requires-clause-few
sides_of-requires-clause-few c = few_running c.args.layout.now (table c.args.ops.now.arena) c.args.running.now c.obeys_order.ensures c.requires.running

pub new-requires : goal.new-requires
new-requires c =
    let t = table c.args.ops.now.arena in
    let of = c.in_ok-sides.ensures c.args.layout.now t c.requires.start c.requires.running in
    subst (λ (ss : List Side). All (λ (s : Side). IsLive t s.set) ss) (sym c.as_slice.ensures.value)
    (All-weaker (IsSide c.args.layout.now t) (λ (s : Side). IsLive t s.set) (λ s is. is.set.live) c.in_ok-sides.sides.items of.ascending.each)

pub returns-clause-sides : goal.returns-clause-sides
returns-clause-sides c =
    let t = table c.args.ops.now.arena in
    let of = c.in_ok-sides.ensures c.args.layout.now t c.requires.start c.requires.running in
    IfOk-weaker c.new.result (λ held. held ≡ c.as_slice.result.now) (AreSidesOfRunning c.args.layout.now t c.args.running.now)
    (λ held e. subst (AreSidesOfRunning c.args.layout.now t c.args.running.now) (sym c.as_slice.ensures.value ∙ sym e) of) c.new.ensures.sides
