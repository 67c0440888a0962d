use Rattle.std.proofs.Common.{◌++◌, Err, sym, ap, ◌∙◌, subst}
use Rattle.std.proofs.lemmas.Result.{IfOk-weaker}
use Rattle.diagram_arena.specs.declared.nodes.Stop.{Stop}
use Rattle.diagram_arena.specs.Arena.{table}
use Rattle.node_reclaim.specs.Pool.{PoolState}
use Rattle.node_reclaim.specs.Holders.{AreHeld}
use Rattle.pin_lists.proofs.Leaving.{units_begun}
use Rattle.propagators.specs.Compiled.{pinned_by, IsCompiled}
use Rattle.learn_search.specs.Nodes.{IsOfRoot}
use Rattle.learn_search.specs.Way.{IsOnWay, IsTaken}
use Rattle.learn_search.proofs.Keeping.{taken_from, compiled_again, way_again, family_again, way_stopped, after_again}
use Rattle.learn_search.proofs.narrowing.take.Goals as goal

pub attempt-requires-clause-compiled : goal.attempt-requires-clause-compiled
attempt-requires-clause-compiled c = subst (λ (s : PoolState). IsCompiled c.args.layout.now c.args.p.now (table s.arena) c.args.compiled.now) (sym c.begin_unit.ensures.only) c.requires.compiled

pub attempt-requires-clause-way : goal.attempt-requires-clause-way
attempt-requires-clause-way c = subst (λ (s : PoolState). IsOnWay c.args.p.now c.args.layout.now (table s.arena) c.args.domains.now) (sym c.begin_unit.ensures.only) c.requires.way

pub attempt-requires-clause-held : goal.attempt-requires-clause-held
attempt-requires-clause-held c = subst (λ (s : PoolState). AreHeld s (pinned_by c.args.compiled.now ++ c.args.domains.now)) (sym c.begin_unit.ensures.only) c.requires.held

pub returns-in-Ok-clause-left : goal.returns-in-Ok-clause-left
returns-in-Ok-clause-left c = units_begun (IsOfRoot c.args.p.now) c.args.ops.now c.begin_unit.new.self c.attempt.new.ops c.args.domains.now c.attempt.new.domains c.begin_unit.ensures.only c.attempt.ensures.left

pub returns-in-Err-Memory-clause-left : goal.returns-in-Err-Memory-clause-left
returns-in-Err-Memory-clause-left c = units_begun (IsOfRoot c.args.p.now) c.args.ops.now c.begin_unit.new.self c.attempt.new.ops c.args.domains.now c.attempt.new.domains c.begin_unit.ensures.only c.attempt.ensures.left

pub attempt-requires-in-Err-Full-clause-compiled : goal.attempt-requires-in-Err-Full-clause-compiled
attempt-requires-in-Err-Full-clause-compiled c = compiled_again (IsOfRoot c.args.p.now) c.args.ops.now c.begin_unit.new.self c.attempt.new.ops c.collect.new.ops c.begin_unit-in-Err-Full.new.self c.begin_unit.ensures.only (c.attempt.ensures.refused (c.in-Err-Full.is ∙ ap (λ (s : Stop). Err s) c.in-Err-Full.field-0-is)).1 c.collect.ensures c.begin_unit-in-Err-Full.ensures.only c.args.p.now c.args.layout.now c.args.compiled.now c.args.domains.now c.requires.held c.requires.compiled

pub attempt-requires-in-Err-Full-clause-way : goal.attempt-requires-in-Err-Full-clause-way
attempt-requires-in-Err-Full-clause-way c = way_again (IsOfRoot c.args.p.now) c.args.ops.now c.begin_unit.new.self c.attempt.new.ops c.collect.new.ops c.begin_unit-in-Err-Full.new.self c.begin_unit.ensures.only (c.attempt.ensures.refused (c.in-Err-Full.is ∙ ap (λ (s : Stop). Err s) c.in-Err-Full.field-0-is)).1 c.collect.ensures c.begin_unit-in-Err-Full.ensures.only c.args.p.now c.args.layout.now c.args.compiled.now c.args.domains.now c.requires.held c.attempt.new.domains (c.attempt.ensures.refused (c.in-Err-Full.is ∙ ap (λ (s : Stop). Err s) c.in-Err-Full.field-0-is)).0 c.requires.way

pub returns-in-Err-Full-clause-taken : goal.returns-in-Err-Full-clause-taken
returns-in-Err-Full-clause-taken c =
    IfOk-weaker c.attempt-in-Err-Full.result
    (IsTaken c.args.p.now c.args.layout.now (table c.begin_unit-in-Err-Full.new.self.arena) (table c.attempt-in-Err-Full.new.ops.arena) c.args.c.0 c.attempt.new.domains c.attempt-in-Err-Full.new.domains)
    (IsTaken c.args.p.now c.args.layout.now (table c.args.ops.now.arena) (table c.attempt-in-Err-Full.new.ops.arena) c.args.c.0 c.args.domains.now c.attempt-in-Err-Full.new.domains)
    (λ r h. taken_from c.args.p.now c.args.layout.now (table c.args.ops.now.arena) (table c.begin_unit-in-Err-Full.new.self.arena) (table c.attempt-in-Err-Full.new.ops.arena) c.args.c.0 c.args.domains.now c.attempt-in-Err-Full.new.domains r
    (family_again (IsOfRoot c.args.p.now) c.args.ops.now c.begin_unit.new.self c.attempt.new.ops c.collect.new.ops c.begin_unit-in-Err-Full.new.self c.begin_unit.ensures.only (c.attempt.ensures.refused (c.in-Err-Full.is ∙ ap (λ (s : Stop). Err s) c.in-Err-Full.field-0-is)).1 c.collect.ensures c.begin_unit-in-Err-Full.ensures.only c.args.p.now c.args.layout.now c.args.compiled.now c.args.domains.now c.requires.held)
    (subst (λ ds. IsTaken c.args.p.now c.args.layout.now (table c.begin_unit-in-Err-Full.new.self.arena) (table c.attempt-in-Err-Full.new.ops.arena) c.args.c.0 ds c.attempt-in-Err-Full.new.domains r) (c.attempt.ensures.refused (c.in-Err-Full.is ∙ ap (λ (s : Stop). Err s) c.in-Err-Full.field-0-is)).0 h))
    c.attempt-in-Err-Full.ensures.taken

pub returns-in-Err-Full-clause-left : goal.returns-in-Err-Full-clause-left
returns-in-Err-Full-clause-left c = after_again (IsOfRoot c.args.p.now) c.args.ops.now c.begin_unit.new.self c.attempt.new.ops c.collect.new.ops c.begin_unit-in-Err-Full.new.self c.begin_unit.ensures.only (c.attempt.ensures.refused (c.in-Err-Full.is ∙ ap (λ (s : Stop). Err s) c.in-Err-Full.field-0-is)).1 c.collect.ensures c.begin_unit-in-Err-Full.ensures.only c.attempt-in-Err-Full.new.ops c.args.domains.now c.attempt.new.domains c.attempt-in-Err-Full.new.domains (c.attempt.ensures.refused (c.in-Err-Full.is ∙ ap (λ (s : Stop). Err s) c.in-Err-Full.field-0-is)).0 c.attempt-in-Err-Full.ensures.left

pub returns-in-Err-Full-clause-stopped : goal.returns-in-Err-Full-clause-stopped
returns-in-Err-Full-clause-stopped c e =
    let second = c.attempt-in-Err-Full.ensures.refused e in
    let way = way_stopped (IsOfRoot c.args.p.now) c.args.ops.now c.begin_unit.new.self c.attempt.new.ops c.collect.new.ops c.begin_unit-in-Err-Full.new.self c.begin_unit.ensures.only (c.attempt.ensures.refused (c.in-Err-Full.is ∙ ap (λ (s : Stop). Err s) c.in-Err-Full.field-0-is)).1 c.collect.ensures c.begin_unit-in-Err-Full.ensures.only c.args.p.now c.args.layout.now c.args.compiled.now c.args.domains.now c.requires.held c.attempt-in-Err-Full.new.ops c.attempt.new.domains c.attempt-in-Err-Full.new.domains (c.attempt.ensures.refused (c.in-Err-Full.is ∙ ap (λ (s : Stop). Err s) c.in-Err-Full.field-0-is)).0 second.0 second.1 c.requires.way in
    record { each = way.domains_are.each }
