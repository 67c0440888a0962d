use Rattle.std.proofs.Common.{◌∙◌, sym, subst}
use Rattle.diagram_arena.specs.Arena.{table}
use Rattle.propagators.specs.Work.{AreFirstDomains, LeavesUnits}
use Rattle.propagators.proofs.Holding.{domains_units, constraints_units, compiled_start}
use Rattle.node_reclaim.specs.Holders.{AreHeld}
use Rattle.propagators.proofs.Reaching.{held_there}
use Rattle.propagators.proofs.units.compile.Goals as goal

pub returns-in_err-start-clause-held : goal.returns-in_err-start-clause-held
returns-in_err-start-clause-held c = domains_units c.args.layout.now c.args.p.now c.args.ops.now c.domains.new.ops c.domains.new.pins c.domains.ensures.done c.domains.ensures.left

pub constraints-requires-clause-domains : goal.constraints-requires-clause-domains
constraints-requires-clause-domains c =
    subst (AreFirstDomains c.args.layout.now c.args.p.now (table c.domains.new.ops.arena)) (c.in_ok-start.ensures.pinned ∙ sym c.as_slice.ensures.value) c.domains.ensures.done

pub constraints-requires-clause-pinned : goal.constraints-requires-clause-pinned
constraints-requires-clause-pinned c = c.in_ok-start.ensures.pinned ∙ sym c.as_slice.ensures.value

pub constraints-requires-clause-held : goal.constraints-requires-clause-held
constraints-requires-clause-held c =
    subst (AreHeld c.domains.new.ops) (c.in_ok-start.ensures.pinned ∙ sym c.as_slice.ensures.value) (held_there c.args.layout.now c.args.p.now c.args.ops.now c.domains.new.ops c.domains.new.pins c.domains.ensures.left)

pub returns-in_err-scopes-clause-held : goal.returns-in_err-scopes-clause-held
returns-in_err-scopes-clause-held c =
    constraints_units c.args.layout.now c.args.p.now c.args.ops.now c.domains.new.ops c.constraints.new.ops c.as_slice.result.now c.constraints.new.pins
    (subst (LeavesUnits c.args.layout.now c.args.p.now c.args.ops.now c.domains.new.ops) (c.in_ok-start.ensures.pinned ∙ sym c.as_slice.ensures.value) c.domains.ensures.left) c.constraints.ensures.held

pub returns-clause-held : goal.returns-clause-held
returns-clause-held c =
    constraints_units c.args.layout.now c.args.p.now c.args.ops.now c.domains.new.ops c.constraints.new.ops c.as_slice.result.now c.constraints.new.pins
    (subst (LeavesUnits c.args.layout.now c.args.p.now c.args.ops.now c.domains.new.ops) (c.in_ok-start.ensures.pinned ∙ sym c.as_slice.ensures.value) c.domains.ensures.left) c.constraints.ensures.held

pub returns-clause-start : goal.returns-clause-start
returns-clause-start c =
    compiled_start c.args.layout.now c.args.p.now (table c.constraints.new.ops.arena) c.as_slice.result.now c.in_ok-start.start.items _ c.as_slice.ensures.value c.requires.layout c.in_ok-start.ensures.long c.constraints.ensures.held.done
