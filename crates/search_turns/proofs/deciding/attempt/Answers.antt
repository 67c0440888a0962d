use Rattle.std.proofs.Common.{List, length, ap, subst}
use Rattle.std.specs.Prelude.{IfNone, IfSome}
use Rattle.diagram_arena.specs.declared.nodes.Ref.{Ref}
use Rattle.diagram_arena.specs.Arena.{table}
use Rattle.node_reclaim.specs.Pool.{PoolState}
use Rattle.domain_trail.specs.Trail.{held}
use Rattle.node_reclaim.specs.Growth.{NewAre}
use Rattle.exact_steps.specs.Domains.{family}
use Rattle.branching.specs.Decisions.{HaveOneValueBelow, IsDecided, IsPartOfDecision}
use Rattle.running_boxes.specs.Nodes.{IsOfVariable}
use Rattle.search_turns.proofs.Units.{try_leaves, try_keeps, pinned_leaves, pinned_keeps}
use Rattle.search_turns.proofs.Decisions.{news_of_decision, none_open, opened}
use Rattle.search_turns.proofs.deciding.attempt.Goals as goal

pub returns-in-Ok-None-clause-left : goal.returns-in-Ok-None-clause-left
returns-in-Ok-None-clause-left c = try_leaves (IsOfVariable c.args.layout.now) c.args.ops.now c.decision.new.ops (held c.args.trail.now) c.pool.ensures.pinned_live c.decision.ensures.stays (news_of_decision c.args.layout.now (table c.args.ops.now.arena) (table c.decision.new.ops.arena) c.args.trail.now.domains (subst (λ (ds : List Ref). NewAre (table c.args.ops.now.arena) (table c.decision.new.ops.arena) (IsPartOfDecision c.args.layout.now (table c.args.ops.now.arena) ds)) c.domains.ensures c.decision.ensures.parts))

pub returns-in-Ok-None-clause-kept : goal.returns-in-Ok-None-clause-kept
returns-in-Ok-None-clause-kept c = try_keeps (IsOfVariable c.args.layout.now) c.args.ops.now c.decision.new.ops (held c.args.trail.now) c.pool.ensures.pinned_live c.decision.ensures.stays (news_of_decision c.args.layout.now (table c.args.ops.now.arena) (table c.decision.new.ops.arena) c.args.trail.now.domains (subst (λ (ds : List Ref). NewAre (table c.args.ops.now.arena) (table c.decision.new.ops.arena) (IsPartOfDecision c.args.layout.now (table c.args.ops.now.arena) ds)) c.domains.ensures c.decision.ensures.parts))

pub returns-in-Err-clause-left : goal.returns-in-Err-clause-left
returns-in-Err-clause-left c = try_leaves (IsOfVariable c.args.layout.now) c.args.ops.now c.decision.new.ops (held c.args.trail.now) c.pool.ensures.pinned_live c.decision.ensures.stays (news_of_decision c.args.layout.now (table c.args.ops.now.arena) (table c.decision.new.ops.arena) c.args.trail.now.domains (subst (λ (ds : List Ref). NewAre (table c.args.ops.now.arena) (table c.decision.new.ops.arena) (IsPartOfDecision c.args.layout.now (table c.args.ops.now.arena) ds)) c.domains.ensures c.decision.ensures.parts))

pub returns-in-Err-clause-kept : goal.returns-in-Err-clause-kept
returns-in-Err-clause-kept c = try_keeps (IsOfVariable c.args.layout.now) c.args.ops.now c.decision.new.ops (held c.args.trail.now) c.pool.ensures.pinned_live c.decision.ensures.stays (news_of_decision c.args.layout.now (table c.args.ops.now.arena) (table c.decision.new.ops.arena) c.args.trail.now.domains (subst (λ (ds : List Ref). NewAre (table c.args.ops.now.arena) (table c.decision.new.ops.arena) (IsPartOfDecision c.args.layout.now (table c.args.ops.now.arena) ds)) c.domains.ensures c.decision.ensures.parts))

pub returns-in_err-open-in-Ok-Some-clause-left : goal.returns-in_err-open-in-Ok-Some-clause-left
returns-in_err-open-in-Ok-Some-clause-left c = pinned_leaves (IsOfVariable c.args.layout.now) c.args.ops.now c.decision.new.ops (held c.args.trail.now) c.pool.ensures.pinned_live c.decision.ensures.stays (news_of_decision c.args.layout.now (table c.args.ops.now.arena) (table c.decision.new.ops.arena) c.args.trail.now.domains (subst (λ (ds : List Ref). NewAre (table c.args.ops.now.arena) (table c.decision.new.ops.arena) (IsPartOfDecision c.args.layout.now (table c.args.ops.now.arena) ds)) c.domains.ensures c.decision.ensures.parts)) c.open.new.ops (held c.open.new.trail) (ap (λ (s : PoolState). s.arena) c.open.ensures.only) c.open.ensures.moved

pub returns-in_err-open-in-Ok-Some-clause-kept : goal.returns-in_err-open-in-Ok-Some-clause-kept
returns-in_err-open-in-Ok-Some-clause-kept c = pinned_keeps (IsOfVariable c.args.layout.now) c.args.ops.now c.decision.new.ops (held c.args.trail.now) c.pool.ensures.pinned_live c.decision.ensures.stays (news_of_decision c.args.layout.now (table c.args.ops.now.arena) (table c.decision.new.ops.arena) c.args.trail.now.domains (subst (λ (ds : List Ref). NewAre (table c.args.ops.now.arena) (table c.decision.new.ops.arena) (IsPartOfDecision c.args.layout.now (table c.args.ops.now.arena) ds)) c.domains.ensures c.decision.ensures.parts)) c.open.new.ops (held c.open.new.trail) (ap (λ (s : PoolState). s.arena) c.open.ensures.only) c.open.ensures.moved

pub returns-in_ok-open-in-Ok-Some-clause-left : goal.returns-in_ok-open-in-Ok-Some-clause-left
returns-in_ok-open-in-Ok-Some-clause-left c = pinned_leaves (IsOfVariable c.args.layout.now) c.args.ops.now c.decision.new.ops (held c.args.trail.now) c.pool.ensures.pinned_live c.decision.ensures.stays (news_of_decision c.args.layout.now (table c.args.ops.now.arena) (table c.decision.new.ops.arena) c.args.trail.now.domains (subst (λ (ds : List Ref). NewAre (table c.args.ops.now.arena) (table c.decision.new.ops.arena) (IsPartOfDecision c.args.layout.now (table c.args.ops.now.arena) ds)) c.domains.ensures c.decision.ensures.parts)) c.open.new.ops (held c.open.new.trail) (ap (λ (s : PoolState). s.arena) c.open.ensures.only) c.open.ensures.moved

pub returns-in_ok-open-in-Ok-Some-clause-kept : goal.returns-in_ok-open-in-Ok-Some-clause-kept
returns-in_ok-open-in-Ok-Some-clause-kept c = pinned_keeps (IsOfVariable c.args.layout.now) c.args.ops.now c.decision.new.ops (held c.args.trail.now) c.pool.ensures.pinned_live c.decision.ensures.stays (news_of_decision c.args.layout.now (table c.args.ops.now.arena) (table c.decision.new.ops.arena) c.args.trail.now.domains (subst (λ (ds : List Ref). NewAre (table c.args.ops.now.arena) (table c.decision.new.ops.arena) (IsPartOfDecision c.args.layout.now (table c.args.ops.now.arena) ds)) c.domains.ensures c.decision.ensures.parts)) c.open.new.ops (held c.open.new.trail) (ap (λ (s : PoolState). s.arena) c.open.ensures.only) c.open.ensures.moved

pub returns-in-Ok-None-clause-taken : goal.returns-in-Ok-None-clause-taken
returns-in-Ok-None-clause-taken c = none_open c.laws.ensures c.args.layout.now c.args.ops.now c.decision.new.ops c.args.trail.now c.requires.ready (try_keeps (IsOfVariable c.args.layout.now) c.args.ops.now c.decision.new.ops (held c.args.trail.now) c.pool.ensures.pinned_live c.decision.ensures.stays (news_of_decision c.args.layout.now (table c.args.ops.now.arena) (table c.decision.new.ops.arena) c.args.trail.now.domains (subst (λ (ds : List Ref). NewAre (table c.args.ops.now.arena) (table c.decision.new.ops.arena) (IsPartOfDecision c.args.layout.now (table c.args.ops.now.arena) ds)) c.domains.ensures c.decision.ensures.parts))) (subst (λ (ds : List Ref). HaveOneValueBelow (length c.args.layout.now.kinds) (family c.args.layout.now (table c.args.ops.now.arena) ds)) c.domains.ensures (subst (λ o. IfNone o (HaveOneValueBelow (length c.args.layout.now.kinds) (family c.args.layout.now (table c.args.ops.now.arena) c.domains.result.now))) c.in-Ok-None.field-0-is c.in-Ok-None.ensures.none))

pub returns-in_ok-open-in-Ok-Some-clause-taken : goal.returns-in_ok-open-in-Ok-Some-clause-taken
returns-in_ok-open-in-Ok-Some-clause-taken c = opened c.laws.ensures c.args.layout.now c.args.ops.now c.decision.new.ops c.args.trail.now c.requires.ready (try_keeps (IsOfVariable c.args.layout.now) c.args.ops.now c.decision.new.ops (held c.args.trail.now) c.pool.ensures.pinned_live c.decision.ensures.stays (news_of_decision c.args.layout.now (table c.args.ops.now.arena) (table c.decision.new.ops.arena) c.args.trail.now.domains (subst (λ (ds : List Ref). NewAre (table c.args.ops.now.arena) (table c.decision.new.ops.arena) (IsPartOfDecision c.args.layout.now (table c.args.ops.now.arena) ds)) c.domains.ensures c.decision.ensures.parts))) c.open.new.ops c.in-Ok-Some.v c.in-Ok-Some.to c.open.new.trail (ap (λ (s : PoolState). s.arena) c.open.ensures.only) (subst (λ (ds : List Ref). IsDecided c.args.layout.now (table c.args.ops.now.arena) (table c.decision.new.ops.arena) ds 0 c.in-Ok-Some.v c.in-Ok-Some.to) c.domains.ensures (subst (λ o. IfSome o (λ d. IsDecided c.args.layout.now (table c.args.ops.now.arena) (table c.decision.new.ops.arena) c.domains.result.now 0 d.0 d.1)) c.in-Ok-Some.field-0-is c.in-Ok-Some.ensures.decided)) c.in_ok-open-in-Ok-Some.ensures.opened
