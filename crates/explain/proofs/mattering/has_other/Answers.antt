use Rattle.std.proofs.Common.{◌≡◌, ◌-◌, ◌∙◌, take, sym, subst, arith}
use Rattle.std.specs.List.{All, Any}
use Rattle.std.proofs.lemmas.Bool.{MatchBool-at_false, MatchBool-at_true}
use Rattle.std.proofs.lemmas.Option.{same_Some}
use Rattle.diagram_arena.specs.Arena.{table}
use Rattle.node_reclaim.specs.Pool.{PoolState}
use Rattle.domain_trail.specs.declared.entries.Entry.{Entry}
use Rattle.explain.specs.Scans.{IsOld, MattersOf, PassesOrIs, IsNoOther, IsOther}
use Rattle.explain.proofs.Scanning.{scan_goes_on, scan_finds, scan_stops, old_at}
use Rattle.explain.proofs.mattering.has_other.Goals as goal

pub is_other-requires-clause-entry : goal.is_other-requires-clause-entry
is_other-requires-clause-entry c =
    subst (λ (s : PoolState). IsOld c.args.layout.now (table s.arena) c.entry-entry.result) (sym c.loop-at.invariant.0)
    (old_at (IsOld c.args.layout.now (table c.args.ops.now.arena)) c.args.trail.now.entries (c.loop-at.at - 1) c.entry-entry.result c.entry-entry.ensures c.requires.entries)

pub loop-at-preserved : goal.loop-at-preserved
loop-at-preserved c =
    let l = c.args.layout.now in
    let running = c.args.running.now in
    let now : Entry = c.entry-newest.result in
    let e : Entry = c.entry-entry.result in
    let here : PassesOrIs l (table c.loop-at.ops.arena) running now.var e = MatchBool-at_false _ _ c.if-branch.false c.in_ok-is_other.ensures.other in
    let bound = c.loop-at.invariant.1 in (
      c.in_ok-is_other.ensures.same ∙ c.loop-at.invariant.0,
      omega (arith, bound),
      scan_goes_on l (table c.args.ops.now.arena) running c.args.trail.now.entries c.requires.levels c.args.place now c.entry-newest.ensures
          c.loop-at.at e c.loop-at-test.true bound c.entry-entry.ensures
          (subst (λ (s : PoolState). PassesOrIs l (table s.arena) running now.var e) c.loop-at.invariant.0 here) c.loop-at.invariant.2,
    )

pub returns-then-entry-newest-clause-other : goal.returns-then-entry-newest-clause-other
returns-then-entry-newest-clause-other c x is =
    let l = c.args.layout.now in
    let t = table c.args.ops.now.arena in
    let running = c.args.running.now in
    let entries = c.args.trail.now.entries in
    let now : Entry = c.entry-newest.result in
    let same : now ≡ x = same_Some now x (sym c.entry-newest.ensures ∙ is) in
    subst (λ (y : Entry). All (IsNoOther l t running y.level y.var) (take c.args.place entries)) same
    (scan_stops l t running entries c.requires.levels c.args.place now c.entry-newest.ensures
    c.loop-at.at c.entry-entry.result c.loop-at-test.true c.loop-at.invariant.1 c.entry-entry.ensures c.if-entry-newest.true c.loop-at.invariant.2)

pub returns-then-branch-clause-other : goal.returns-then-branch-clause-other
returns-then-branch-clause-other c x is =
    let l = c.args.layout.now in
    let t = table c.args.ops.now.arena in
    let running = c.args.running.now in
    let entries = c.args.trail.now.entries in
    let now : Entry = c.entry-newest.result in
    let e : Entry = c.entry-entry.result in
    let same : now ≡ x = same_Some now x (sym c.entry-newest.ensures ∙ is) in
    let found : MattersOf l (table c.loop-at.ops.arena) running now.var e = MatchBool-at_true _ _ c.if-branch.true c.in_ok-is_other.ensures.other in
    let here : MattersOf l t running now.var e = subst (λ (s : PoolState). MattersOf l (table s.arena) running now.var e) c.loop-at.invariant.0 found in
    subst (λ (y : Entry). Any (IsOther l t running y.level y.var) (take c.args.place entries)) same
    (scan_finds l t running entries c.requires.levels c.args.place now c.entry-newest.ensures
    c.loop-at.at e c.loop-at-test.true c.loop-at.invariant.1 c.entry-entry.ensures c.if-entry-newest.false here)
