use Rattle.std.proofs.Common.{◌≡◌, ◌∙◌, subst, arith}
use Rattle.std.proofs.lemmas.Bool.{MatchBool-at_false}
use Rattle.diagram_arena.specs.Arena.{table}
use Rattle.node_reclaim.specs.Pool.{PoolState}
use Rattle.explain.specs.Scans.{Passes}
use Rattle.explain.proofs.Scanning.{scan_back, scanned_all}
use Rattle.explain.proofs.mattering.newest.Goals as goal

pub loop-at-preserved : goal.loop-at-preserved
loop-at-preserved c =
    let l = c.args.layout.now in
    let here : Passes l (table c.loop-at.ops.arena) c.args.running.now c.entry.result = MatchBool-at_false _ _ c.if-branch.false c.in_ok-matters.ensures.matters in
    let bound = c.loop-at.invariant.1 in (
      c.in_ok-matters.ensures.same ∙ c.loop-at.invariant.0,
      omega (arith, bound),
      scan_back (Passes l (table c.args.ops.now.arena) c.args.running.now) c.args.trail.now.entries c.loop-at.at c.entry.result c.loop-at-test.true
          c.entry.ensures (subst (λ (s : PoolState). Passes l (table s.arena) c.args.running.now c.entry.result) c.loop-at.invariant.0 here)
          c.loop-at.invariant.2,
    )

pub returns-clause-newest : goal.returns-clause-newest
returns-clause-newest c =
    let none : c.loop-at.at ≡ 0 = omega (arith, c.loop-at-test.false) in
    scanned_all (Passes c.args.layout.now (table c.args.ops.now.arena) c.args.running.now) c.args.trail.now.entries c.loop-at.at none c.loop-at.invariant.2
