use Rattle.std.proofs.Common.{◌≡◌, ◌≤◌, inl, inr, subst, arith}
use Rattle.plain_search.specs.Moves.{IsStanding}
use Rattle.plain_search.proofs.StandingLemmas.{none_only, only_higher, only_above, above_only}
use Rattle.plain_search.specs.declared.standing.Standing.{Standing}
use Rattle.plain_search.proofs.standing.with_entry.Goals as goal

pub returns-in-Nowhere : goal.returns-in-Nowhere
returns-in-Nowhere c es b e level var matters standing = (
  inl (level, var, matters),
  (
    inr (inr (level, var)),
    none_only es b c.args.level c.args.var
        (subst (λ (s : Standing). IsStanding es b s) c.in-Nowhere.is standing),
  ),
)

pub returns-then-level-highest : goal.returns-then-level-highest
returns-then-level-highest c es b e level var matters standing =
    let found = subst (λ (s : Standing). IsStanding es b s) c.in-One.is standing in (
      inl (level, var, matters),
      (inr (inr (level, var)), only_higher es b c.in-One.highest c.in-One.one c.args.level c.args.var c.if-level-highest.true found.1),
    )

pub returns-else-var-one : goal.returns-else-var-one
returns-else-var-one c es b e level var matters standing =
    let found = subst (λ (s : Standing). IsStanding es b s) c.in-One.is standing in
    let low : c.in-One.highest ≤ c.args.level = c.if-var-one.false.0 in
    let high : c.args.level ≤ c.in-One.highest = c.if-level-highest.false in
    let same : e.level ≡ c.in-One.highest = omega arith in
    record {
      one = c.args.var;
      other = c.in-One.one;
      apart = c.if-var-one.false.1;
      one_matters = inl (same, var, matters);
      other_matters = inr found.0;
      highest = (inr (omega arith), only_above es b c.in-One.highest c.in-One.one found.1);
    }

pub returns-then-level-highest-3 : goal.returns-then-level-highest-3
returns-then-level-highest-3 c es b e level var matters standing =
    let found = subst (λ (s : Standing). IsStanding es b s) c.in-Several.is standing in (
      inl (level, var, matters),
      (inr (inr (level, var)), above_only es b c.in-Several.highest c.args.level c.args.var c.if-level-highest-3.true found.highest),
    )
