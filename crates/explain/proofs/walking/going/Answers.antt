use Rattle.explain.proofs.walking.going.Goals as goal

pub returns : goal.returns
returns c = record {
  passed = c.walks_follow_undone_trails.ensures.passed c.args.p.now;
  resolved = c.walks_follow_undone_trails.ensures.resolved c.args.p.now;
  entries = c.undone_trails_read_back.ensures.entries;
  trail = c.undone_trails_read_back.ensures.trail c.args.p.now;
  itself = c.partly_undone_trails_go_back_alike.ensures.itself;
  further = c.partly_undone_trails_go_back_alike.ensures.further c.args.p.now;
  one = c.passing_changes_nothing.ensures.one;
  none = c.passing_changes_nothing.ensures.none;
  no_decision = c.walk_resolves_no_decision.ensures;
}
