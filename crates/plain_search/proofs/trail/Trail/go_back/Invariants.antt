use Rattle.std.proofs.Common.{◌≡◌, length}
use Rattle.std.specs.List.{All}
use Rattle.search_rules.specs.Trail.{back, cut}
use Rattle.plain_steps.specs.Sets.{family}
use Rattle.plain_search.specs.State.{entries_of, Fits}
use Rattle.plain_search.proofs.trail.Trail.go_back.Given as goal

abbrev pub invariant-loop-self : goal.invariant-loop-self
invariant-loop-self l =
    record {
      entries : cut l.level (entries_of l.self.changes.items) ≡ cut l.level (entries_of l.fn.self.changes.items);
      family_is : back l.level (entries_of l.self.changes.items) (family l.self.domains.items)
          ≡ back l.level (entries_of l.fn.self.changes.items) (family l.fn.self.domains.items);
      sets : length l.self.domains.items ≡ length l.fn.self.domains.items;
      fit : All (Fits (length l.fn.self.domains.items)) l.self.changes.items;
    }

abbrev pub decreases-loop-self : goal.decreases-loop-self
decreases-loop-self l = length l.self.changes.items
