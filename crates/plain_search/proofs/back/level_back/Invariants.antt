use Rattle.std.proofs.Common.{take}
use Rattle.search_rules.specs.Walk.{IsNewestOther}
use Rattle.plain_steps.specs.Sets.{family}
use Rattle.plain_search.specs.State.{entries_of}
use Rattle.plain_search.proofs.back.level_back.Given as goal

abbrev pub invariant-loop-change : goal.invariant-loop-change
invariant-loop-change l = IsNewestOther (entries_of (take l.change-index l.changes)) (family l.sides) l.var l.level
