use Rattle.std.proofs.Common.{take}
use Rattle.plain_steps.specs.Sets.{family}
use Rattle.plain_search.specs.State.{entries_of}
use Rattle.plain_search.specs.Moves.{IsStanding}
use Rattle.plain_search.proofs.standing.where_they_stand.Given as goal

abbrev pub invariant-loop-change : goal.invariant-loop-change
invariant-loop-change l = IsStanding (entries_of (take l.change-index l.changes)) (family l.sides) l.found
