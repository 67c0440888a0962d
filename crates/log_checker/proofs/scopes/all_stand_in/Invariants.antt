use Rattle.std.proofs.Common.{take}
use Rattle.std.specs.List.{All}
use Rattle.log_checker.specs.Words.{SideStands}
use Rattle.log_checker.proofs.scopes.all_stand_in.Given as goal

abbrev pub invariant-loop-side : goal.invariant-loop-side
invariant-loop-side l = All (SideStands l.c) (take l.side-index l.sides)
