use Rattle.std.proofs.Common.{◌≡◌, [], ◌++◌, map, take}
use Rattle.fzn_model.proofs.building.push_unnamed.Given as goal

abbrev pub invariant-loop : goal.invariant-loop
invariant-loop l = l.names.items ≡ l.initial.names.items ++ map (λ k. []) (take l.index l.more)
