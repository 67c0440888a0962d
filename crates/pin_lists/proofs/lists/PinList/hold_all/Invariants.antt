use Rattle.std.proofs.Common.{◌≡◌, ◌++◌, take}
use Rattle.pin_lists.specs.Units.{Moves}
use Rattle.pin_lists.proofs.lists.PinList.hold_all.Given as goal

abbrev pub invariant-loop-r : goal.invariant-loop-r
invariant-loop-r l = record {
  listed : l.self ≡ l.initial.self ++ take l.r-index l.refs;
  moved : Moves l.initial.ops l.ops l.initial.self l.self;
  only : l.ops ≡ record l.initial.ops { counts = l.ops.counts };
}
