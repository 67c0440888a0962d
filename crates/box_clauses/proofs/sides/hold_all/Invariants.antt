use Rattle.std.proofs.Common.{◌≡◌, ◌++◌, take}
use Rattle.pin_lists.specs.Units.{Moves}
use Rattle.box_clauses.specs.Sides.{sets_of}
use Rattle.box_clauses.proofs.sides.hold_all.Given as goal

abbrev pub invariant-loop-side : goal.invariant-loop-side
invariant-loop-side l = record {
  listed : l.pins ≡ l.initial.pins ++ sets_of (take l.side-index l.sides);
  moved : Moves l.initial.ops l.ops l.initial.pins l.pins;
  only : l.ops ≡ record l.initial.ops { counts = l.ops.counts };
}
