use Rattle.std.proofs.Common.{◌≡◌, ◌++◌, ◌∷◌, take}
use Rattle.std.specs.Fmt.{decimal}
use Rattle.std.specs.List.{flat_map}
use Rattle.log_text.proofs.write.push_sides.Given as goal

abbrev pub invariant-loop-variable : goal.invariant-loop-variable
invariant-loop-variable l = l.out.items ≡ l.fn.out.items ++ flat_map (λ side. (32 ∷ decimal side.0) ++ 32 ∷ decimal side.1) (take l.variable-index l.sides)
