use Rattle.std.proofs.Common.{◌≡◌, ◌++◌, ◌∷◌, take}
use Rattle.std.specs.List.{flat_map}
use Rattle.log_text.specs.Spelling.{value_word}
use Rattle.log_text.proofs.write.push_values.Given as goal

abbrev pub invariant-loop-value : goal.invariant-loop-value
invariant-loop-value l = l.out.items ≡ l.fn.out.items ++ flat_map (λ value. 32 ∷ value_word value) (take l.value-index l.values)
