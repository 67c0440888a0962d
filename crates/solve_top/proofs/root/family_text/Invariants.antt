use Rattle.std.proofs.Common.{◌≡◌, ◌++◌}
use Rattle.solve_top.specs.Roots.{root_lines}
use Rattle.solve_top.proofs.root.family_text.Given as goal

-- the lines so far and those of the rest are all
abbrev pub invariant-loop-name : goal.invariant-loop-name
invariant-loop-name l = l.out.items ++ root_lines l.name-iterator.a.rest.now l.name-iterator.b.rest.now ≡ root_lines l.names l.rows
