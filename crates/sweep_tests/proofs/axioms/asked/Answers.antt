use Rattle.std.proofs.Common.{◌≡◌, ◌<◌, ℕ, List, [], length, sym, subst, arith}
use Rattle.std.specs.List.Sorted.{IsStrictlySortedBy}
use Rattle.set_meaning.specs.declared.kinds.Kind.{Kind}
use Rattle.log_rules.specs.declared.nodes.Node.{Node}
use Rattle.log_rules.specs.Boxes.{Sides, AreSides}
use Rattle.sweep_tests.proofs.axioms.asked.Goals as goal

nothing : (kinds : List Kind) (table : List Node) → AreSides kinds table []
unfolding IsStrictlySortedBy
nothing kinds table = record { ascending = tt; each = λ i d within. absurd (omega (arith, within)) }

no_sides : (kinds : List Kind) (table : List Node) (sides : Sides) → sides ≡ [] → AreSides kinds table sides
no_sides kinds table sides none = subst (AreSides kinds table) (sym none) (nothing kinds table)

pub possible-requires-clause-sides : goal.possible-requires-clause-sides
possible-requires-clause-sides c = no_sides c.args.p.now.kinds c.new-table.result c.as_slice.result.now c.as_slice.ensures
