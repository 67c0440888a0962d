-- The items make the tree; a fault is theirs.
use Rattle.std.proofs.Common.{length, sym, subst, List}
use Rattle.fzn_parser.specs.declared.tree.Item.{Item}
use Rattle.fzn_parser.specs.declared.tree.Tree.{Tree}
use Rattle.fzn_parser.specs.Grammar.{signs}
use Rattle.fzn_parser.specs.Faults.{IsTreeOf}
use Rattle.fzn_parser.proofs.Endings.{same_tree}
use Rattle.fzn_parser.proofs.Parses.{tree_given, fault_given}
use Rattle.fzn_parser.proofs.parsing.parse.Goals as goal

pub returns-in-Ok-clause-tree : goal.returns-in-Ok-clause-tree
returns-in-Ok-clause-tree c =
    let text = c.args.text.now in
    subst (λ (items : List Item). IsTreeOf (signs text c.args.tokens.now) (record { items = items })) (sym c.of.ensures) (tree_given (length text) (signs text c.args.tokens.now) c.in-Ok.items.items c.in-Ok.ensures)

pub returns-in-Ok-clause-only : goal.returns-in-Ok-clause-only
returns-in-Ok-clause-only c =
    let text = c.args.text.now in
    let tree : Tree = record { items = c.of.result } in
    let is : IsTreeOf (signs text c.args.tokens.now) tree =
    subst (λ (items : List Item). IsTreeOf (signs text c.args.tokens.now) (record { items = items })) (sym c.of.ensures) (tree_given (length text) (signs text c.args.tokens.now) c.in-Ok.items.items c.in-Ok.ensures) in
    λ other spelled. same_tree (signs text c.args.tokens.now) other tree spelled is.spelled

pub returns-in-Err-clause-fault : goal.returns-in-Err-clause-fault
returns-in-Err-clause-fault c =
    let text = c.args.text.now in
    fault_given (length text) (signs text c.args.tokens.now) c.in-Err.fault c.in-Err.ensures
