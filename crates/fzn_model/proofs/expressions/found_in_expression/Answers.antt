use Rattle.fzn_model.proofs.expressions.found_in_expression.Goals as goal

pub returns-in-One : goal.returns-in-One
returns-in-One c = rw c.in-One.is c.found_in_part.ensures

pub returns-in-List : goal.returns-in-List
returns-in-List c = rw c.in-List.is (rw c.items.ensures at c.found_in_array.ensures)
