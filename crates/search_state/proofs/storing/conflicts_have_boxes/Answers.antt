use Rattle.search_rules.specs.Walk.{of_constraint, of_box}
use Rattle.search_state.proofs.Stores.{under_stored}
use Rattle.search_state.proofs.storing.conflicts_have_boxes.Goals as goal

pub returns-clause-constraint : goal.returns-clause-constraint
returns-clause-constraint c p l t stored constraint f known violated = of_constraint known violated

pub returns-clause-stored_box : goal.returns-clause-stored_box
returns-clause-stored_box c p l t stored id f within lie = of_box (under_stored l t stored id.0 within) lie
