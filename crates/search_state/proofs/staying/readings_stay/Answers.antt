use Rattle.search_state.proofs.Tables.{domains_stay, family_stays, sides_stay, box_stays, under_stays, boxes_stay, entry_stays, entries_stay}
use Rattle.search_state.proofs.staying.readings_stay.Goals as goal

pub returns-clause-domains : goal.returns-clause-domains
returns-clause-domains c = domains_stay c.set_laws.ensures

pub returns-clause-family : goal.returns-clause-family
returns-clause-family c = family_stays c.set_laws.ensures

pub returns-clause-sides : goal.returns-clause-sides
returns-clause-sides c = sides_stay c.set_laws.ensures

pub returns-clause-the_box : goal.returns-clause-the_box
returns-clause-the_box c = box_stays c.set_laws.ensures

pub returns-clause-under : goal.returns-clause-under
returns-clause-under c = under_stays c.set_laws.ensures

pub returns-clause-boxes : goal.returns-clause-boxes
returns-clause-boxes c = boxes_stay c.set_laws.ensures

pub returns-clause-entries : goal.returns-clause-entries
returns-clause-entries c = entries_stay c.set_laws.ensures

pub returns-clause-entry : goal.returns-clause-entry
returns-clause-entry c = entry_stays c.set_laws.ensures
