use Rattle.search_state.proofs.Tables.{readable_stays, trail_stays, state_stays, readable_live, grown_mean}
use Rattle.search_state.proofs.staying.states_stay.Goals as goal

pub returns-clause-readable : goal.returns-clause-readable
returns-clause-readable c = readable_stays c.set_laws.ensures

pub returns-clause-trail : goal.returns-clause-trail
returns-clause-trail c = trail_stays c.set_laws.ensures

pub returns-clause-legal : goal.returns-clause-legal
returns-clause-legal c = state_stays c.set_laws.ensures

pub returns-clause-live : goal.returns-clause-live
returns-clause-live c = readable_live

pub returns-clause-grown : goal.returns-clause-grown
returns-clause-grown c = grown_mean
