use Rattle.search_state.proofs.keeping.legal_states_have_trails.Goals as goal

pub returns : goal.returns
returns c p l t answers stored s state = record { readable = state.readable; level = state.level; trail = state.legal.trail }
