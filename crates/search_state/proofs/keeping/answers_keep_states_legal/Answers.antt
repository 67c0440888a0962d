use Rattle.std.proofs.Common.{false}
use Rattle.exact_steps.specs.Domains.{family}
use Rattle.box_clauses.specs.Boxes.{box_of}
use Rattle.search_state.specs.Readings.{boxes_of, entries_of}
use Rattle.search_state.proofs.Legal.{state_with}
use Rattle.search_state.proofs.keeping.answers_keep_states_legal.Goals as goal

pub returns-clause-answer : goal.returns-clause-answer
returns-clause-answer c l t answers stored s answer state = record {
  readable = state.readable;
  level = state.level;
  legal = c.answer_keeps_the_state_legal.ensures answers (boxes_of l t stored) (entries_of l t stored s.entries) (family l t s.domains) answer state.legal;
}

pub returns-clause-safe : goal.returns-clause-safe
returns-clause-safe c l t answers stored s sides line state are safe =
    state_with c.args.p.now l t answers stored s sides line false state.readable state.level are
    (c.safe_box_keeps_the_state_legal.ensures answers (boxes_of l t stored) (entries_of l t stored s.entries) (family l t s.domains) (box_of l t sides) state.legal safe)
