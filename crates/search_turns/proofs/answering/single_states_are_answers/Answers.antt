use Rattle.exact_steps.specs.Domains.{family}
use Rattle.search_state.specs.Readings.{boxes_of, entries_of}
use Rattle.search_turns.proofs.Answered.{holds_or_scoped}
use Rattle.search_turns.proofs.answering.single_states_are_answers.Goals as goal

pub returns : goal.returns
returns c l t answers stored trail a kinds state have single one =
    let p = c.args.p.now in
    let law = c.single_values_are_a_new_answer.ensures in
    let bs = boxes_of l t stored in
    let es = entries_of l t stored trail.entries in
    let f = family l t trail.domains in
    let solves = law.solution bs es f a state.legal.trail one (λ d within. (single.quiet.constraints d within).stays) (λ d within. holds_or_scoped p d f a (single.quiet.constraints d within)) in (
      solves,
      law.uncovered answers bs es f a state.legal.trail one solves have (λ b in_store. (c.stored_boxes_speak_of_variables.ensures p l t stored trail b kinds state.readable in_store, single.quiet.boxes b in_store)),
    )
