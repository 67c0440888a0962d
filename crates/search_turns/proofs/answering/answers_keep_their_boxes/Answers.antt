use Rattle.std.proofs.lemmas.List.Elements.{All-cons}
use Rattle.problem_rules.specs.Posed.{problem_of}
use Rattle.search_moves.specs.Answers.{HasBox}
use Rattle.search_state.specs.Readings.{boxes_of}
use Rattle.search_turns.proofs.Answered.{have_boxes_still}
use Rattle.search_turns.proofs.answering.answers_keep_their_boxes.Goals as goal

pub returns-clause-further : goal.returns-clause-further
returns-clause-further c p l t u answers stored trail now new is have = have_boxes_still p l t u answers stored is.added now is.grown is.boxes have

pub returns-clause-resumed : goal.returns-clause-resumed
returns-clause-resumed c p l t u answers a stored trail now new is single have =
    All-cons (HasBox (problem_of p) (boxes_of l u now)) a answers (is.has_box a single) (have_boxes_still p l t u answers stored is.added now is.grown is.boxes have)
