use Rattle.solve_top.proofs.answering.ending_of_text.Goals as goal

pub ending_of_problem-requires : goal.ending_of_problem-requires
ending_of_problem-requires g c = record { short = c.requires; problem = c.in-Ok.ensures.problem }
