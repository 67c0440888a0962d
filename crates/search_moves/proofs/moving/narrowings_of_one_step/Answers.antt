use Rattle.search_moves.proofs.moving.narrowings_of_one_step.Goals as goal

pub returns : goal.returns
returns g c constraint f v u s t first second =
    let extends = c.exact_step_goes_by_variables.ensures.extends constraint f v s first in
    record {
      scoped = second.scoped;
      sound = λ x has. (extends u x).0 (second.sound x has);
      whole = λ x e. second.whole x ((extends u x).1 e);
    }
