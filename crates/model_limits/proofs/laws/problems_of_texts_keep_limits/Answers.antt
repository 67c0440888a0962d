use Rattle.model_limits.proofs.laws.problems_of_texts_keep_limits.Goals as goal

pub returns : goal.returns
returns c = λ is.
    let sizes = c.problems_of_texts_keep_sizes.ensures _ _ is in
    record {
      legal = c.problems_of_texts_are_problems.ensures is;
      kinds = sizes.kinds;
      numbers = sizes.numbers;
      constraints = sizes.constraints;
      few = sizes.few;
    }
