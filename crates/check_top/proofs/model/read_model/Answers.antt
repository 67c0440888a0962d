use Rattle.std.proofs.Common.{List, ℕ, Vec, Global, Err, ap, ◌∙◌, subst}
use Rattle.check_top.specs.Steps.{EndsText}
use Rattle.check_top.proofs.Runs.{model_of_text, model_too_long, quiet_if_long}
use Rattle.check_top.proofs.model.read_model.Goals as goal

pub returns-in-Ok : goal.returns-in-Ok
returns-in-Ok g c =
    let E : List ℕ → Type 0 = λ xs. EndsText xs c.problem_of_text.result in
    model_of_text c.args.name.now _ _ _ c.in_default.ensures.ok c.in-Ok.text.items _ _ _ _ c.in-Ok.ensures.ok
    (c.in-Ok.ensures.cause.kept ∙ c.in_default.ensures.cause.kept) (subst E c.as_slice.ensures.value c.problem_of_text.ensures)

pub returns-in-Err-TooLong : goal.returns-in-Err-TooLong
returns-in-Err-TooLong g c = λ log.
    model_too_long c.args.name.now _ _ _ c.in_default.ensures.ok log _ _ (c.in-Err-TooLong.ensures.too_long (ap Err c.in-Err-TooLong.field-0-is))
    (quiet_if_long (Vec ℕ Global) _ _ c.in-Err-TooLong.field-0-is c.in-Err-TooLong.ensures.cause.kept ∙ c.in_default.ensures.cause.kept)
