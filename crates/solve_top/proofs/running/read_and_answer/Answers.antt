use Rattle.std.proofs.Common.{List, ℕ, ◌∙◌, subst}
use Rattle.solve_top.specs.Endings.{EndsText, ending_status, ending_text}
use Rattle.solve_top.proofs.Files.{reads_model, reads_still}
use Rattle.solve_top.proofs.running.read_and_answer.Goals as goal

pub returns-in-Ok-clause-reads : goal.returns-in-Ok-clause-reads
returns-in-Ok-clause-reads g c =
    let s = ending_status c.ending_of_text.result in
    let out = ending_text c.ending_of_text.result in
    let E : List ℕ → Type 0 = λ xs. EndsText c.args.task xs s out in
    reads_still c.args.task c.args.name.now _ _ _ _ _ _ s out
    (reads_model c.args.task c.args.name.now c.in-Ok.text.items _ _ _ _ _ _ s out c.in_default.ensures.ok c.in-Ok.ensures.ok
    (c.in-Ok.ensures.cause.kept ∙ c.in_default.ensures.cause.kept) (subst E c.as_slice.ensures.value c.ending_of_text.ensures.ends))
    c.ending_of_text.ensures.told c.ending_of_text.ensures.faults
