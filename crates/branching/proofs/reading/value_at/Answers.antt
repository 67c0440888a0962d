use Rattle.std.proofs.Common.{ap, ◌∙◌, subst, sym}
use Rattle.diagram_arena.specs.Arena.{table}
use Rattle.exact_steps.specs.Domains.{values_in}
use Rattle.branching.specs.Work.{HasOneValue}
use Rattle.branching.proofs.reading.value_at.Goals as goal

pub only_word-requires-clause-one : goal.only_word-requires-clause-one
only_word-requires-clause-one c =
    subst (λ a. HasOneValue (values_in c.args.layout.now (table a) c.args.v c.args.domain)) (sym (c.arena.ensures.arena ∙ ap (λ s. s.arena) c.pool.ensures.pool)) c.requires.one
