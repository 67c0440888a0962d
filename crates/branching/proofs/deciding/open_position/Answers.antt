use Rattle.std.proofs.Common.{ap, ◌∙◌, subst}
use Rattle.std.specs.Prelude.{IfNone}
use Rattle.diagram_arena.specs.Arena.{table}
use Rattle.exact_steps.specs.Domains.{values_in}
use Rattle.branching.specs.Work.{HasOneValue}
use Rattle.branching.proofs.deciding.open_position.Goals as goal

pub returns-clause-none : goal.returns-clause-none
returns-clause-none c =
    subst (λ a. IfNone c.open_at.result (HasOneValue (values_in c.args.layout.now (table a) c.args.v c.args.domain))) (c.arena.ensures.arena ∙ ap (λ s. s.arena) c.pool.ensures.pool) c.open_at.ensures.none
