use Rattle.std.proofs.Common.{Some, ap, ◌∙◌, subst}
use Rattle.std.specs.Prelude.{IfOk}
use Rattle.diagram_arena.specs.Arena.{table}
use Rattle.scope_words.specs.Words.{IsDiagramOf}
use Rattle.propagators.specs.Units.{Anything}
use Rattle.propagators.proofs.Initials.{initial_made, bool_domain, set_domain, int_narrow}
use Rattle.propagators.proofs.initial.initial_domain.Goals as goal

pub initial_words-requires-clause-few : goal.initial_words-requires-clause-few
initial_words-requires-clause-few c =
    int_narrow c.args.layout.now c.args.v c.as_slice.result.now c.in-Int.field-0 c.obeys_order.ensures (c.requires.kind ∙ ap Some c.in-Int.is) c.as_slice.ensures

pub returns-in-Bool-clause-domain : goal.returns-in-Bool-clause-domain
returns-in-Bool-clause-domain c = bool_domain c.values_fit_together.ensures c.args.layout.now (table c.args.ops.now.arena) c.args.v c.obeys_order.ensures (c.requires.kind ∙ ap Some c.in-Bool.is)

pub returns-in-Int-clause-domain : goal.returns-in-Int-clause-domain
returns-in-Int-clause-domain c =
    initial_made c.args.layout.now (table c.initial_words.new.ops.arena) c.args.v c.args.kind.now c.initial_words.result c.obeys_order.ensures c.requires.kind
    (subst (λ vs. IfOk c.initial_words.result (IsDiagramOf c.args.layout.now vs Anything (table c.initial_words.new.ops.arena))) c.as_slice.ensures c.initial_words.ensures.diagram)

pub returns-in-Set-clause-domain : goal.returns-in-Set-clause-domain
returns-in-Set-clause-domain c = set_domain c.values_fit_together.ensures c.args.layout.now (table c.args.ops.now.arena) c.args.v c.in-Set.field-0 c.obeys_order.ensures (c.requires.kind ∙ ap Some c.in-Set.is)
