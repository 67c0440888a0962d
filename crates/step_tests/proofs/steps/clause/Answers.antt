use Rattle.std.proofs.Common.{[], ◌∷◌}
use Rattle.std.proofs.lemmas.Result.{IfOk-weaker}
use Rattle.bit_layout.proofs.Rising.{in_head, in_tail}
use Rattle.diagram_arena.specs.Table.{has}
use Rattle.diagram_arena.specs.Arena.{table}
use Rattle.diagram_ops.specs.Words.{either, Denotes}
use Rattle.diagram_ops.proofs.Steps.{stays_then}
use Rattle.scope_words.specs.Words.{IsDiagramOf}
use Rattle.exact_steps.specs.Domains.{variable}
use Rattle.exact_steps.specs.Steps.{IsInDiagram}
use Rattle.exact_steps.proofs.Wanted.{domain_grows}
use Rattle.step_tests.proofs.StepSamples.{clause_diagram, two_known}
use Rattle.step_tests.proofs.steps.clause.Goals as goal

pub returns-in_err-in_second-clause-stays : goal.returns-in_err-in_second-clause-stays
returns-in_err-in_second-clause-stays c = stays_then _ _ _ c.literal.ensures.stays c.literal-2.ensures.stays

pub returns-clause-constraint : goal.returns-clause-constraint
returns-clause-constraint c =
    let l = c.args.layout.now in
    let t = table c.literal-2.new.ops.arena in
    let u = table c.or.new.self.arena in
    let scope = variable 0 ∷ variable 1 ∷ [] in
    IfOk-weaker c.or.result (Denotes u (either (has t c.in_ok-in_first.in_first) (has t c.in_ok-in_second.in_second))) (λ r. IsDiagramOf l scope (IsInDiagram l u r) u r)
    (λ r is. clause_diagram l scope t u (variable 0) (variable 1) c.in_ok-in_first.in_first c.in_ok-in_second.in_second r c.obeys_order.ensures c.requires.sets (two_known l.kinds c.requires.two)
    (in_head (variable 0) (variable 1 ∷ [])) (in_tail (variable 0) (variable 1 ∷ []) (variable 1) (in_head (variable 1) []))
    (domain_grows l (table c.literal.new.ops.arena) t (variable 0) c.in_ok-in_first.in_first c.literal-2.ensures.stays.grows c.in_ok-in_first.ensures.domain) c.in_ok-in_second.ensures.domain is) c.or.ensures.words

pub returns-clause-stays : goal.returns-clause-stays
returns-clause-stays c = stays_then _ _ _ (stays_then _ _ _ c.literal.ensures.stays c.literal-2.ensures.stays) c.or.ensures.stays
