use Rattle.std.proofs.Common.{List, subst, ℕ}
use Rattle.diagram_arena.specs.Arena.{table}
use Rattle.diagram_view.specs.Words.{words_over, AreSettled}
use Rattle.exact_steps.specs.Domains.{values_in}
use Rattle.branching.specs.Work.{HasOneValue}
use Rattle.branching.proofs.Options.{if_none}
use Rattle.branching.proofs.Spelling.{domain_reaches, have_values}
use Rattle.branching.proofs.Choosing.{one_value}
use Rattle.branching.proofs.deciding.open_at.Goals as goal

pub first_open-requires-clause-holds : goal.first_open-requires-clause-holds
first_open-requires-clause-holds c =
    domain_reaches c.args.layout.now (table c.args.arena.now) c.args.v c.args.domain c.bits_of.result.now c.obeys_order.ensures c.requires.domain (λ set. (c.reaches_what_words_depend_on.ensures set).1) c.bits_of.ensures.bits

pub returns-clause-none : goal.returns-clause-none
returns-clause-none c =
    let l = c.args.layout.now in
    let t = table c.args.arena.now in
    if_none c.first_open.result (AreSettled (words_over t c.args.domain c.bits_of.result.now)) (HasOneValue (values_in l t c.args.v c.args.domain))
    (λ settled. one_value l t c.args.v c.args.domain c.obeys_order.ensures (have_values l t c.args.v c.args.domain c.obeys_order.ensures c.requires.domain)
    (subst (λ (bits : List ℕ). AreSettled (words_over t c.args.domain bits)) c.bits_of.ensures.bits settled)) c.first_open.ensures.none
