use Rattle.diagram_arena.specs.Arena.{table}
use Rattle.value_bounds.proofs.Spelling.{domain_reaches}
use Rattle.value_bounds.proofs.bounding.word_bounds.Goals as goal

pub bounds-requires-clause-holds : goal.bounds-requires-clause-holds
bounds-requires-clause-holds c =
    domain_reaches c.args.layout.now (table c.args.arena.now) c.args.v c.args.domain c.bits_of.result.now c.obeys_order.ensures c.requires.domain (λ set. (c.reaches_what_words_depend_on.ensures set).1) c.bits_of.ensures.bits
