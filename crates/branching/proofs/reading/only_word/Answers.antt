use Rattle.std.proofs.Common.{List, subst, ℕ, ◌⊎◌}
use Rattle.diagram_arena.specs.Arena.{table}
use Rattle.diagram_view.specs.Words.{words_over, HasNoWord, HasTwoWords}
use Rattle.branching.proofs.Options.{from_none}
use Rattle.branching.proofs.Spelling.{domain_reaches}
use Rattle.branching.proofs.Reciting.{never_other}
use Rattle.branching.proofs.reading.only_word.Goals as goal

pub single-requires-clause-holds : goal.single-requires-clause-holds
single-requires-clause-holds c =
    domain_reaches c.args.layout.now (table c.args.arena.now) c.args.v c.args.domain c.bits_of.result.now c.obeys_order.ensures c.requires.domain (λ set. (c.reaches_what_words_depend_on.ensures set).1) c.bits_of.ensures.bits

pub unreachable-requires : goal.unreachable-requires
unreachable-requires c =
    let l = c.args.layout.now in
    let t = table c.args.arena.now in
    let d = c.args.domain in
    let other = from_none c.in_ok-found.found (HasNoWord (words_over t d c.bits_of.result.now) ⊎ HasTwoWords (words_over t d c.bits_of.result.now)) c.in-None.is c.in_ok-found.ensures.other in
    never_other l t c.args.v d c.obeys_order.ensures c.requires.known c.requires.domain c.requires.one
    (subst (λ (bits : List ℕ). HasNoWord (words_over t d bits) ⊎ HasTwoWords (words_over t d bits)) c.bits_of.ensures.bits other)
