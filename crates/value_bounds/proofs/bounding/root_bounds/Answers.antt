use Rattle.std.proofs.Common.{ap, ◌∙◌, subst}
use Rattle.std.proofs.lemmas.Result.{IfOk-weaker}
use Rattle.diagram_arena.specs.Arena.{table}
use Rattle.scope_words.proofs.Bits.{length-bits_at}
use Rattle.exact_steps.specs.Domains.{values_in}
use Rattle.value_bounds.specs.Bounds.{AreBoundsOf}
use Rattle.value_bounds.specs.Work.{AreBoundsOfWords, AreEnds, domain_words}
use Rattle.value_bounds.proofs.Spelling.{have_values}
use Rattle.value_bounds.proofs.Closing.{ends_are_bounds, word_has_value, words_long}
use Rattle.value_bounds.proofs.bounding.root_bounds.Goals as goal

pub ends-requires-clause-long : goal.ends-requires-clause-long
ends-requires-clause-long c =
    words_long c.args.layout.now c.args.v (domain_words c.args.layout.now (table c.arena.result.now) c.args.v c.args.domain) c.in_ok-words.words (length-bits_at c.args.layout.now c.args.v) c.in_ok-words.ensures

pub ends-requires-clause-least : goal.ends-requires-clause-least
ends-requires-clause-least c =
    let l = c.args.layout.now in
    let t = table c.args.ops.now.arena in
    let words =
    subst (λ a. AreBoundsOfWords (domain_words l (table a) c.args.v c.args.domain) c.in_ok-words.words) (c.arena.ensures.arena ∙ ap (λ s. s.arena) c.pool.ensures.pool) c.in_ok-words.ensures in
    word_has_value l c.args.v (values_in l t c.args.v c.args.domain) (domain_words l t c.args.v c.args.domain) _ (have_values l t c.args.v c.args.domain c.obeys_order.ensures c.requires.domain) words.least_is.is

pub ends-requires-clause-greatest : goal.ends-requires-clause-greatest
ends-requires-clause-greatest c =
    let l = c.args.layout.now in
    let t = table c.args.ops.now.arena in
    let words =
    subst (λ a. AreBoundsOfWords (domain_words l (table a) c.args.v c.args.domain) c.in_ok-words.words) (c.arena.ensures.arena ∙ ap (λ s. s.arena) c.pool.ensures.pool) c.in_ok-words.ensures in
    word_has_value l c.args.v (values_in l t c.args.v c.args.domain) (domain_words l t c.args.v c.args.domain) _ (have_values l t c.args.v c.args.domain c.obeys_order.ensures c.requires.domain) words.greatest_is.is

pub returns : goal.returns
returns c =
    let l = c.args.layout.now in
    let t = table c.args.ops.now.arena in
    let f = values_in l t c.args.v c.args.domain in
    let words =
    subst (λ a. AreBoundsOfWords (domain_words l (table a) c.args.v c.args.domain) c.in_ok-words.words) (c.arena.ensures.arena ∙ ap (λ s. s.arena) c.pool.ensures.pool) c.in_ok-words.ensures in
    IfOk-weaker c.ends.result (AreEnds l c.args.v c.in_ok-words.words) (AreBoundsOf f)
    (λ x at. ends_are_bounds l c.args.v f (domain_words l t c.args.v c.args.domain) c.in_ok-words.words x c.obeys_order.ensures
    (have_values l t c.args.v c.args.domain c.obeys_order.ensures c.requires.domain) words at) c.ends.ensures
