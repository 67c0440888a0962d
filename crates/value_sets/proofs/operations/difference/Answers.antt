use Rattle.std.proofs.lemmas.Result.{IfOk-weaker}
use Rattle.diagram_arena.specs.Table.{has}
use Rattle.diagram_arena.specs.Arena.{table}
use Rattle.diagram_ops.specs.Words as words
use Rattle.search_rules.specs.Family.{without}
use Rattle.exact_steps.specs.Domains.{values_in}
use Rattle.value_sets.specs.Sets.{IsSetOf}
use Rattle.value_sets.proofs.SetWords.{without_words, without_values, set_of_values, reaches}
use Rattle.value_sets.proofs.operations.difference.Goals as goal

pub returns-clause-set : goal.returns-clause-set
returns-clause-set c =
    let l = c.args.layout.now in
    let v = c.args.v in
    let t = table c.args.ops.now.arena in
    let u = table c.diff.new.self.arena in
    let f = c.args.f in
    let g = c.args.g in
    let V = words.without (has t f) (has t g) in
    let s = without (values_in l t v f) (values_in l t v g) in
    IfOk-weaker c.diff.result (words.Denotes u V) (IsSetOf l u v s)
    (λ r is. set_of_values l v u s V r
    (without_words c.word_laws.ensures l v (values_in l t v f) (values_in l t v g) (has t f) (has t g) c.obeys_order.ensures c.requires.first.words c.requires.second.words)
    is (without_values l v t u f g r is.words))
    c.diff.ensures.words

pub returns-clause-parts : goal.returns-clause-parts
returns-clause-parts c =
    let l = c.args.layout.now in
    let v = c.args.v in
    let t = table c.args.ops.now.arena in
    let f = c.args.f in
    let g = c.args.g in (
      words.without (has t f) (has t g),
      without_words c.word_laws.ensures l v (values_in l t v f) (values_in l t v g) (has t f) (has t g) c.obeys_order.ensures c.requires.first.words c.requires.second.words,
      c.diff.ensures.parts,
    )

pub returns-clause-reach : goal.returns-clause-reach
returns-clause-reach c bits covers =
    let l = c.args.layout.now in
    let v = c.args.v in
    let t = table c.args.ops.now.arena in
    c.diff.ensures.reach bits (reaches c.word_laws.ensures l v t c.args.f bits c.obeys_order.ensures c.pool.ensures.reduced c.requires.first covers)
    (reaches c.word_laws.ensures l v t c.args.g bits c.obeys_order.ensures c.pool.ensures.reduced c.requires.second covers)
