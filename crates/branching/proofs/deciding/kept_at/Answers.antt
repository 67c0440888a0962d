use Rattle.std.proofs.Common.{ℕ, subst}
use Rattle.diagram_arena.specs.Arena.{table}
use Rattle.diagram_ops.specs.Words.{Denotes}
use Rattle.bit_layout.specs.Order.{bit_at}
use Rattle.branching.specs.Decisions.{IsDecided}
use Rattle.branching.specs.Work.{kept, Keeps}
use Rattle.branching.proofs.Choosing.{position_within}
use Rattle.branching.proofs.Taking.{decided, decided_ok, news_of_decision, news_reach_one}
use Rattle.branching.proofs.deciding.kept_at.Goals as goal

pub bit-bit-requires : goal.bit-bit-requires
bit-bit-requires c =
    let d = c.domain_of-domain.result in
    position_within c.args.layout.now (table c.args.ops.now.arena) c.args.chosen.variable d c.args.chosen.position (c.requires.chosen.first d c.domain_of-domain.ensures).here

pub with_true-requires : goal.with_true-requires
with_true-requires c = (c.requires.domains.each c.args.chosen.variable c.domain_of-domain.result c.domain_of-domain.ensures).diagram.live

pub returns-clause-decided : goal.returns-clause-decided
returns-clause-decided c =
    let l = c.args.layout.now in
    let v = c.args.chosen.variable in
    let i = c.args.chosen.position in
    let t = table c.args.ops.now.arena in
    let u = table c.with_true.new.ops.arena in
    let d = c.domain_of-domain.result in
    let keeps = subst (λ (b : ℕ). Keeps c.args.ops.now c.with_true.new.ops d b c.with_true.result) c.bit-bit.ensures.value c.with_true.ensures in
    decided_ok c.with_true.result (Denotes u (kept t d (bit_at l v i))) (IsDecided l t u c.args.domains.now c.args.from v)
    (λ q is. decided l t c.args.domains.now c.args.from v i d c.obeys_order.ensures c.requires.domains c.requires.chosen c.domain_of-domain.ensures u q is) keeps.words

pub returns-clause-parts : goal.returns-clause-parts
returns-clause-parts c =
    let l = c.args.layout.now in
    let v = c.args.chosen.variable in
    let d = c.domain_of-domain.result in
    let keeps = subst (λ (b : ℕ). Keeps c.args.ops.now c.with_true.new.ops d b c.with_true.result) c.bit-bit.ensures.value c.with_true.ensures in
    news_of_decision l (table c.args.ops.now.arena) c.args.domains.now c.args.from v c.args.chosen.position d c.obeys_order.ensures c.requires.domains c.requires.chosen c.domain_of-domain.ensures
    (table c.with_true.new.ops.arena) keeps.parts

pub returns-clause-reach : goal.returns-clause-reach
returns-clause-reach c =
    let l = c.args.layout.now in
    let v = c.args.chosen.variable in
    let d = c.domain_of-domain.result in
    let keeps = subst (λ (b : ℕ). Keeps c.args.ops.now c.with_true.new.ops d b c.with_true.result) c.bit-bit.ensures.value c.with_true.ensures in
    news_reach_one l (table c.args.ops.now.arena) c.args.domains.now c.args.from v c.args.chosen.position d c.obeys_order.ensures c.requires.domains c.requires.chosen c.domain_of-domain.ensures
    (table c.with_true.new.ops.arena) keeps.stays.reduced keeps.parts
