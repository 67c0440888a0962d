use Rattle.std.proofs.lemmas.List.{get_or_default}
use Rattle.exact_steps.proofs.Products.{domains_more}
use Rattle.exact_steps.proofs.gathering.domains_of_scope.Goals as goal

pub loop-v-preserved : goal.loop-v-preserved
loop-v-preserved c =
    domains_more c.args.domains.now c.args.scope.now c.loop-v.v-index _ c.domain_of.result c.loop-v.own.items c.push.new.self.items c.loop-v-test.true (get_or_default c.args.scope.now c.loop-v.v-index _ _ c.loop-v-test.true) c.domain_of.ensures
    c.loop-v.invariant c.in_ok-push.ensures.items
