use Rattle.diagram_arena.specs.declared.nodes.Ref.TheVariants.{Node}
use Rattle.diagram_arena.specs.Table.{has}
use Rattle.diagram_arena.specs.Part.{IsPartOf}
use Rattle.node_reclaim.proofs.News.{no_news, news_then}
use Rattle.node_reclaim.proofs.laws.new_parts_add_up.Goals as goal

pub returns-clause-none : goal.returns-clause-none
returns-clause-none c t V = no_news t (λ X. IsPartOf X V)

pub returns-clause-again : goal.returns-clause-again
returns-clause-again c t u v V = news_then t u v (λ X. IsPartOf X V)

pub returns-clause-wider : goal.returns-clause-wider
returns-clause-wider c t u V W part news i none live = c.parts_of_parts.ensures.again (has u (Node i)) V W (news i none live) part

pub returns-clause-reach : goal.returns-clause-reach
returns-clause-reach c t u bits V ok depends news i none live =
    (c.reduced_tables.ensures.reach u ok (Node i) live bits).1 (c.parts_of_parts.ensures.depends bits (has u (Node i)) V (news i none live) depends)
