use Rattle.node_reclaim.proofs.News.{no_news, news_then}
use Rattle.node_reclaim.proofs.laws.news_add_up.Goals as goal

pub returns-clause-none : goal.returns-clause-none
returns-clause-none g c t = no_news t (g.P.SetProperty.holds c.args.property.now)

pub returns-clause-again : goal.returns-clause-again
returns-clause-again g c t u v = news_then t u v (g.P.SetProperty.holds c.args.property.now)
