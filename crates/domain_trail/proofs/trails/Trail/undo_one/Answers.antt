use Rattle.std.proofs.Common.{sym, subst}
use Rattle.node_reclaim.specs.Holders.{AreHeld}
use Rattle.pin_lists.proofs.Leaving.{fewer_held}
use Rattle.domain_trail.specs.Trail.{TrailState, befores, held}
use Rattle.domain_trail.proofs.trails.Trail.undo_one.Goals as goal

pub take_back-requires-clause-held : goal.take_back-requires-clause-held
take_back-requires-clause-held c =
    fewer_held c.args.ops.now c.self.inside.domains (befores c.self.inside.entries.items)
    (subst (λ (s : TrailState). AreHeld c.args.ops.now (held s)) (sym c.self.view_is) c.requires.held)
