use Rattle.std.proofs.Common.{◌∙◌, ap, sym}
use Rattle.std.specs.Option.{unwrap_or}
use Rattle.node_reclaim.proofs.Counts.{frame, pins-state}
use Rattle.node_reclaim.proofs.pinning.Pool.pins_of.Goals as goal

pub returns : goal.returns
returns c =
    c.unwrap_or.ensures ∙ ap (λ o. unwrap_or o 0) (c.copied.ensures ∙ c.get.ensures.value)
    ∙ (rw (← c.self.view_is) (sym (pins-state (frame c.self.inside) c.self.inside.pins.entries c.args.id)))
