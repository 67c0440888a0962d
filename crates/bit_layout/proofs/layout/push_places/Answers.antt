use Rattle.bit_layout.proofs.Making.{places_step}
use Rattle.bit_layout.proofs.layout.push_places.Goals as goal

pub loop-position-preserved : goal.loop-position-preserved
loop-position-preserved c =
    places_step c.args.variable.0 c.args.kind.now c.loop-position.position c.element_at-element.result c.args.places.now.items c.loop-position.places.items c.push.new.self.items c.element_at-element.ensures c.in_ok-push.ensures.items
    c.loop-position.invariant
