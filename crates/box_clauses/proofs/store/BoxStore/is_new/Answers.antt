use Rattle.std.proofs.Common.{not, refl, ◌∙◌}
use Rattle.box_clauses.proofs.Knowing.{new_where}
use Rattle.box_clauses.proofs.store.BoxStore.is_new.Goals as goal

pub returns : goal.returns
returns c = rw (← c.self.view_is) (
    new_where c.self.inside.boxes.items c.args.sides.now c.knows-known.result (not c.knows-known.result) (c.knows-known.ensures ∙ c.self.invariant.same c.args.sides.now) refl)
