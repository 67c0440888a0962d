use Rattle.std.proofs.Common.{sym, ◌∙◌}
use Rattle.std.proofs.lemmas.Bool.{eqb-true, eq-eqb}
use Rattle.slab.specs.Slab.{slab_len}
use Rattle.diagram_arena.proofs.Kept.{len-state_of}
use Rattle.diagram_arena.proofs.hash_consing.Arena.is_empty.Goals as goal

pub returns : goal.returns
returns c =
    let long = len-state_of c.self.inside.nodes.slots c.self.inside.limit in
    rw (← c.self.view_is, long) (
      (λ e. eqb-true (slab_len c.self.inside.nodes) 0 (sym c.is_empty.ensures ∙ e)),
      (λ e. c.is_empty.ensures ∙ eq-eqb (slab_len c.self.inside.nodes) 0 e),
    )
