use Rattle.std.proofs.Common.{◌≡◌, None, inl, inr, subst, arith}
use Rattle.std.specs.Prelude.{IsSome}
use Rattle.std.proofs.lemmas.Bool.{cases_lt}
use Rattle.diagram_arena.specs.declared.nodes.NodeId.{NodeId}
use Rattle.diagram_arena.specs.declared.nodes.Triple.{Triple}
use Rattle.diagram_arena.specs.Arena.{table}
use Rattle.node_reclaim.specs.Pool.{PoolState, pins_of}
use Rattle.node_reclaim.specs.Body.{IsPool}
use Rattle.node_reclaim.proofs.pinning.Pool.make.Goals as goal

-- what is not there has no pin
unpinned : (p : PoolState) → IsPool p → (i : NodeId) → table p.arena i ≡ None → pins_of p i ≡ 0
unpinned p kept i free =
    elim (cases_lt 0 (pins_of p i)) [
      | inl some ↦ let no : IsSome {T = Triple} None = subst IsSome free (kept.live i some) in absurd (cc)
      | inr none ↦ omega arith
    ]

pub returns-clause-unpinned : goal.returns-clause-unpinned
returns-clause-unpinned c i free = unpinned _ c.self.invariant i (rw (← c.self.view_is) at free)
