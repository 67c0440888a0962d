use Rattle.std.proofs.Common.{◌++◌, List, subst}
use Rattle.diagram_arena.specs.declared.nodes.Ref.{Ref}
use Rattle.node_reclaim.specs.Pool.{Unpins}
use Rattle.pin_lists.proofs.Leaving.{fewer_held}
use Rattle.domain_trail.specs.Trail.{TrailState, held}
use Rattle.domain_trail.proofs.Pinning.{parts_held, held_later, both_spent}
use Rattle.domain_trail.proofs.trails.Trail.release.Goals as goal

pub release-requires : goal.release-requires
release-requires c =
    fewer_held c.args.ops.now c.self.inside.domains c.self.inside.befores
    (parts_held c.args.ops.now c.args.self c.self.inside.domains c.self.inside.befores c.self.inside.entries.items c.self.inside.level c.self.view_is c.self.invariant.pinned c.requires)

pub release-requires-2 : goal.release-requires-2
release-requires-2 c =
    held_later c.args.ops.now c.release.new.ops c.self.inside.domains c.self.inside.befores
    (parts_held c.args.ops.now c.args.self c.self.inside.domains c.self.inside.befores c.self.inside.entries.items c.self.inside.level c.self.view_is c.self.invariant.pinned c.requires)
    c.release.ensures

pub returns : goal.returns
returns c =
    subst (λ (s : TrailState). Unpins c.args.ops.now c.release-2.new.ops (held s)) c.self.view_is
    (subst (λ (bs : List Ref). Unpins c.args.ops.now c.release-2.new.ops (c.self.inside.domains ++ bs)) c.self.invariant.pinned
    (both_spent c.args.ops.now c.release.new.ops c.release-2.new.ops c.self.inside.domains c.self.inside.befores c.release.ensures c.release-2.ensures))
