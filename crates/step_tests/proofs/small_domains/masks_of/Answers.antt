use Rattle.std.proofs.Common.{◌≡◌, ◌<◌, ◌≤◌, List, length, Some, refl, sym, ap, ◌∙◌, subst, arith}
use Rattle.std.specs.Prelude.{slice_get, slice_index_or}
use Rattle.std.proofs.lemmas.Option.{slice_get_read, slice_get-get_or}
use Rattle.set_meaning.specs.declared.kinds.Kind.{Kind}
use Rattle.bit_layout.proofs.Making.{few_kinds}
use Rattle.diagram_arena.specs.declared.nodes.Ref.{Ref}
use Rattle.diagram_arena.specs.declared.nodes.Ref.TheVariants.{Zero}
use Rattle.exact_steps.specs.Domains.{variable}
use Rattle.step_tests.proofs.small_domains.masks_of.Goals as goal

pub overflow_cast-v : goal.overflow_cast-v
overflow_cast-v c =
    let few : length c.args.p.now.kinds ≤ 1048576 = few_kinds c.args.p.now.kinds c.requires.limits.kinds in
    let same = ap (λ (ks : List Kind). length ks) c.items-kind-items.ensures in
    omega (arith, few, same, c.loop-v-test.true)

pub mask_of-requires-clause-kind : goal.mask_of-requires-clause-kind
mask_of-requires-clause-kind c =
    let at : slice_get c.items-kind-items.result.now c.loop-v.v ≡ Some c.kind-item.result =
    slice_get_read c.items-kind-items.result.now (length c.items-kind-items.result.now) c.loop-v.v c.kind-item.result refl c.loop-v-test.true c.kind-item.is in
    subst (λ (ks : List Kind). slice_get ks c.loop-v.v ≡ Some c.kind-item.result) (c.items-kind-items.ensures ∙ sym c.requires.kinds) at

pub mask_of-requires-clause-live : goal.mask_of-requires-clause-live
mask_of-requires-clause-live c =
    let items : length c.items-kind-items.result.now ≡ length c.args.p.now.kinds = ap (λ (ks : List Kind). length ks) c.items-kind-items.ensures in
    let kinds : length c.args.layout.now.kinds ≡ length c.args.p.now.kinds = ap (λ (ks : List Kind). length ks) c.requires.kinds in
    let long = c.requires.domains.long in
    let within : c.loop-v.v < length c.args.domains.now = omega (arith, items, kinds, long, c.loop-v-test.true) in
    let r : Ref = slice_index_or c.args.domains.now c.loop-v.v Zero in
    let domain = c.requires.domains.each (variable c.loop-v.v) r (slice_get-get_or c.args.domains.now c.loop-v.v Zero within) in
    c.loop-v.invariant.grows.live r domain.diagram.live
