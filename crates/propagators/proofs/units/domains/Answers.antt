use Rattle.std.proofs.Common.{◌≡◌, ◌<◌, ◌≤◌, List, length, Some, refl, sym, ap, ◌∙◌, subst, arith}
use Rattle.std.specs.Prelude.{slice_get}
use Rattle.std.proofs.lemmas.Option.{slice_get_read}
use Rattle.set_meaning.specs.declared.kinds.Kind.{Kind}
use Rattle.bit_layout.proofs.Making.{few_kinds}
use Rattle.exact_steps.specs.Domains.{variable}
use Rattle.propagators.proofs.Holding.{domains_first, domains_refused, domains_more, domains_next}
use Rattle.propagators.proofs.units.domains.Goals as goal

pub loop-v-init : goal.loop-v-init
loop-v-init c = domains_first c.args.layout.now c.args.p.now c.args.ops.now c.new-start.result.items c.args.pins.now c.pool.ensures.pinned_live c.pool.ensures.reduced c.new-start.ensures.items c.requires.empty

pub overflow_cast-v : goal.overflow_cast-v
overflow_cast-v c =
    let few : length c.args.p.now.kinds ≤ 1048576 = few_kinds c.args.p.now.kinds c.requires.limits.kinds in
    let same = ap (λ (ks : List Kind). length ks) c.items-kind-items.ensures in
    omega (arith, few, same, c.loop-v-test.true)

pub held_domain-requires-clause-kind : goal.held_domain-requires-clause-kind
held_domain-requires-clause-kind c =
    let at : slice_get c.items-kind-items.result.now c.loop-v.v ≡ Some c.kind-item.result =
    slice_get_read c.items-kind-items.result.now (length c.items-kind-items.result.now) c.loop-v.v c.kind-item.result refl c.loop-v-test.true c.kind-item.is in
    subst (λ (ks : List Kind). slice_get ks c.loop-v.v ≡ Some c.kind-item.result) (c.items-kind-items.ensures ∙ sym c.requires.layout) at

pub returns-in_err-r-clause-done : goal.returns-in_err-r-clause-done
returns-in_err-r-clause-done c =
    (domains_refused c.args.layout.now c.args.p.now c.args.ops.now c.loop-v.ops c.held_domain.new.ops c.loop-v.start.items c.loop-v.pins c.held_domain.new.pins c.loop-v.v c.loop-v.invariant c.in_err-r.ensures.refused).done

pub returns-in_err-r-clause-left : goal.returns-in_err-r-clause-left
returns-in_err-r-clause-left c =
    (domains_refused c.args.layout.now c.args.p.now c.args.ops.now c.loop-v.ops c.held_domain.new.ops c.loop-v.start.items c.loop-v.pins c.held_domain.new.pins c.loop-v.v c.loop-v.invariant c.in_err-r.ensures.refused).left

pub returns-in_err-append-clause-done : goal.returns-in_err-append-clause-done
returns-in_err-append-clause-done c =
    let same = ap (λ (ks : List Kind). length ks) c.items-kind-items.ensures in
    let within : c.loop-v.v < length c.args.p.now.kinds = omega (arith, same, c.loop-v-test.true) in
    (domains_more c.args.layout.now c.args.p.now c.args.ops.now c.loop-v.ops c.held_domain.new.ops c.loop-v.start.items c.loop-v.pins c.held_domain.new.pins c.loop-v.v (variable c.loop-v.v) c.in_ok-r.r c.loop-v.invariant within refl
    c.in_ok-r.ensures.domain c.in_ok-r.ensures.held).done

pub returns-in_err-append-clause-left : goal.returns-in_err-append-clause-left
returns-in_err-append-clause-left c =
    let same = ap (λ (ks : List Kind). length ks) c.items-kind-items.ensures in
    let within : c.loop-v.v < length c.args.p.now.kinds = omega (arith, same, c.loop-v-test.true) in
    (domains_more c.args.layout.now c.args.p.now c.args.ops.now c.loop-v.ops c.held_domain.new.ops c.loop-v.start.items c.loop-v.pins c.held_domain.new.pins c.loop-v.v (variable c.loop-v.v) c.in_ok-r.r c.loop-v.invariant within refl
    c.in_ok-r.ensures.domain c.in_ok-r.ensures.held).left

pub loop-v-preserved : goal.loop-v-preserved
loop-v-preserved c =
    let same = ap (λ (ks : List Kind). length ks) c.items-kind-items.ensures in
    let within : c.loop-v.v < length c.args.p.now.kinds = omega (arith, same, c.loop-v-test.true) in
    domains_next c.args.layout.now c.args.p.now c.args.ops.now c.loop-v.ops c.held_domain.new.ops c.loop-v.start.items c.append.new.list.items c.loop-v.pins c.held_domain.new.pins c.loop-v.v (variable c.loop-v.v) c.in_ok-r.r c.loop-v.invariant within refl
    c.in_ok-r.ensures.domain c.in_ok-r.ensures.held c.in_ok-append.ensures

pub returns-clause-long : goal.returns-clause-long
returns-clause-long c = let long = c.loop-v.invariant.long in let same = ap (λ (ks : List Kind). length ks) c.items-kind-items.ensures in omega (arith, long, same)

pub returns-clause-pinned : goal.returns-clause-pinned
returns-clause-pinned c = c.loop-v.invariant.same

pub returns-clause-done : goal.returns-clause-done
returns-clause-done c = c.loop-v.invariant.done

pub returns-clause-left : goal.returns-clause-left
returns-clause-left c = c.loop-v.invariant.left
