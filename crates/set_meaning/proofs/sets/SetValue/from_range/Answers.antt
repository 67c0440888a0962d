use Rattle.std.proofs.Common.{◌≡◌, pos, ◌+ℤ◌, arith, ap, subst, sym, ◌∙◌}
use Rattle.std.proofs.lemmas.Int.{ints, to_z-of_z}
use Rattle.std.specs.Prelude.{FitsSigned, ◌≤ℤ◌}
use mir.Syntax.{w64}
use Rattle.set_meaning.specs.Sets.{IsAscending, integers_from, count_between}
use Rattle.set_meaning.proofs.Ranges.{integers_from_pushed, IsAscending-integers_between, integers_between_members, count_between_within}
use Rattle.set_meaning.proofs.sets.SetValue.from_range.Goals as goal

pub loop-offset-preserved : goal.loop-offset-preserved
loop-offset-preserved c =
    let low : FitsSigned w64 c.args.lo = c.ranges.lo in
    let high : FitsSigned w64 c.args.hi = c.ranges.hi in
    let count : c.count_between-count.result ≡ count_between c.args.lo c.args.hi = simp to_z-of_z at c.count_between-count.ensures in
    let within : (c.args.lo +ℤ pos c.loop-offset.offset) ≤ℤ c.args.hi = count_between_within c.args.lo c.args.hi c.loop-offset.offset (omega (arith, count)) in
    integers_from_pushed _ _ _ _ _ c.loop-offset.invariant c.in_ok-push.ensures.items (omega (arith, ints, within))

pub returns-clause-exact : goal.returns-clause-exact
returns-clause-exact c =
    let low : FitsSigned w64 c.args.lo = c.ranges.lo in
    let high : FitsSigned w64 c.args.hi = c.ranges.hi in
    let count : c.count_between-count.result ≡ count_between c.args.lo c.args.hi = simp to_z-of_z at c.count_between-count.ensures in
    let items : c.loop-offset.elements.items ≡ integers_from c.args.lo c.loop-offset.offset = simp to_z-of_z at c.loop-offset.invariant in
    let all : c.loop-offset.offset ≡ count_between c.args.lo c.args.hi = omega (arith, count) in
    items ∙ ap (integers_from c.args.lo) all

pub invariant_of-result : goal.invariant_of-result
invariant_of-result c = subst IsAscending (sym (returns-clause-exact c)) (IsAscending-integers_between c.args.lo c.args.hi)

pub returns-clause-ascending : goal.returns-clause-ascending
returns-clause-ascending c = invariant_of-result c

pub returns-clause-members : goal.returns-clause-members
returns-clause-members c x = rw (returns-clause-exact c) (integers_between_members c.args.lo c.args.hi x)
