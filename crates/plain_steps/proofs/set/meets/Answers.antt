use Rattle.std.proofs.Common.{◌≡◌, false, get_or, refl, sym, subst, arith}
use Rattle.plain_steps.specs.Sets.{has}
use Rattle.plain_steps.proofs.SetLemmas.{has_at, has_place}
use Rattle.plain_steps.proofs.set.meets.Goals as goal

pub returns-then-has : goal.returns-then-has
returns-then-has c =
    let x = get_or c.args.a.now c.loop-x.x-index 0 in
    (x, has_at c.args.a.now c.loop-x.x-index x (omega arith) refl, cc)

pub returns : goal.returns
returns c x is =
    let (k, lt, same) = has_place c.args.a.now x is in
    subst (λ y. has c.args.b.now y ≡ false) (sym same) (c.loop-x.invariant k (omega arith))
