use Rattle.std.proofs.Common.{◌≡◌, ℕ, List, length, All, sym, subst, arith}
use Rattle.std.proofs.lemmas.List.Elements.{All-push}
use Rattle.set_shapes.specs.Elements.{Branch, IsBranchOver}
use Rattle.set_shapes.proofs.AllBranches.{TellSome, bits_for_item, tell_more}
use Rattle.set_shapes.proofs.branches.branches_of.Goals as goal

pub branch_of-requires-clause-bits : goal.branch_of-requires-clause-bits
branch_of-requires-clause-bits c =
    bits_for_item c.args.layout.now c.args.bits.now c.args.index.now c.args.set.now c.index-items-number.result c.args.items.now c.loop-number.number c.loop-number-test.true c.index-items-number.is c.requires.bits

pub loop-number-preserved : goal.loop-number-preserved
loop-number-preserved c =
    let P : Branch → Type 0 = IsBranchOver (length c.args.bits.now) in
    let before : List Branch = c.loop-number.machines.items in
    let m : Branch = c.in_ok-branch_of.field-0 in (
      subst (All P) (sym c.in_ok-push.ensures.items) (All-push P before m c.loop-number.invariant.0 c.in_ok-branch_of.ensures.over),
      tell_more c.args.layout.now c.args.bits.now c.args.index.now c.args.set.now c.index-items-number.result c.args.items.now c.loop-number.number before c.push.new.self.items m
          c.loop-number-test.true c.index-items-number.is c.in_ok-push.ensures.items c.loop-number.invariant.1 c.in_ok-branch_of.ensures.tells,
    )

pub returns-clause-tells : goal.returns-clause-tells
returns-clause-tells c =
    let low = c.loop-number-test.false in
    let high = c.loop-number.auto.number-end in
    let same : c.loop-number.number ≡ length c.args.items.now = omega (arith, low, high) in
    subst (λ (n : ℕ). TellSome c.args.layout.now c.args.bits.now c.args.index.now c.args.set.now c.args.items.now n c.loop-number.machines.items) same c.loop-number.invariant.1
