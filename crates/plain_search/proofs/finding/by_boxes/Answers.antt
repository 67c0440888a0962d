use Rattle.std.proofs.Common.{ℕ, Bool, List, sym, subst}
use Rattle.search_rules.specs.Box.{IsBoxSame}
use Rattle.search_rules.specs.Trail.{IsStored, IsLearned}
use Rattle.plain_steps.specs.Sets.{family}
use Rattle.plain_search.specs.State.{boxes_of}
use Rattle.plain_search.specs.Moves.{IsFound}
use Rattle.plain_search.specs.declared.finding.Found.{Found}
use Rattle.plain_search.proofs.FindLemmas.{found_other, same_more, stored_at}
use Rattle.plain_search.proofs.finding.by_boxes.Goals as goal

pub returns-in_default : goal.returns-in_default
returns-in_default g c =
    let p = g.T.Task.plain c.args.task.now in
    let f = family c.args.family.now in
    let stored = subst (λ (s : List (List ℕ)). IsStored (boxes_of c.args.boxes.now) (family s)) (sym c.items.ensures)
    (stored_at c.args.boxes.now c.loop-sides.sides-index c.sides-item.result c.loop-sides-test.true c.sides-item.is) in
    found_other p (boxes_of c.args.boxes.now) f (IsBoxSame (family c.items.result.now) f)
    ((b : ℕ → ℕ → Bool) → IsLearned (boxes_of c.args.boxes.now) b → IsBoxSame b f) c.in_ok-found.found c.in_default.not-Quiet
    (c.in_ok-found.ensures (boxes_of c.args.boxes.now) stored)

pub loop-sides-preserved : goal.loop-sides-preserved
loop-sides-preserved g c =
    let p = g.T.Task.plain c.args.task.now in
    let f = family c.args.family.now in
    let stored = subst (λ (s : List (List ℕ)). IsStored (boxes_of c.args.boxes.now) (family s)) (sym c.items.ensures)
    (stored_at c.args.boxes.now c.loop-sides.sides-index c.sides-item.result c.loop-sides-test.true c.sides-item.is) in
    same_more c.args.boxes.now c.loop-sides.sides-index c.sides-item.result f c.loop-sides-test.true c.sides-item.is
    c.loop-sides.invariant
    (subst (λ (s : List (List ℕ)). IsBoxSame (family s) f) c.items.ensures
    (subst (λ (found : Found). IsFound p (boxes_of c.args.boxes.now) f (IsBoxSame (family c.items.result.now) f) found) c.in-Quiet.is
    (c.in_ok-found.ensures (boxes_of c.args.boxes.now) stored)))
