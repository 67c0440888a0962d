-- The draft of all items is the problem of the tree, and the first fault of the first faulty item is the first of the
-- tree.
use Rattle.std.proofs.Common.{◌≡◌, ◌⊎◌, subst, inl, inr}
use Rattle.fzn_model.proofs.building.build.Goals as goal
use Rattle.fzn_model.specs.Builds.{IsBuilt, IsFirstFaulty}
use Rattle.fzn_model.proofs.BuiltTree.{has_goal, problem_is}
use Rattle.fzn_model.proofs.FirstOfTree.{first_of_tree}

pub finished-requires : goal.finished-requires
finished-requires c =
    has_goal c.args.tree.now c.in-Ok.draft (c.trees_are_in_order.ensures.solves_last _ c.args.tree.now c.requires.spelled)
    (subst (λ items. IsBuilt items c.in-Ok.draft) c.items.ensures c.in-Ok.ensures.draft)

pub returns-in_ok-problem-in-Ok-clause-problem : goal.returns-in_ok-problem-in-Ok-clause-problem
returns-in_ok-problem-in-Ok-clause-problem c =
    problem_is c.args.tree.now c.in-Ok.draft c.in_ok-problem-in-Ok.problem (subst (λ items. IsBuilt items c.in-Ok.draft) c.items.ensures c.in-Ok.ensures.draft) c.in_ok-problem-in-Ok.ensures

pub returns-in-Err-clause-fault : goal.returns-in-Err-clause-fault
returns-in-Err-clause-fault c = elim c.in-Err.ensures.fault [
  | inl m ↦ inl m
  | inr f ↦
      (let g : IsFirstFaulty c.args.tree.now.items c.in-Err.fault = subst (λ items. IsFirstFaulty items c.in-Err.fault) c.items.ensures f in
      inr (first_of_tree c.args.tree.now (c.trees_are_in_order.ensures.in_order c.requires.text c.requires.tokens c.args.tree.now c.requires.scanned c.requires.spelled)
      g.before g.item g.behind g.split g.faultless c.in-Err.fault g.first))
]
