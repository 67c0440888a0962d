-- The items so far have no fault. This project's own.
use Rattle.std.specs.Prelude.{◌≡◌, List, [], ◌∷◌, ◌++◌, map, Option, Some}
use Rattle.fzn_parser.specs.declared.tree.Item.{Item}
use Rattle.fzn_model.specs.declared.faults.ModelFault.{ModelFault}
use Rattle.fzn_model.specs.declared.drafts.Draft.{Draft}
use Rattle.set_meaning.specs.declared.problems.Problem.{Problem}
use Rattle.fzn_model.specs.Lists.{◌>>=◌}
use Rattle.fzn_model.specs.ProblemOf.{the_goal}
use Rattle.fzn_model.specs.FaultsOf.{IsFaultAfter}
use Rattle.fzn_model.specs.FirstFault.{AreNone, IsFirst}
use Rattle.fzn_model.specs.Drafts.{IsDraft}

-- no item of these has a fault behind those before it
abbrev pub AreFaultless : List Item → Type 0
AreFaultless items = (front : List Item) (item : Item) (back : List Item) → items ≡ front ++ item ∷ back → AreNone (IsFaultAfter front item)

-- the draft is that of these items, and none of them has a fault
pub record IsBuilt (before : List Item) (draft : Draft) : Type 0 where
  pub draft_is : IsDraft before draft
  pub faultless : AreFaultless before

-- the fault is the first of the first item that has one
pub record IsFirstFaulty (items : List Item) (fault : ModelFault) : Type 0 where
  pub before : List Item
  pub item : Item
  pub behind : List Item
  pub split : items ≡ before ++ item ∷ behind
  pub faultless : AreFaultless before
  pub first : IsFirst (IsFaultAfter before item) fault

-- the problem of a draft of all items
abbrev pub problem_from : Draft → Option Problem
problem_from draft = do
  g ← the_goal draft.goals.items
  Some (record {
    kinds = draft.so_far.kinds.items ++ g.1;
    names = draft.names.items ++ map (λ k. []) g.1;
    constraints = draft.constraints.items;
    goal = g.0;
    shown = draft.shown.items;
  })
