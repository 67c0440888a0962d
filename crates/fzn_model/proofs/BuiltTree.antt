-- A draft of all items of a tree that ends in its one solve item is the problem of the tree.
use Rattle.std.proofs.Common.{◌≡◌, ◌⊎◌, ℕ, List, [], ◌∷◌, ◌++◌, map, Option, Some, None, is_some, refl, sym, ap, subst, ◌∙◌, inl, inr, arith}
use Rattle.std.specs.Prelude.{All, IsSome}
use Rattle.std.specs.List.{flat_map}
use Rattle.std.specs.Option.{option_map}
use Rattle.std.proofs.lemmas.Option.{none-some, same_Some}
use Rattle.std.proofs.lemmas.List.Elements.{All-head, All-tail}
use Rattle.fzn_parser.specs.declared.tree.Form.{Form}
use Rattle.fzn_parser.specs.declared.tree.Form.TheVariants as forms
use Rattle.fzn_parser.specs.declared.tree.Item.{Item}
use Rattle.fzn_parser.specs.declared.tree.Tree.{Tree}
use Rattle.fzn_parser.specs.Places.{EndsInSolve, IsSolve}
use Rattle.set_meaning.specs.declared.kinds.Kind.{Kind}
use Rattle.set_meaning.specs.declared.problems.Constraint.{Constraint}
use Rattle.set_meaning.specs.declared.problems.Shown.{Shown}
use Rattle.set_meaning.specs.declared.problems.Goal.{Goal}
use Rattle.set_meaning.specs.declared.problems.Problem.{Problem}
use Rattle.fzn_model.specs.declared.drafts.Draft.{Draft}
use Rattle.fzn_model.specs.Lists.{◌>>=◌, append_some, each_after}
use Rattle.fzn_model.specs.Entities.{Naming, count_variables, naming_after}
use Rattle.fzn_model.specs.ProblemOf.{goal_of, goals_after, goals_in, names_in, problem_of, the_goal}
use Rattle.fzn_model.specs.Builds.{IsBuilt, problem_from}
use Rattle.fzn_model.specs.Drafts.{IsDraft}
use Rattle.fzn_model.specs.Files.{IsProblemOfTree}
use Rattle.fzn_model.proofs.Steps.{each_more}
use Rattle.fzn_model.proofs.FirstOfTree.{none_in_tree}

no_goal : (naming : Naming) (number : ℕ) (form : Form) → (IsSolve form → ⊥) → goals_in naming number form ≡ Some []
no_goal naming number forms.Predicate h = refl
no_goal naming number (forms.Param t i anns e) h = refl
no_goal naming number (forms.Variable t i anns e) h = refl
no_goal naming number (forms.Array len is_var t i anns at items) h = refl
no_goal naming number (forms.Constraint i es anns) h = refl
no_goal naming number (forms.Solve anns g) h = absurd (h tt)

no_goals : (done items : List Item) → All (λ item. IsSolve item.form → ⊥) items → each_after goals_after done items ≡ Some []
no_goals done [] h = refl
no_goals done (x ∷ xs) h =
    λ i. append_some
    (no_goal (naming_after done) (count_variables done) x.form (All-head (λ (item : Item). IsSolve item.form → ⊥) x xs h) i)
    (no_goals (done ++ x ∷ []) xs (All-tail (λ (item : Item). IsSolve item.form → ⊥) x xs h) i)

one_goal : (naming : Naming) (number : ℕ) (form : Form) (gs : List (Goal × List Kind)) → IsSolve form → goals_in naming number form ≡ Some gs → IsSome (the_goal gs)
one_goal naming number forms.Predicate gs h e = absurd h
one_goal naming number (forms.Param t i anns x) gs h e = absurd h
one_goal naming number (forms.Variable t i anns x) gs h e = absurd h
one_goal naming number (forms.Array len is_var t i anns at items) gs h e = absurd h
one_goal naming number (forms.Constraint i es anns) gs h e = absurd h
one_goal naming number (forms.Solve anns g) gs h e = by (goal_of naming number g) refl
  where
    by : (o : Option (Goal × List Kind)) → goal_of naming number g ≡ o → IsSome (the_goal gs)
    by None q = absurd (none-some gs (sym (ap (λ o. option_map (λ (x : Goal × List Kind). x ∷ []) o) q) ∙ e))
    by (Some x) q =
        let same : x ∷ [] ≡ gs = same_Some (x ∷ []) gs (sym (ap (λ o. option_map (λ (y : Goal × List Kind). y ∷ []) o) q) ∙ e) in
        ap (λ ys. is_some (the_goal ys)) (sym same)

pub has_goal : (tree : Tree) (draft : Draft) → EndsInSolve tree → IsBuilt tree.items draft → IsSome (the_goal draft.goals.items)
has_goal tree draft ends built =
    one_goal (naming_after ends.front) (count_variables ends.front) ends.last.form draft.goals.items ends.solve (sym own ∙ built.draft_is.goals)
  where
    own : each_after goals_after [] tree.items ≡ goals_after ends.front ends.last
    own =
        ap (each_after goals_after []) ends.items_are
        ∙ (each_more goals_after [] ends.front ends.last
        ∙ (ap (λ o. append_some o (goals_after ends.front ends.last)) (no_goals [] ends.front ends.others) ∙ behind (goals_after ends.front ends.last)))
      where
        behind : (o : Option (List (Goal × List Kind))) → append_some (Some []) o ≡ o
        behind None = refl
        behind (Some xs) = refl

-- the problem of these parts
abbrev assembled : Option (List Kind) → Option (List Constraint) → Option (List Shown) → Option (List (Goal × List Kind)) → List (List ℕ) → Option Problem
assembled ks cs ss gs names = do
  kinds ← ks
  constraints ← cs
  shown ← ss
  goals ← gs
  g ← the_goal goals
  Some (record {
    kinds = kinds ++ g.1;
    names = names ++ map (λ k. []) g.1;
    constraints = constraints;
    goal = g.0;
    shown = shown;
  })

pub problem_is : (tree : Tree) (draft : Draft) (p : Problem) → IsBuilt tree.items draft → problem_from draft ≡ Some p → IsProblemOfTree tree p
problem_is tree draft p built e = record {
  faultless = none_in_tree tree built.faultless;
  problem = (λ i. assembled (built.draft_is.state.known i) (built.draft_is.constraints i) (built.draft_is.shown i) (built.draft_is.goals i) (sym built.draft_is.names i)) ∙ e;
}

-- of goals of which there is one it is the last
pub last_goal : (goals front : List (Goal × List Kind)) (g : Goal × List Kind) → goals ≡ front ++ g ∷ [] → IsSome (the_goal goals) → the_goal goals ≡ Some g
last_goal goals [] g e h = ap the_goal e
last_goal goals (x ∷ []) g e h = let n = sym (ap (λ gs. is_some (the_goal gs)) e) ∙ h in absurd (cc)
last_goal goals (x ∷ y ∷ front) g e h = let n = sym (ap (λ gs. is_some (the_goal gs)) e) ∙ h in absurd (cc)
