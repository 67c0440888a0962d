-- The problem of a text keeps the limits on kinds, integers, constraints and sets.
use Rattle.std.proofs.Common.{◌≡◌, ℕ, ◌≤◌, List, [], ◌∷◌, ◌++◌, length, Some, refl, sym, ap, subst, ◌∙◌, arith}
use Rattle.std.specs.Prelude.{All, Contains, sum_by, map}
use Rattle.std.specs.List.{flat_map}
use Rattle.std.proofs.lemmas.Option.{same_Some}
use Rattle.std.proofs.lemmas.List.{append-nil}
use Rattle.std.proofs.lemmas.List.Elements.{All-append, All-head, All-tail, All-weaker}
use Rattle.fzn_parser.specs.declared.tree.Form.{Form}
use Rattle.fzn_parser.specs.declared.tree.Form.TheVariants as forms
use Rattle.fzn_parser.specs.declared.tree.Item.{Item}
use Rattle.fzn_parser.specs.declared.tree.Tree.{Tree}
use Rattle.fzn_parser.specs.Places.{EndsInSolve, IsSolve}
use Rattle.set_meaning.specs.declared.kinds.Kind.{Kind}
use Rattle.set_meaning.specs.declared.problems.Goal.{Goal}
use Rattle.set_meaning.specs.declared.problems.Problem.{Problem}
use Rattle.set_meaning.specs.Problems.{IsKind}
use Rattle.bit_layout.specs.Words.{IsLeastWidth, bit_width}
use Rattle.bit_layout.specs.Limits.{IsNarrow, counted_bits}
use Rattle.problem_limits.specs.Limits.{HasSmallNumbers, IsWithinLimits}
use Rattle.fzn_model.specs.Lists.{append_some, each_after}
use Rattle.fzn_model.specs.Entities.{Naming, count_variables, naming_after}
use Rattle.fzn_model.specs.ProblemOf.{constraints_after, goals_after, goals_in, kinds_in, kinds_of, names_in, problem_of, shown_after, the_goal}
use Rattle.fzn_model.specs.Files.{IsProblemOfTree}
use Rattle.model_limits.specs.Sizes.{KeepsSizes}
use Rattle.model_limits.specs.SetLimits.{HasSmallUniverse, KeepsSetLimits}
use Rattle.fzn_model.proofs.Among.{all_from_members}
use Rattle.model_limits.proofs.FineNames.{AreSmallInItem, naming_fine}
use Rattle.model_limits.proofs.FineConstraints.{bind_some}
use Rattle.model_limits.proofs.NarrowScopes.{IsThin}
use Rattle.model_limits.proofs.SmallKinds.{IsGoodKind, thin}
use Rattle.model_limits.proofs.Splits.{cut, two}
use Rattle.model_limits.proofs.KeptKinds.{AreFew, few_bits, good_kinds, kinds_at, none_at, small_at, small_before}
use Rattle.model_limits.proofs.KeptGoals.{CanBeAdded, of_solve}
use Rattle.model_limits.proofs.KeptConstraints.{count_constraints, each_within, how_many, short}
use Rattle.model_limits.proofs.KeptCounts.{elements_kept, terms_kept}
use Rattle.model_limits.proofs.KeptShown.{lengths_kept}
use Rattle.model_limits.proofs.KeptSets.{constraints_kept, shown_kept}

-- the parts of a tree's problem
record HasParts (tree : Tree) (p : Problem) : Type 0 where
  kinds : List Kind
  of_goals : List (Goal × List Kind)
  one : Goal × List Kind
  known : kinds_of tree.items ≡ Some kinds
  constraints : each_after constraints_after [] tree.items ≡ Some p.constraints
  shown : each_after shown_after [] tree.items ≡ Some p.shown
  goals : each_after goals_after [] tree.items ≡ Some of_goals
  the : the_goal of_goals ≡ Some one
  kinds_are : kinds ++ one.1 ≡ p.kinds

parts : (tree : Tree) (p : Problem) → problem_of tree ≡ Some p → HasParts tree p
parts tree p e =
    let k = bind_some (kinds_of tree.items) _ p e in
    let c = bind_some (each_after constraints_after [] tree.items) _ p k.2 in
    let s = bind_some (each_after shown_after [] tree.items) _ p c.2 in
    let g = bind_some (each_after goals_after [] tree.items) _ p s.2 in
    let o = bind_some (the_goal g.0) _ p g.2 in
    let names : List (List ℕ) = flat_map (λ (item : Item). names_in item.form) tree.items ++ map (λ (k : Kind). []) o.0.1 in
    let same : record { kinds = k.0 ++ o.0.1; names = names; constraints = c.0; goal = o.0.0; shown = s.0 } ≡ p =
    same_Some (record { kinds = k.0 ++ o.0.1; names = names; constraints = c.0; goal = o.0.0; shown = s.0 }) p o.2 in
    record {
      kinds = k.0;
      of_goals = g.0;
      one = o.0;
      known = k.1;
      constraints = c.1 ∙ ap (λ (q : Problem). Some q.constraints) same;
      shown = s.1 ∙ ap (λ (q : Problem). Some q.shown) same;
      goals = g.1;
      the = o.1;
      kinds_are = ap (λ (q : Problem). q.kinds) same;
    }

no_goal : (naming : Naming) (number : ℕ) (form : Form) → (IsSolve form → ⊥) → goals_in naming number form ≡ Some []
no_goal naming number forms.Predicate h = refl
no_goal naming number (forms.Param t i anns e) h = refl
no_goal naming number (forms.Variable t i anns e) h = refl
no_goal naming number (forms.Array len is_var t i anns at items) h = refl
no_goal naming number (forms.Constraint i es anns) h = refl
no_goal naming number (forms.Solve anns g) h = absurd (h tt)

no_goals : (done items : List Item) → All (λ item. IsSolve item.form → ⊥) items → each_after goals_after done items ≡ Some []
no_goals done [] h = refl
no_goals done (x ∷ xs) h =
    λ i. append_some
    (no_goal (naming_after done) (count_variables done) x.form (All-head (λ (item : Item). IsSolve item.form → ⊥) x xs h) i)
    (no_goals (done ++ x ∷ []) xs (All-tail (λ (item : Item). IsSolve item.form → ⊥) x xs h) i)

no_kind : (form : Form) → IsSolve form → kinds_in form ≡ Some []
no_kind forms.Predicate h = absurd h
no_kind (forms.Param t i anns e) h = absurd h
no_kind (forms.Variable t i anns e) h = absurd h
no_kind (forms.Array len is_var t i anns at items) h = absurd h
no_kind (forms.Constraint i es anns) h = absurd h
no_kind (forms.Solve anns g) h = refl

-- the kinds of a tree's problem: those that its items declare, and one more for a constant objective
record HasGoodKinds (tree : Tree) (p : Problem) : Type 0 where
  it : HasParts tree p
  few : AreFew (it.kinds ++ it.one.1)
  good : All IsGoodKind (it.kinds ++ it.one.1)

good_kinds_in : (tree : Tree) (p : Problem) → EndsInSolve tree → All AreSmallInItem tree.items → IsProblemOfTree tree p → HasGoodKinds tree p
good_kinds_in tree p ends small is =
    let it = parts tree p is.problem in
    let good : All IsGoodKind it.kinds = good_kinds tree is.faultless small it.kinds it.known in
    let few : AreFew it.kinds = few_bits tree is.faultless it.kinds it.known in
    let k = cut kinds_at [] ends.front (ends.last ∷ []) it.kinds (ap kinds_of (sym ends.items_are) ∙ it.known) in
    let kt = two (kinds_in ends.last.form) (Some []) k.back k.second in
    let none_there : [] ≡ kt.front = same_Some [] kt.front (sym (no_kind ends.last.form ends.solve) ∙ kt.first) in
    let nothing : [] ≡ kt.back = same_Some [] kt.back kt.second in
    let put : List Kind → List Kind = λ ks. k.front ++ ks in
    let front_is : k.front ≡ it.kinds = sym (append-nil k.front) ∙ (ap put (λ i. none_there i ++ nothing i) ∙ (ap put (sym kt.all) ∙ sym k.all)) in
    let before_known : kinds_of ends.front ≡ Some it.kinds = k.first ∙ ap Some front_is in
    let g = cut goals_after [] ends.front (ends.last ∷ []) it.of_goals (ap (each_after goals_after []) (sym ends.items_are) ∙ it.goals) in
    let gt = two (goals_after ends.front ends.last) (Some []) g.back g.second in
    let front_none : [] ≡ g.front = same_Some [] g.front (sym (no_goals [] ends.front ends.others) ∙ g.first) in
    let back_none : [] ≡ gt.back = same_Some [] gt.back gt.second in
    let all_goals : g.back ≡ it.of_goals = ap (λ (xs : List (Goal × List Kind)). xs ++ g.back) front_none ∙ sym g.all in
    let last_goals : gt.front ≡ g.back = sym (append-nil gt.front) ∙ (ap (λ (xs : List (Goal × List Kind)). gt.front ++ xs) back_none ∙ sym gt.all) in
    let goals_are : gt.front ≡ it.of_goals = last_goals ∙ all_goals in
    let added : CanBeAdded it.kinds it.one.1 =
    of_solve ends.front it.kinds before_known few (naming_fine ends.front (small_before tree.items ends.front ends.last [] ends.items_are small))
    ends.last.at ends.last.form ends.solve (none_at tree is.faultless ends.front ends.last [] ends.items_are)
    (small_at tree.items ends.front ends.last [] ends.items_are small)
    it.of_goals (gt.first ∙ ap Some goals_are) it.one it.the in
    record { it = it; few = added.few; good = All-append IsGoodKind it.kinds it.one.1 good added.good }

pub sizes_kept : ((n : ℕ) → IsLeastWidth n (bit_width n)) → (tree : Tree) (p : Problem) → EndsInSolve tree
    → ((item : Item) → Contains tree.items item → AreSmallInItem item) → IsProblemOfTree tree p → KeepsSizes p
sizes_kept law tree p ends members is =
    let small : All AreSmallInItem tree.items = all_from_members AreSmallInItem tree.items members in
    let h = good_kinds_in tree p ends small is in
    let whole : All IsGoodKind p.kinds = subst (All IsGoodKind) h.it.kinds_are h.good in
    let counted : length p.constraints ≡ count_constraints tree.items = how_many [] tree.items p.constraints h.it.constraints in
    let limit = (short tree is.faultless).1 in
    record {
      kinds = record {
        legal = All-weaker IsGoodKind IsKind (λ k g. g.legal) p.kinds whole;
        narrow = All-weaker IsGoodKind IsNarrow (λ k g. g.narrow) p.kinds whole;
        bits = (subst AreFew h.it.kinds_are h.few).bits;
      };
      numbers = All-weaker IsGoodKind HasSmallNumbers (λ k g. g.numbers) p.kinds whole;
      constraints = subst (λ (ks : List Kind). All (IsWithinLimits ks) p.constraints) h.it.kinds_are
          (each_within tree is.faultless small h.it.kinds h.it.one.1 h.it.known (All-weaker IsGoodKind IsThin (thin law) (h.it.kinds ++ h.it.one.1) h.good)
          p.constraints h.it.constraints);
      few = omega (arith, counted, limit);
    }

pub set_limits_kept : (tree : Tree) (p : Problem) → EndsInSolve tree
    → ((item : Item) → Contains tree.items item → AreSmallInItem item) → IsProblemOfTree tree p → KeepsSetLimits p
set_limits_kept tree p ends members is =
    let h = good_kinds_in tree p ends (all_from_members AreSmallInItem tree.items members) is in
    record {
      universes = All-weaker IsGoodKind HasSmallUniverse (λ k g. g.universe) p.kinds (subst (All IsGoodKind) h.it.kinds_are h.good);
      values = (subst AreFew h.it.kinds_are h.few).values;
      terms = terms_kept tree is.faultless p.constraints h.it.constraints;
      elements = elements_kept tree is.faultless p.constraints h.it.constraints;
      constants = constraints_kept tree is.faultless p.constraints h.it.constraints;
      shown = shown_kept tree is.faultless p.shown h.it.shown;
      lengths = lengths_kept tree p.shown h.it.shown;
    }
