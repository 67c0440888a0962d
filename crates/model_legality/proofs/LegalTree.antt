-- The problem of a tree without faults is a problem.
use Rattle.std.proofs.Common.{◌≡◌, ℕ, ◌+◌, Bool, List, [], ◌∷◌, ◌++◌, length, map, if◌then◌else◌, Option, Some, refl, sym, ap, subst, ◌∙◌, arith, append_assoc}
use Rattle.std.specs.Prelude.{All}
use Rattle.std.specs.List.{flat_map}
use Rattle.std.proofs.lemmas.Option.{same_Some}
use Rattle.std.proofs.lemmas.List.{append-nil, length-append, length-map}
use Rattle.std.proofs.lemmas.List.Sums.{sum_by-cons}
use Rattle.std.proofs.lemmas.List.Elements.{All-append, All-head, All-tail, All-weaker}
use Rattle.fzn_parser.specs.declared.tree.Form.{Form}
use Rattle.fzn_parser.specs.declared.tree.Form.TheVariants as forms
use Rattle.fzn_parser.specs.declared.tree.Item.{Item}
use Rattle.fzn_parser.specs.declared.tree.Tree.{Tree}
use Rattle.fzn_parser.specs.Places.{EndsInSolve, IsSolve}
use Rattle.set_meaning.specs.declared.kinds.Kind.{Kind}
use Rattle.set_meaning.specs.declared.problems.Constraint.{Constraint}
use Rattle.set_meaning.specs.declared.problems.Shown.{Shown}
use Rattle.set_meaning.specs.declared.problems.Goal.{Goal}
use Rattle.set_meaning.specs.declared.problems.Problem.{Problem}
use Rattle.set_meaning.specs.Problems.{IsGoal, IsKind, IsProblem, IsShown}
use Rattle.set_meaning.specs.Rows.{FitsRow}
use Rattle.fzn_model.specs.Lists.{append_some, each_after}
use Rattle.fzn_model.specs.Items.{is_variable}
use Rattle.fzn_model.specs.Entities.{Naming, count_variables, naming_after}
use Rattle.fzn_model.specs.ProblemOf.{constraints_after, goals_after, goals_in, kinds_in, kinds_of, names_in, problem_of, shown_after, the_goal}
use Rattle.fzn_model.specs.FaultsOf.{HasNoFault}
use Rattle.fzn_model.specs.Files.{IsProblemOfTree}
use Rattle.model_legality.proofs.Splits.{AreTwo, bind_some, cut, each_all, two}
use Rattle.model_legality.proofs.MoreVariables.{fits_more, shown_more}
use Rattle.model_legality.proofs.KnownNames.{IsKnown, front_is_known, none_at}
use Rattle.model_legality.proofs.LegalItems.{IsLegalGoal, constraints_fit, shown_are, solve_legal}

-- the parts of a tree's problem
record HasParts (tree : Tree) (p : Problem) : Type 0 where
  kinds : List Kind
  of_goals : List (Goal × List Kind)
  one : Goal × List Kind
  known : kinds_of tree.items ≡ Some kinds
  constraints : each_after constraints_after [] tree.items ≡ Some p.constraints
  shown : each_after shown_after [] tree.items ≡ Some p.shown
  goals : each_after goals_after [] tree.items ≡ Some of_goals
  the : the_goal of_goals ≡ Some one
  kinds_are : kinds ++ one.1 ≡ p.kinds
  names_are : flat_map (λ item. names_in item.form) tree.items ++ map (λ k. []) one.1 ≡ p.names
  goal_is : one.0 ≡ p.goal

parts : (tree : Tree) (p : Problem) → problem_of tree ≡ Some p → HasParts tree p
parts tree p e =
    let k = bind_some (kinds_of tree.items) _ p e in
    let c = bind_some (each_after constraints_after [] tree.items) _ p k.2 in
    let s = bind_some (each_after shown_after [] tree.items) _ p c.2 in
    let g = bind_some (each_after goals_after [] tree.items) _ p s.2 in
    let o = bind_some (the_goal g.0) _ p g.2 in
    let names : List (List ℕ) = flat_map (λ (item : Item). names_in item.form) tree.items ++ map (λ (k : Kind). []) o.0.1 in
    let same : record { kinds = k.0 ++ o.0.1; names = names; constraints = c.0; goal = o.0.0; shown = s.0 } ≡ p =
    same_Some (record { kinds = k.0 ++ o.0.1; names = names; constraints = c.0; goal = o.0.0; shown = s.0 }) p o.2 in
    record {
      kinds = k.0;
      of_goals = g.0;
      one = o.0;
      known = k.1;
      constraints = c.1 ∙ ap (λ (q : Problem). Some q.constraints) same;
      shown = s.1 ∙ ap (λ (q : Problem). Some q.shown) same;
      goals = g.1;
      the = o.1;
      kinds_are = ap (λ (q : Problem). q.kinds) same;
      names_are = ap (λ (q : Problem). q.names) same;
      goal_is = ap (λ (q : Problem). q.goal) same;
    }

-- ---- names

abbrev one_if : Bool → ℕ
one_if b = if b then 1 else 0

name_count : (form : Form) → length (names_in form) ≡ one_if (is_variable form)
name_count forms.Predicate = refl
name_count (forms.Param t i anns e) = refl
name_count (forms.Variable t i anns e) = refl
name_count (forms.Array len is_var t i anns at items) = refl
name_count (forms.Constraint i es anns) = refl
name_count (forms.Solve anns g) = refl

names_count : (items : List Item) → length (flat_map (λ item. names_in item.form) items) ≡ count_variables items
names_count [] = refl
names_count (item ∷ items) =
    let own : length (names_in item.form) ≡ one_if (is_variable item.form) = name_count item.form in
    let rest : length (flat_map (λ (i : Item). names_in i.form) items) ≡ count_variables items = names_count items in
    let others : List (List ℕ) = flat_map (λ (i : Item). names_in i.form) items in
    let both : length (names_in item.form ++ others) ≡ length (names_in item.form) + length others = length-append (names_in item.form) others in
    let all : count_variables (item ∷ items) ≡ one_if (is_variable item.form) + count_variables items =
    sum_by-cons (λ (i : Item). one_if (is_variable i.form)) item items in
    omega (arith, own, rest, both, all)

-- ---- the one solve item

abbrev kinds_at : List Item → Item → Option (List Kind)
kinds_at before item = kinds_in item.form

no_goal : (naming : Naming) (number : ℕ) (form : Form) → (IsSolve form → ⊥) → goals_in naming number form ≡ Some []
no_goal naming number forms.Predicate h = refl
no_goal naming number (forms.Param t i anns e) h = refl
no_goal naming number (forms.Variable t i anns e) h = refl
no_goal naming number (forms.Array len is_var t i anns at items) h = refl
no_goal naming number (forms.Constraint i es anns) h = refl
no_goal naming number (forms.Solve anns g) h = absurd (h tt)

no_goals : (done items : List Item) → All (λ item. IsSolve item.form → ⊥) items → each_after goals_after done items ≡ Some []
no_goals done [] h = refl
no_goals done (x ∷ xs) h =
    λ i. append_some
    (no_goal (naming_after done) (count_variables done) x.form (All-head (λ (item : Item). IsSolve item.form → ⊥) x xs h) i)
    (no_goals (done ++ x ∷ []) xs (All-tail (λ (item : Item). IsSolve item.form → ⊥) x xs h) i)

no_kind : (form : Form) → IsSolve form → kinds_in form ≡ Some []
no_kind forms.Predicate h = absurd h
no_kind (forms.Param t i anns e) h = absurd h
no_kind (forms.Variable t i anns e) h = absurd h
no_kind (forms.Array len is_var t i anns at items) h = absurd h
no_kind (forms.Constraint i es anns) h = absurd h
no_kind (forms.Solve anns g) h = refl

-- the list of the middle, where nothing is on either side
middle : {A : Type 0} (all front last back : List A) → all ≡ front ++ (last ++ back) → [] ≡ front → [] ≡ back → last ≡ all
middle all front last back is f b =
    sym (append-nil last) ∙ (ap (λ xs. last ++ xs) b ∙ (ap (λ xs. xs ++ (last ++ back)) f ∙ sym is))

-- ---- all of it

-- the kinds of all: those before an item, those that it declares, and others
record AreAround (kinds : List Kind) (front : List Item) (item : Item) : Type 0 where
  before : IsKnown front
  new : List Kind
  others : List Kind
  new_are : kinds_in item.form ≡ Some new
  all : (before.kinds ++ new) ++ others ≡ kinds

module _ (tree : Tree) (faultless : HasNoFault tree) (kinds more : List Kind) (known : kinds_of tree.items ≡ Some kinds) where
  around : (front : List Item) (item : Item) (back : List Item) → tree.items ≡ front ++ item ∷ back → AreAround (kinds ++ more) front item
  around front item back split =
      let k : IsKnown front = front_is_known tree faultless front (item ∷ back) split in
      let c : AreTwo (kinds_of front) (each_after kinds_at front (item ∷ back)) kinds =
      cut kinds_at [] front (item ∷ back) kinds (ap kinds_of (sym split) ∙ known) in
      let t : AreTwo (kinds_in item.form) (each_after kinds_at (front ++ item ∷ []) back) c.back =
      two (kinds_in item.form) (each_after kinds_at (front ++ item ∷ []) back) c.back c.second in
      let same : k.kinds ≡ c.front = same_Some k.kinds c.front (sym k.kinds_are ∙ c.first) in
      let regrouped : k.kinds ++ (t.front ++ (t.back ++ more)) ≡ c.front ++ ((t.front ++ t.back) ++ more) =
      λ i. same i ++ sym (append_assoc t.front t.back more) i in
      record {
        before = k;
        new = t.front;
        others = t.back ++ more;
        new_are = t.first;
        all =
            append_assoc k.kinds t.front (t.back ++ more) ∙ (regrouped
            ∙ (ap (λ (ks : List Kind). c.front ++ (ks ++ more)) (sym t.all)
            ∙ (sym (append_assoc c.front c.back more) ∙ ap (λ (ks : List Kind). ks ++ more) (sym c.all))));
      }

  constraints_legal : (cs : List Constraint) → each_after constraints_after [] tree.items ≡ Some cs → All (FitsRow (kinds ++ more)) cs
  constraints_legal cs is = each_all constraints_after (FitsRow (kinds ++ more)) [] tree.items cs is (λ front item back ys split e.
      let a : AreAround (kinds ++ more) front item = around front item back split in
      let here : List Kind = a.before.kinds ++ a.new in
      let fit : All (FitsRow here) ys =
      constraints_fit front a.before item.at item.form (none_at tree faultless front item back split) a.new a.new_are ys e in
      subst (λ (ks : List Kind). All (FitsRow ks) ys) a.all
      (All-weaker (FitsRow here) (FitsRow (here ++ a.others)) (fits_more here a.others) ys fit))

  shown_legal : (ss : List Shown) → each_after shown_after [] tree.items ≡ Some ss → All (IsShown (kinds ++ more)) ss
  shown_legal ss is = each_all shown_after (IsShown (kinds ++ more)) [] tree.items ss is (λ front item back ys split e.
      let a : AreAround (kinds ++ more) front item = around front item back split in
      let here : List Kind = a.before.kinds ++ a.new in
      let are : All (IsShown here) ys =
      shown_are front a.before item.at item.form (none_at tree faultless front item back split) a.new a.new_are ys e in
      subst (λ (ks : List Kind). All (IsShown ks) ys) a.all
      (All-weaker (IsShown here) (IsShown (here ++ a.others)) (shown_more here a.others) ys are))

  legal_goal : EndsInSolve tree → (gs : List (Goal × List Kind)) → each_after goals_after [] tree.items ≡ Some gs
      → (g : Goal × List Kind) → the_goal gs ≡ Some g → IsLegalGoal kinds g
  legal_goal ends gs is g the =
      let k : IsKnown ends.front = front_is_known tree faultless ends.front (ends.last ∷ []) ends.items_are in
      let c : AreTwo (kinds_of ends.front) (each_after kinds_at ends.front (ends.last ∷ [])) kinds =
      cut kinds_at [] ends.front (ends.last ∷ []) kinds (ap kinds_of (sym ends.items_are) ∙ known) in
      let ct : AreTwo (kinds_in ends.last.form) (Some []) c.back = two (kinds_in ends.last.form) (Some []) c.back c.second in
      let kinds_front : [] ≡ ct.front = same_Some [] ct.front (sym (no_kind ends.last.form ends.solve) ∙ ct.first) in
      let kinds_back : [] ≡ ct.back = same_Some [] ct.back ct.second in
      let empty : [] ≡ ct.front ++ ct.back = λ i. kinds_front i ++ kinds_back i in
      let nothing : [] ≡ c.back = empty ∙ sym ct.all in
      let kinds_same : k.kinds ≡ kinds =
      same_Some k.kinds c.front (sym k.kinds_are ∙ c.first)
      ∙ (sym (append-nil c.front) ∙ (ap (λ (ks : List Kind). c.front ++ ks) nothing ∙ sym c.all)) in
      let d : AreTwo (each_after goals_after [] ends.front) (each_after goals_after ends.front (ends.last ∷ [])) gs =
      cut goals_after [] ends.front (ends.last ∷ []) gs (ap (each_after goals_after []) (sym ends.items_are) ∙ is) in
      let dt : AreTwo (goals_after ends.front ends.last) (Some []) d.back =
      two (goals_after ends.front ends.last) (Some []) d.back d.second in
      let goals_front : [] ≡ d.front = same_Some [] d.front (sym (no_goals [] ends.front ends.others) ∙ d.first) in
      let goals_back : [] ≡ dt.back = same_Some [] dt.back dt.second in
      let goals_same : dt.front ≡ gs =
      middle gs d.front dt.front dt.back (d.all ∙ ap (λ (xs : List (Goal × List Kind)). d.front ++ xs) dt.all) goals_front goals_back in
      subst (λ (ks : List Kind). IsLegalGoal ks g) kinds_same
      (solve_legal ends.front k ends.last.at ends.last.form ends.solve
      (none_at tree faultless ends.front ends.last [] ends.items_are) gs (dt.first ∙ ap Some goals_same) g the)

pub problem_is_legal : (tree : Tree) (p : Problem) → EndsInSolve tree → IsProblemOfTree tree p → IsProblem p
problem_is_legal tree p ends is =
    let it : HasParts tree p = parts tree p is.problem in
    let whole : IsKnown tree.items = front_is_known tree is.faultless tree.items [] (sym (append-nil tree.items)) in
    let same : whole.kinds ≡ it.kinds = same_Some whole.kinds it.kinds (sym whole.kinds_are ∙ it.known) in
    let g : IsLegalGoal it.kinds it.one = legal_goal tree is.faultless it.kinds it.one.1 it.known ends it.of_goals it.goals it.one it.the in
    let named : List (List ℕ) = flat_map (λ (item : Item). names_in item.form) tree.items in
    let unnamed : List (List ℕ) = map (λ (k : Kind). []) it.one.1 in
    let names : length named ≡ count_variables tree.items = names_count tree.items in
    let names_more : length unnamed ≡ length it.one.1 = length-map {B = List ℕ} it.one.1 (λ k. []) in
    let names_all : length (named ++ unnamed) ≡ length named + length unnamed = length-append named unnamed in
    let names_are : length (named ++ unnamed) ≡ length p.names = ap length it.names_are in
    let kinds : count_variables tree.items ≡ length it.kinds = whole.counted ∙ ap length same in
    let kinds_all : length (it.kinds ++ it.one.1) ≡ length it.kinds + length it.one.1 = length-append it.kinds it.one.1 in
    let kinds_are : length (it.kinds ++ it.one.1) ≡ length p.kinds = ap length it.kinds_are in
    record {
      kinds = subst (All IsKind) it.kinds_are (All-append IsKind it.kinds it.one.1 (subst (All IsKind) same whole.legal) g.legal);
      names = omega (arith, names, names_all, names_more, names_are, kinds, kinds_all, kinds_are);
      constraints = subst (λ (ks : List Kind). All (FitsRow ks) p.constraints) it.kinds_are
          (constraints_legal tree is.faultless it.kinds it.one.1 it.known p.constraints it.constraints);
      goal = subst (IsGoal p.kinds) it.goal_is (subst (λ (ks : List Kind). IsGoal ks it.one.0) it.kinds_are g.goal);
      shown = subst (λ (ks : List Kind). All (IsShown ks) p.shown) it.kinds_are
          (shown_legal tree is.faultless it.kinds it.one.1 it.known p.shown it.shown);
    }
