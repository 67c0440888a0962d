-- The constraints that the items of a tree without faults add keep the limits.
use Rattle.std.proofs.Common.{◌≡◌, ℕ, ◌+◌, ◌≤◌, List, [], ◌∷◌, ◌++◌, length, Some, None, refl, sym, ap, subst, ◌∙◌, inl, inr, arith, append_assoc}
use Rattle.std.specs.Prelude.{All, sum_by, count_by}
use Rattle.std.specs.List.{flat_map}
use Rattle.std.proofs.lemmas.Option.{same_Some}
use Rattle.std.proofs.lemmas.List.{length-append}
use Rattle.std.proofs.lemmas.List.Sums.{sum_by-cons, sum_by_push}
use Rattle.std.proofs.lemmas.List.Elements.{All-cons, All-head, All-nil}
use Rattle.fzn_parser.specs.declared.tree.Expr.{Expr}
use Rattle.fzn_parser.specs.declared.tree.Ident.{Ident}
use Rattle.fzn_parser.specs.declared.tree.Ann.{Ann}
use Rattle.fzn_parser.specs.declared.tree.TypeExpr.{TypeExpr}
use Rattle.fzn_parser.specs.declared.tree.Form.{Form}
use Rattle.fzn_parser.specs.declared.tree.Form.TheVariants as forms
use Rattle.fzn_parser.specs.declared.tree.Item.{Item}
use Rattle.fzn_parser.specs.declared.tree.Tree.{Tree}
use Rattle.fzn_parser.specs.Places.{numbers_in, numbers_in_expression, numbers_in_type}
use Rattle.set_meaning.specs.declared.kinds.Kind.{Kind}
use Rattle.set_meaning.specs.declared.problems.Arg.{Arg}
use Rattle.set_meaning.specs.declared.problems.Arg.TheVariants.{One}
use Rattle.set_meaning.specs.declared.problems.Constraint.{Constraint}
use Rattle.set_meaning.specs.Relations.{IsScope}
use Rattle.problem_limits.specs.Limits.{IsWithinLimits, width_in}
use Rattle.fzn_model.specs.declared.faults.ModelFault.TheVariants as faults
use Rattle.fzn_model.specs.Lists.{each_after, sum_after}
use Rattle.fzn_model.specs.Items.{adds_constraint}
use Rattle.fzn_model.specs.Entities.{Naming, count_variables, naming_after, variable}
use Rattle.fzn_model.specs.ProblemOf.{constraint_named, constraints_after, constraints_in, equality_of, kinds_of}
use Rattle.fzn_model.specs.FaultsOf.{HasNoFault, IsFaultAfter, bits_at, terms_after}
use Rattle.fzn_model.specs.FirstFault.{AreNone}
use Rattle.fzn_model.proofs.ConstraintRules.{sum_after_push}
use Rattle.fzn_model.proofs.Sound.{le_unless}
use Rattle.model_limits.proofs.FineTerms.{IsFineNaming, IsSmallAt, rest_all}
use Rattle.model_limits.proofs.FineNames.{AreSmallInItem, naming_fine, one_if}
use Rattle.model_limits.proofs.FineConstraints.{IsGood, count_terms, counted_in, equality_good, equality_is, map_some, named_good}
use Rattle.model_limits.proofs.NarrowScopes.{IsThin, small_terms, within_more}
use Rattle.model_limits.proofs.NarrowEqualities.{equality_narrow, one_value}
use Rattle.model_limits.proofs.Splits.{all_back, by_prefixes, cut, each_all, part_of_sum, two}
use Rattle.model_limits.proofs.KeptKinds.{counted, kinds_at, none_at, small_at, small_before}

-- ---- how many there are, and how many terms

abbrev pub count_constraints : List Item → ℕ
count_constraints items = count_by (λ item. adds_constraint item.form) items

abbrev IsShortSoFar : List Item → Type 0
IsShortSoFar items = (sum_after terms_after [] items ≤ 4194304) × (count_constraints items ≤ 100000)

still_short : (before : List Item) (at : ℕ) (form : Form) → one_if (adds_constraint form) ≡ 0 → terms_after before (record { at = at; form = form }) ≡ 0
    → IsShortSoFar before → IsShortSoFar (before ++ record { at = at; form = form } ∷ [])
still_short before at form c t old =
    let item : Item = record { at = at; form = form } in
    let terms : sum_after terms_after [] (before ++ item ∷ []) ≡ sum_after terms_after [] before + terms_after before item =
    sum_after_push terms_after [] before item in
    let count : count_constraints (before ++ item ∷ []) ≡ count_constraints before + one_if (adds_constraint form) =
    sum_by_push (λ (i : Item). one_if (adds_constraint i.form)) before item in
    let a = old.0 in
    let b = old.1 in
    (omega (arith, terms, t, a), omega (arith, count, c, b))

short_next : (before : List Item) (at : ℕ) (form : Form) → AreNone (IsFaultAfter before (record { at = at; form = form })) → IsShortSoFar before
    → IsShortSoFar (before ++ record { at = at; form = form } ∷ [])
short_next before at forms.Predicate none old = still_short before at forms.Predicate refl refl old
short_next before at (forms.Param t ident anns e) none old = still_short before at (forms.Param t ident anns e) refl refl old
short_next before at (forms.Variable t ident anns None) none old = still_short before at (forms.Variable t ident anns None) refl refl old
short_next before at (forms.Variable t ident anns (Some e)) none old = (
  le_unless 4194304 (sum_after terms_after [] (before ++ record { at = at; form = forms.Variable t ident anns (Some e) } ∷ []))
      (λ w. none (faults.TooManyConstraints ident.at) (inr (inr (inl (refl, inr (record { good = λ g h. none g (inl h); many = w })))))),
  le_unless 100000 (count_constraints (before ++ record { at = at; form = forms.Variable t ident anns (Some e) } ∷ []))
      (λ w. none (faults.TooManyConstraints ident.at) (inr (inr (inl (refl, inl w))))),
)
short_next before at (forms.Array len is_var t ident anns items_at items) none old =
    still_short before at (forms.Array len is_var t ident anns items_at items) refl refl old
short_next before at (forms.Constraint ident es anns) none old = (
  le_unless 4194304 (sum_after terms_after [] (before ++ record { at = at; form = forms.Constraint ident es anns } ∷ []))
      (λ w. none (faults.TooManyConstraints ident.at) (inr (inr (inl (refl, inr (record { good = λ g h. none g (inl h); many = w })))))),
  le_unless 100000 (count_constraints (before ++ record { at = at; form = forms.Constraint ident es anns } ∷ []))
      (λ w. none (faults.TooManyConstraints ident.at) (inr (inr (inl (refl, inl w))))),
)
short_next before at (forms.Solve anns goal) none old = still_short before at (forms.Solve anns goal) refl refl old

pub short : (tree : Tree) → HasNoFault tree → IsShortSoFar tree.items
short tree faultless =
    by_prefixes IsShortSoFar tree.items (omega arith, omega arith)
    (λ front item back split old. short_next front item.at item.form (none_at tree faultless front item back split) old)

count_by_form : (naming : Naming) (number : ℕ) (form : Form) (ys : List Constraint) → constraints_in naming number form ≡ Some ys
    → length ys ≡ one_if (adds_constraint form)
count_by_form naming number forms.Predicate ys is = ap length (sym (same_Some [] ys is))
count_by_form naming number (forms.Param t ident anns e) ys is = ap length (sym (same_Some [] ys is))
count_by_form naming number (forms.Variable t ident anns None) ys is = ap length (sym (same_Some [] ys is))
count_by_form naming number (forms.Variable t ident anns (Some e)) ys is =
    let m = map_some (equality_of naming number t.form e) (λ c. c ∷ []) ys is in ap length (sym m.2)
count_by_form naming number (forms.Array len is_var t ident anns items_at items) ys is = ap length (sym (same_Some [] ys is))
count_by_form naming number (forms.Constraint ident es anns) ys is =
    let m = map_some (constraint_named naming ident.name es) (λ c. c ∷ []) ys is in ap length (sym m.2)
count_by_form naming number (forms.Solve anns goal) ys is = ap length (sym (same_Some [] ys is))

pub how_many : (done items : List Item) (cs : List Constraint) → each_after constraints_after done items ≡ Some cs
    → length cs ≡ count_constraints items
how_many done [] cs is = ap length (sym (same_Some [] cs is))
how_many done (item ∷ items) cs is =
    let t = two (constraints_after done item) (each_after constraints_after (done ++ item ∷ []) items) cs is in
    let own : length t.front ≡ one_if (adds_constraint item.form) = count_by_form (naming_after done) (count_variables done) item.form t.front t.first in
    let rest : length t.back ≡ count_constraints items = how_many (done ++ item ∷ []) items t.back t.second in
    let all : length cs ≡ length t.front + length t.back = ap length t.all ∙ length-append t.front t.back in
    let count : count_constraints (item ∷ items) ≡ one_if (adds_constraint item.form) + count_constraints items =
    sum_by-cons (λ (i : Item). one_if (adds_constraint i.form)) item items in
    omega (arith, own, rest, all, count)

-- ---- each of them

module _ (front : List Item) (kinds more : List Kind) (known : kinds_of front ≡ Some kinds) (thin : All IsThin (kinds ++ more))
    (fine : IsFineNaming (count_variables front) (naming_after front)) where
  number_is : length kinds ≡ count_variables front
  number_is = counted front kinds known

  of_constraint : (at : ℕ) (ident : Ident) (es : List Expr) (anns : List Ann) (c : Constraint)
      → AreNone (IsFaultAfter front (record { at = at; form = forms.Constraint ident es anns })) → All IsSmallAt (flat_map numbers_in_expression es)
      → terms_after front (record { at = at; form = forms.Constraint ident es anns }) ≤ 4194304
      → constraint_named (naming_after front) ident.name es ≡ Some c → IsWithinLimits (kinds ++ more) c
  of_constraint at ident es anns c none small few is =
      let good : IsGood (count_variables front) (sum_by (counted_in (naming_after front)) es) c =
      named_good (count_variables front) (naming_after front) fine ident.name es c is (rest_all IsSmallAt numbers_in_expression es small) in
      within_more kinds more (sum_by (counted_in (naming_after front)) es) c
      (subst (λ n. IsGood n (sum_by (counted_in (naming_after front)) es) c) (sym number_is) good)
      (omega (arith, few))
      (λ scope scoped. le_unless 2048 (sum_by (bits_at kinds) scope) (λ w. none (faults.ScopeTooWide ident.at) (inr (inr (inl (record {
        good = λ g h. none g (inl h);
        constraint = c;
        is = (refl, is);
        scope = scope;
        scoped = scoped;
        kinds = kinds;
        known = known;
        wide = w;
      }))))))

  of_value : (at : ℕ) (t : TypeExpr) (ident : Ident) (anns : List Ann) (e : Expr) (c : Constraint)
      → AreNone (IsFaultAfter front (record { at = at; form = forms.Variable t ident anns (Some e) })) → All IsSmallAt (numbers_in_expression e)
      → terms_after front (record { at = at; form = forms.Variable t ident anns (Some e) }) ≤ 4194304
      → equality_of (naming_after front) (count_variables front) t.form e ≡ Some c → IsWithinLimits (kinds ++ more) c
  of_value at t ident anns e c none small few is =
      let q = equality_is (naming_after front) (count_variables front) t.form e c is in
      let good : IsGood (count_variables front + 1) (1 + sum_by (counted_in (naming_after front)) (e ∷ [])) c =
      equality_good (count_variables front) (naming_after front) fine e c q.0 q.1 small in
      let single = one_value front at t ident anns e q.2 q.0.arg none q.3 q.1 in
      record {
        constants = small_terms (count_variables front + 1) c good.fine;
        terms = let g : count_terms c.args ≤ 1 + sum_by (counted_in (naming_after front)) (e ∷ []) = good.few in omega (arith, g, few);
        scope = λ scope scoped.
            let made : IsScope (record { relation = q.0.relation; args = variable (count_variables front) ∷ One single.0 ∷ []; reif = None }) scope =
            subst (λ (a : Arg). IsScope (record { relation = q.0.relation; args = variable (count_variables front) ∷ a ∷ []; reif = None }) scope) single.1
            (subst (λ (d : Constraint). IsScope d scope) (sym q.0.is) scoped) in
            let narrow : sum_by (width_in (kinds ++ more)) scope ≤ 1024 =
            equality_narrow (kinds ++ more) thin (count_variables front) q.0.relation single.0 scope made in
            omega (arith, narrow);
      }

  none_added : (ys : List Constraint) → Some [] ≡ Some ys → All (IsWithinLimits (kinds ++ more)) ys
  none_added ys is = subst (All (IsWithinLimits (kinds ++ more))) (same_Some [] ys is) (All-nil (IsWithinLimits (kinds ++ more)))

  one_added : (c : Constraint) → IsWithinLimits (kinds ++ more) c → All (IsWithinLimits (kinds ++ more)) (c ∷ [])
  one_added c h = All-cons (IsWithinLimits (kinds ++ more)) c [] h (All-nil (IsWithinLimits (kinds ++ more)))

  pub by_form : (at : ℕ) (form : Form) → AreNone (IsFaultAfter front (record { at = at; form = form })) → All IsSmallAt (numbers_in form)
      → terms_after front (record { at = at; form = form }) ≤ 4194304
      → (ys : List Constraint) → constraints_in (naming_after front) (count_variables front) form ≡ Some ys → All (IsWithinLimits (kinds ++ more)) ys
  by_form at forms.Predicate none small few ys is = none_added ys is
  by_form at (forms.Param t ident anns e) none small few ys is = none_added ys is
  by_form at (forms.Variable t ident anns None) none small few ys is = none_added ys is
  by_form at (forms.Variable t ident anns (Some e)) none small few ys is =
      let m = map_some (equality_of (naming_after front) (count_variables front) t.form e) (λ c. c ∷ []) ys is in
      let value = all_back IsSmallAt (numbers_in_type t.form) (flat_map numbers_in_expression (e ∷ [])) small in
      let own = All-head (λ (x : Expr). All IsSmallAt (numbers_in_expression x)) e [] (rest_all IsSmallAt numbers_in_expression (e ∷ []) value) in
      subst (All (IsWithinLimits (kinds ++ more))) m.2 (one_added m.0 (of_value at t ident anns e m.0 none own few m.1))
  by_form at (forms.Array len is_var t ident anns items_at items) none small few ys is = none_added ys is
  by_form at (forms.Constraint ident es anns) none small few ys is =
      let m = map_some (constraint_named (naming_after front) ident.name es) (λ c. c ∷ []) ys is in
      subst (All (IsWithinLimits (kinds ++ more))) m.2 (one_added m.0 (of_constraint at ident es anns m.0 none small few m.1))
  by_form at (forms.Solve anns goal) none small few ys is = none_added ys is

-- over the kinds of the tree, and more
pub each_within : (tree : Tree) → HasNoFault tree → All AreSmallInItem tree.items → (kinds more : List Kind)
    → kinds_of tree.items ≡ Some kinds → All IsThin (kinds ++ more)
    → (cs : List Constraint) → each_after constraints_after [] tree.items ≡ Some cs → All (IsWithinLimits (kinds ++ more)) cs
each_within tree faultless small kinds more known thin cs is =
    each_all constraints_after (IsWithinLimits (kinds ++ more)) [] tree.items cs is (λ front item back ys split e.
    let h = cut kinds_at [] front (item ∷ back) kinds (ap kinds_of (sym split) ∙ known) in
    let all : kinds ++ more ≡ h.front ++ (h.back ++ more) = ap (λ ks. ks ++ more) h.all ∙ append_assoc h.front h.back more in
    let part : terms_after front item ≤ sum_after terms_after [] (front ++ item ∷ back) = part_of_sum terms_after [] front item back in
    let same : sum_after terms_after [] (front ++ item ∷ back) ≡ sum_after terms_after [] tree.items = ap (sum_after terms_after []) (sym split) in
    let few : sum_after terms_after [] tree.items ≤ 4194304 = (short tree faultless).0 in
    subst (λ (ks : List Kind). All (IsWithinLimits ks) ys) (sym all)
    (by_form front h.front (h.back ++ more) h.first (subst (All IsThin) all thin)
    (naming_fine front (small_before tree.items front item back split small))
    item.at item.form (none_at tree faultless front item back split) (small_at tree.items front item back split small)
    (omega (arith, part, same, few)) ys e))
