-- The constraints of a tree without faults have few terms, and few elements of constant sets, together.
use Rattle.std.proofs.Common.{◌≡◌, ℕ, ◌+◌, ◌≤◌, Bool, true, false, List, [], ◌∷◌, ◌++◌, length, reverse, if◌then◌else◌, option_to_list, Some, None, refl, sym, ap, subst, ◌∙◌, inl, inr, arith, zero-add}
use Rattle.std.specs.Prelude.{sum_by}
use Rattle.std.specs.List.{flat_map}
use Rattle.std.specs.Option.{option_and_then}
use Rattle.std.proofs.lemmas.Option.{none-some, same_Some}
use Rattle.std.proofs.lemmas.List.{append-nil, length-append, reverse-append, reverse-reverse}
use Rattle.std.proofs.lemmas.List.Concat.{length-flat_map}
use Rattle.std.proofs.lemmas.List.Sums.{sum_by-append, sum_by-cons}
use Rattle.fzn_parser.specs.declared.tree.Expr.{Expr}
use Rattle.fzn_parser.specs.declared.tree.Form.{Form}
use Rattle.fzn_parser.specs.declared.tree.Form.TheVariants as forms
use Rattle.fzn_parser.specs.declared.tree.Item.{Item}
use Rattle.fzn_parser.specs.declared.tree.Tree.{Tree}
use Rattle.set_meaning.specs.declared.problems.Arg.{Arg}
use Rattle.set_meaning.specs.declared.problems.Arg.TheVariants.{One, Many}
use Rattle.set_meaning.specs.declared.problems.Constraint.{Constraint}
use Rattle.set_meaning.specs.Relations.{terms_of as terms_of_arg}
use Rattle.fzn_model.specs.declared.names.ConstraintName.{ConstraintName}
use Rattle.fzn_model.specs.declared.faults.ModelFault.TheVariants as faults
use Rattle.fzn_model.specs.Lists.{each_after, each_of, sum_after}
use Rattle.fzn_model.specs.Names.{named}
use Rattle.fzn_model.specs.Items.{parts_of}
use Rattle.fzn_model.specs.Entities.{Naming, arg_of, count_variables, naming_after, variable}
use Rattle.fzn_model.specs.ProblemOf.{constraint_named, constraint_of, constraints_after, constraints_in, equality_of, reified_constraint, terms_in}
use Rattle.fzn_model.specs.FaultsOf.{HasNoFault, IsFaultAfter, constant_elements, constant_elements_after, constrained_parts, set_size, terms_after, terms_of}
use Rattle.fzn_model.specs.FirstFault.{AreNone}
use Rattle.fzn_model.specs.Meanings.{elements_in}
use Rattle.fzn_model.specs.Drafts.{elements_of_constraint, terms_of_constraint}
use Rattle.fzn_model.proofs.ConstraintRules.{sum_after_push}
use Rattle.fzn_model.proofs.Sound.{le_unless}
use Rattle.fzn_model.proofs.Steps.{last_or_none}
use Rattle.fzn_model.proofs.Weighed.{CountsAs, all_elements, all_terms, expression_elements, expression_terms, plain_counts, reified_counts_at}
use Rattle.model_limits.proofs.FineConstraints.{bind_some, equality_is, map_some}
use Rattle.model_limits.proofs.Splits.{by_prefixes, two}
use Rattle.model_limits.proofs.KeptKinds.{none_at}
use Rattle.model_limits.proofs.KeptConstraints.{short}
use Rattle.model_limits.specs.SetLimits.{terms_in as terms_in_constraint}

-- ---- a constraint of some arguments

counts_of : (n : ConstraintName) (args : List Arg) (c : Constraint) → constraint_of n args ≡ Some c → CountsAs c args
counts_of n args c e = by n.is_reified e
  where
    turned : (rs : List Arg) → reified_constraint n.relation rs ≡ Some c → CountsAs c (reverse rs)
    turned [] q = absurd (none-some c q)
    turned (Many ts ∷ rs) q = absurd (none-some c q)
    turned (One t ∷ rs) q =
        subst (λ (d : Constraint). CountsAs d (reverse (One t ∷ rs))) (same_Some (record { relation = n.relation; args = reverse rs; reif = Some t }) c q)
        (subst (CountsAs (record { relation = n.relation; args = reverse rs; reif = Some t })) (sym (reverse-append (One t ∷ []) rs)) (reified_counts_at n.relation (reverse rs) t))

    by : (b : Bool) → (if b then reified_constraint n.relation (reverse args) else Some (record { relation = n.relation; args = args; reif = None })) ≡ Some c → CountsAs c args
    by true q = subst (CountsAs c) (reverse-reverse args) (turned (reverse args) q)
    by false q = subst (λ (d : Constraint). CountsAs d args) (same_Some (record { relation = n.relation; args = args; reif = None }) c q) (plain_counts n.relation args)

-- ---- an item

-- what these constraints count is what the item counts
record AreCountedBy (before : List Item) (item : Item) (cs : List Constraint) : Type 0 where
  terms : sum_by terms_of_constraint cs ≡ terms_after before item
  elements : sum_by elements_of_constraint cs ≡ constant_elements_after before item

named_counts : (before : List Item) (name : List ℕ) (es : List Expr) (c : Constraint) → constraint_named (naming_after before) name es ≡ Some c
    → (terms_of_constraint c ≡ sum_by (λ e. length (terms_of (arg_of (naming_after before) e))) es)
    × (elements_of_constraint c ≡ sum_by (constant_elements (naming_after before)) (flat_map parts_of es))
named_counts before name es c e =
    let naming : Naming = naming_after before in
    let a = bind_some (named name) (λ (k : ConstraintName). option_and_then (constraint_of k) (each_of (arg_of naming) es)) c e in
    let b = bind_some (each_of (arg_of naming) es) (constraint_of a.0) c a.2 in
    let counts = counts_of a.0 b.0 c b.2 in
    (counts.in_terms ∙ sym (all_terms naming es b.0 b.1), counts.in_elements ∙ sym (all_elements naming es b.0 b.1))

none_counted : (before : List Item) (at : ℕ) (form : Form) (ys : List Constraint) → Some [] ≡ Some ys
    → terms_after before (record { at = at; form = form }) ≡ 0 → constant_elements_after before (record { at = at; form = form }) ≡ 0
    → AreCountedBy before (record { at = at; form = form }) ys
none_counted before at form ys is t e =
    subst (AreCountedBy before (record { at = at; form = form })) (same_Some [] ys is) (record { terms = sym t; elements = sym e })

by_form : (before : List Item) (at : ℕ) (form : Form) (ys : List Constraint) → constraints_in (naming_after before) (count_variables before) form ≡ Some ys
    → AreCountedBy before (record { at = at; form = form }) ys
by_form before at forms.Predicate ys is = none_counted before at forms.Predicate ys is refl refl
by_form before at (forms.Param t ident anns e) ys is = none_counted before at (forms.Param t ident anns e) ys is refl refl
by_form before at (forms.Variable t ident anns None) ys is = none_counted before at (forms.Variable t ident anns None) ys is refl refl
by_form before at (forms.Variable t ident anns (Some x)) ys is =
    let naming : Naming = naming_after before in
    let item : Item = record { at = at; form = forms.Variable t ident anns (Some x) } in
    let m = map_some (equality_of naming (count_variables before) t.form x) (λ c. c ∷ []) ys is in
    let q = equality_is naming (count_variables before) t.form x m.0 m.1 in
    let made : Constraint = record { relation = q.0.relation; args = variable (count_variables before) ∷ q.0.arg ∷ []; reif = None } in
    let terms : length (terms_of (arg_of naming x)) ≡ length (terms_in q.0.arg) = expression_terms naming x q.0.arg q.1 in
    let one : sum_by (constant_elements naming) (parts_of x) ≡ elements_in q.0.arg = expression_elements naming x q.0.arg q.1 in
    let plain : sum_by (constant_elements naming) (parts_of x ++ []) ≡ sum_by (constant_elements naming) (parts_of x) = ap (sum_by (constant_elements naming)) (append-nil (parts_of x)) in
    let counted : AreCountedBy before item (made ∷ []) = record { terms = omega (arith, terms); elements = omega (arith, one, plain) } in
    subst (AreCountedBy before item) m.2 (subst (λ (c : Constraint). AreCountedBy before item (c ∷ [])) q.0.is counted)
by_form before at (forms.Array len is_var t ident anns items_at items) ys is =
    none_counted before at (forms.Array len is_var t ident anns items_at items) ys is refl refl
by_form before at (forms.Constraint ident es anns) ys is =
    let naming : Naming = naming_after before in
    let item : Item = record { at = at; form = forms.Constraint ident es anns } in
    let m = map_some (constraint_named naming ident.name es) (λ c. c ∷ []) ys is in
    let counts = named_counts before ident.name es m.0 m.1 in
    let counted : AreCountedBy before item (m.0 ∷ []) = record {
      terms = zero-add (terms_of_constraint m.0) ∙ counts.0 ∙ sym (zero-add (sum_by (λ e. length (terms_of (arg_of naming e))) es));
      elements = zero-add (elements_of_constraint m.0) ∙ counts.1;
    } in
    subst (AreCountedBy before item) m.2 counted
by_form before at (forms.Solve anns goal) ys is = none_counted before at (forms.Solve anns goal) ys is refl refl

-- ---- all items

all_counted : (done items : List Item) (cs : List Constraint) → each_after constraints_after done items ≡ Some cs
    → (sum_by terms_of_constraint cs ≡ sum_after terms_after done items)
    × (sum_by elements_of_constraint cs ≡ sum_after constant_elements_after done items)
all_counted done [] cs is = (ap (sum_by terms_of_constraint) (sym (same_Some [] cs is)), ap (sum_by elements_of_constraint) (sym (same_Some [] cs is)))
all_counted done (item ∷ items) cs is =
    let t = two (constraints_after done item) (each_after constraints_after (done ++ item ∷ []) items) cs is in
    let own = by_form done item.at item.form t.front t.first in
    let rest = all_counted (done ++ item ∷ []) items t.back t.second in
    let own_terms : sum_by terms_of_constraint t.front ≡ terms_after done item = own.terms in
    let own_elements : sum_by elements_of_constraint t.front ≡ constant_elements_after done item = own.elements in
    let rest_terms : sum_by terms_of_constraint t.back ≡ sum_after terms_after (done ++ item ∷ []) items = rest.0 in
    let rest_elements : sum_by elements_of_constraint t.back ≡ sum_after constant_elements_after (done ++ item ∷ []) items = rest.1 in
    let terms : sum_by terms_of_constraint cs ≡ sum_by terms_of_constraint t.front + sum_by terms_of_constraint t.back =
    ap (sum_by terms_of_constraint) t.all ∙ sum_by-append terms_of_constraint t.front t.back in
    let elements : sum_by elements_of_constraint cs ≡ sum_by elements_of_constraint t.front + sum_by elements_of_constraint t.back =
    ap (sum_by elements_of_constraint) t.all ∙ sum_by-append elements_of_constraint t.front t.back in
    (omega (arith, terms, own_terms, rest_terms), omega (arith, elements, own_elements, rest_elements))

-- ---- their limits

abbrev HasFewElements : List Item → Type 0
HasFewElements items = sum_after constant_elements_after [] items ≤ 16777216

elements_next : (before : List Item) (item : Item) → AreNone (IsFaultAfter before item) → HasFewElements before → HasFewElements (before ++ item ∷ [])
elements_next before item none old =
    let more : sum_after constant_elements_after [] (before ++ item ∷ []) ≡ sum_after constant_elements_after [] before + constant_elements_after before item =
    sum_after_push constant_elements_after [] before item in
    elim (last_or_none (constrained_parts item.form)) [
      | inl e ↦
          (let own : constant_elements_after before item ≡ 0 = ap (sum_by (constant_elements (naming_after before))) e in
          omega (arith, more, own, old))
      | inr h ↦
          (let own : constant_elements_after before item ≡ sum_by (constant_elements (naming_after before)) (h.0 ++ h.1 ∷ []) = ap (sum_by (constant_elements (naming_after before))) h.2 in
          le_unless 16777216 (sum_after constant_elements_after [] (before ++ item ∷ [])) (λ w.
          none (faults.SetTooWide h.1.at) (inl (inr (record {
            front = h.0;
            part = h.1;
            back = [];
            occurs = h.2;
            many = omega (arith, w, more, own);
            place = refl;
          })))))
    ]

few_elements : (tree : Tree) → HasNoFault tree → HasFewElements tree.items
few_elements tree faultless =
    by_prefixes HasFewElements tree.items (omega arith)
    (λ front item back split old. elements_next front item (none_at tree faultless front item back split) old)

-- ---- as the limits say it

sum_in_args : (args : List Arg) → sum_by set_size (flat_map terms_of_arg args) ≡ sum_by elements_in args
sum_in_args [] = refl
sum_in_args (a ∷ args) =
    let both : sum_by set_size (flat_map terms_of_arg (a ∷ args)) ≡ elements_in a + sum_by set_size (flat_map terms_of_arg args) =
    sum_by-append set_size (terms_of_arg a) (flat_map terms_of_arg args) in
    let rest : sum_by set_size (flat_map terms_of_arg args) ≡ sum_by elements_in args = sum_in_args args in
    let all : sum_by elements_in (a ∷ args) ≡ elements_in a + sum_by elements_in args = sum_by-cons elements_in a args in
    omega (arith, both, rest, all)

elements_of : (c : Constraint) → elements_of_constraint c ≡ sum_by set_size (terms_in_constraint c)
elements_of c =
    let all : sum_by set_size (terms_in_constraint c) ≡ sum_by set_size (flat_map terms_of_arg c.args) + sum_by set_size (option_to_list c.reif) =
    sum_by-append set_size (flat_map terms_of_arg c.args) (option_to_list c.reif) in
    let args : sum_by set_size (flat_map terms_of_arg c.args) ≡ sum_by elements_in c.args = sum_in_args c.args in
    omega (arith, all, args)

terms_counted : (c : Constraint) → terms_of_constraint c ≡ length (terms_in_constraint c)
terms_counted c =
    let all : length (terms_in_constraint c) ≡ length (flat_map terms_of_arg c.args) + length (option_to_list c.reif) =
    length-append (flat_map terms_of_arg c.args) (option_to_list c.reif) in
    let args : length (flat_map terms_of_arg c.args) ≡ sum_by (λ a. length (terms_in a)) c.args = length-flat_map terms_of_arg c.args in
    omega (arith, all, args)

pub elements_kept : (tree : Tree) → HasNoFault tree → (cs : List Constraint) → each_after constraints_after [] tree.items ≡ Some cs
    → sum_by (λ c. sum_by set_size (terms_in_constraint c)) cs ≤ 16777216
elements_kept tree faultless cs is =
    let few : sum_after constant_elements_after [] tree.items ≤ 16777216 = few_elements tree faultless in
    let same : sum_by elements_of_constraint cs ≡ sum_after constant_elements_after [] tree.items = (all_counted [] tree.items cs is).1 in
    let said : sum_by elements_of_constraint cs ≡ sum_by (λ (c : Constraint). sum_by set_size (terms_in_constraint c)) cs =
    (λ i. sum_by (λ (c : Constraint). elements_of c i) cs) in
    omega (arith, few, same, said)

pub terms_kept : (tree : Tree) → HasNoFault tree → (cs : List Constraint) → each_after constraints_after [] tree.items ≡ Some cs
    → sum_by (λ c. length (terms_in_constraint c)) cs ≤ 4194304
terms_kept tree faultless cs is =
    let few : sum_after terms_after [] tree.items ≤ 4194304 = (short tree faultless).0 in
    let same : sum_by terms_of_constraint cs ≡ sum_after terms_after [] tree.items = (all_counted [] tree.items cs is).0 in
    let said : sum_by terms_of_constraint cs ≡ sum_by (λ (c : Constraint). length (terms_in_constraint c)) cs =
    (λ i. sum_by (λ (c : Constraint). terms_counted c i) cs) in
    omega (arith, few, same, said)
