-- The constant sets in the constraints and in the shown items of a tree without faults are small.
use Rattle.std.proofs.Common.{◌≡◌, ℕ, Bool, true, false, List, [], ◌∷◌, ◌++◌, length, reverse, if◌then◌else◌, option_to_list, Option, Some, None, refl, sym, ap, subst, ◌∙◌}
use Rattle.std.specs.Prelude.{All}
use Rattle.std.specs.List.{flat_map}
use Rattle.std.specs.Option.{option_and_then}
use Rattle.std.proofs.lemmas.Option.{none-some, same_Some}
use Rattle.std.proofs.lemmas.List.{append-nil}
use Rattle.std.proofs.lemmas.List.Elements.{All-append, All-cons, All-head, All-nil, All-tail}
use Rattle.fzn_parser.specs.declared.tree.Basic.{Basic}
use Rattle.fzn_parser.specs.declared.tree.Form.{Form}
use Rattle.fzn_parser.specs.declared.tree.Form.TheVariants as forms
use Rattle.fzn_parser.specs.declared.tree.Item.{Item}
use Rattle.fzn_parser.specs.declared.tree.Tree.{Tree}
use Rattle.set_meaning.specs.declared.problems.Arg.{Arg}
use Rattle.set_meaning.specs.declared.problems.Arg.TheVariants.{One, Many}
use Rattle.set_meaning.specs.declared.problems.Dim.{Dim}
use Rattle.set_meaning.specs.declared.problems.Shown.{Shown}
use Rattle.set_meaning.specs.declared.problems.Term.TheVariants.{Var}
use Rattle.set_meaning.specs.declared.problems.Constraint.{Constraint}
use Rattle.set_meaning.specs.Relations.{terms_of}
use Rattle.problem_limits.proofs.Members.{all_in_parts, parts_of_all}
use Rattle.fzn_model.specs.declared.names.ConstraintName.{ConstraintName}
use Rattle.fzn_model.specs.Lists.{each_after, each_of}
use Rattle.fzn_model.specs.Names.{named}
use Rattle.fzn_model.specs.Items.{parts_of}
use Rattle.fzn_model.specs.Entities.{Naming, arg_of, array_of, count_variables, naming_after, variable}
use Rattle.fzn_model.specs.Outputs.{Annotation, dims_shown, output_in, shows_scalar}
use Rattle.fzn_model.specs.ProblemOf.{constraint_named, constraint_of, constraints_after, constraints_in, equality_of, reified_constraint, shown_after, shown_array, shown_in, shown_scalar}
use Rattle.fzn_model.specs.ProblemOf as made
use Rattle.fzn_model.specs.FaultsOf.{HasNoFault, all_parts}
use Rattle.model_limits.specs.SetLimits.{IsSmallSet, terms_in}
use Rattle.model_limits.proofs.FineTerms.{all_reverse}
use Rattle.model_limits.proofs.FineConstraints.{bind_some, equality_is, map_some}
use Rattle.model_limits.proofs.Splits.{all_front, by_prefixes, each_all}
use Rattle.model_limits.proofs.KeptKinds.{none_at}
use Rattle.model_limits.proofs.SmallSets.{HasGoodParts, HasSmallSets, IsGoodPart, IsSmallNaming, array_small, expression_small, expressions_small, good_parts, naming_small, variable_small}

-- ---- constraints

abbrev AreSmallSets : Constraint → Type 0
AreSmallSets c = All IsSmallSet (terms_in c)

plain : (c : Constraint) → c.reif ≡ None → All HasSmallSets c.args → AreSmallSets c
plain c is h =
    All-append IsSmallSet (flat_map terms_of c.args) (option_to_list c.reif) (all_in_parts IsSmallSet terms_of c.args h)
    (subst (λ o. All IsSmallSet (option_to_list o)) (sym is) (All-nil IsSmallSet))

of_arguments : (n : ConstraintName) (args : List Arg) (c : Constraint) → All HasSmallSets args → constraint_of n args ≡ Some c → AreSmallSets c
of_arguments n args c h e = by n.is_reified e
  where
    turned : (rs : List Arg) → All HasSmallSets rs → reified_constraint n.relation rs ≡ Some c → AreSmallSets c
    turned [] k q = absurd (none-some c q)
    turned (Many ts ∷ rs) k q = absurd (none-some c q)
    turned (One t ∷ rs) k q =
        subst AreSmallSets (same_Some (record { relation = n.relation; args = reverse rs; reif = Some t }) c q)
        (All-append IsSmallSet (flat_map terms_of (reverse rs)) (t ∷ [])
        (all_in_parts IsSmallSet terms_of (reverse rs) (all_reverse HasSmallSets rs (All-tail HasSmallSets (One t) rs k)))
        (All-head HasSmallSets (One t) rs k))

    by : (b : Bool) → (if b then reified_constraint n.relation (reverse args) else Some (record { relation = n.relation; args = args; reif = None })) ≡ Some c → AreSmallSets c
    by true q = turned (reverse args) (all_reverse HasSmallSets args h) q
    by false q =
        subst AreSmallSets (same_Some (record { relation = n.relation; args = args; reif = None }) c q)
        (plain (record { relation = n.relation; args = args; reif = None }) refl h)

none_added : (ys : List Constraint) → Some [] ≡ Some ys → All AreSmallSets ys
none_added ys is = subst (All AreSmallSets) (same_Some [] ys is) (All-nil AreSmallSets)

constraints_by : (naming : Naming) → IsSmallNaming naming → (number : ℕ) (form : Form) → All IsGoodPart (all_parts form)
    → (ys : List Constraint) → constraints_in naming number form ≡ Some ys → All AreSmallSets ys
constraints_by naming small number forms.Predicate h ys is = none_added ys is
constraints_by naming small number (forms.Param t ident anns e) h ys is = none_added ys is
constraints_by naming small number (forms.Variable t ident anns None) h ys is = none_added ys is
constraints_by naming small number (forms.Variable t ident anns (Some e)) h ys is =
    let m = map_some (equality_of naming number t.form e) (λ c. c ∷ []) ys is in
    let q = equality_is naming number t.form e m.0 m.1 in
    let arg : HasSmallSets q.0.arg = expression_small naming small e q.0.arg q.1 (subst (All IsGoodPart) (append-nil (parts_of e)) h) in
    let c : Constraint = record { relation = q.0.relation; args = variable number ∷ q.0.arg ∷ []; reif = None } in
    let args : All HasSmallSets (variable number ∷ q.0.arg ∷ []) =
    All-cons HasSmallSets (variable number) (q.0.arg ∷ []) (variable_small number) (All-cons HasSmallSets q.0.arg [] arg (All-nil HasSmallSets)) in
    subst (All AreSmallSets) m.2 (All-cons AreSmallSets m.0 [] (subst AreSmallSets q.0.is (plain c refl args)) (All-nil AreSmallSets))
constraints_by naming small number (forms.Array len is_var t ident anns at items) h ys is = none_added ys is
constraints_by naming small number (forms.Constraint ident es anns) h ys is =
    let m = map_some (constraint_named naming ident.name es) (λ c. c ∷ []) ys is in
    let a = bind_some (named ident.name) (λ (k : ConstraintName). option_and_then (constraint_of k) (each_of (arg_of naming) es)) m.0 m.1 in
    let b = bind_some (each_of (arg_of naming) es) (constraint_of a.0) m.0 a.2 in
    let args : All HasSmallSets b.0 = expressions_small naming small es b.0 b.1 (parts_of_all IsGoodPart parts_of es h) in
    subst (All AreSmallSets) m.2 (All-cons AreSmallSets m.0 [] (of_arguments a.0 b.0 m.0 args b.2) (All-nil AreSmallSets))
constraints_by naming small number (forms.Solve anns goal) h ys is = none_added ys is

-- ---- shown items

abbrev ShowsSmallSets : Shown → Type 0
ShowsSmallSets s = All IsSmallSet s.terms

none_shown : (ss : List Shown) → Some [] ≡ Some ss → All ShowsSmallSets ss
none_shown ss is = subst (All ShowsSmallSets) (same_Some [] ss is) (All-nil ShowsSmallSets)

array_by : (naming : Naming) → IsSmallNaming naming → (name : List ℕ) (count : ℕ) (items : List Basic) → All IsGoodPart items
    → (o : Option Annotation) (ss : List Shown) → shown_array name count (array_of naming items) o ≡ Some ss → All ShowsSmallSets ss
array_by naming small name count items h None ss e = none_shown ss e
array_by naming small name count items h (Some a) ss e =
    let of : List Dim → Arg → Shown = λ dims arg. record { name = name; terms = made.terms_in arg; dims = dims } in
    let d = bind_some (dims_shown count a) (λ (dims : List Dim). option_and_then (λ (arg : Arg). Some (of dims arg ∷ [])) (array_of naming items)) ss e in
    let r = bind_some (array_of naming items) (λ (arg : Arg). Some (of d.0 arg ∷ [])) ss d.2 in
    subst (All ShowsSmallSets) (same_Some (of d.0 r.0 ∷ []) ss r.2)
    (All-cons ShowsSmallSets (of d.0 r.0) [] (array_small naming small items r.0 r.1 h) (All-nil ShowsSmallSets))

scalar_by : (name : List ℕ) (number : ℕ) (o : Option Annotation) (ss : List Shown) → shown_scalar name number o ≡ Some ss → All ShowsSmallSets ss
scalar_by name number None ss e = none_shown ss e
scalar_by name number (Some a) ss e = by (shows_scalar a) e
  where
    by : (b : Bool) → (if b then Some (record { name = name; terms = Var (record { 0 = number }) ∷ []; dims = [] } ∷ []) else None) ≡ Some ss → All ShowsSmallSets ss
    by true k =
        subst (All ShowsSmallSets) (same_Some (record { name = name; terms = Var (record { 0 = number }) ∷ []; dims = [] } ∷ []) ss k)
        (All-cons ShowsSmallSets (record { name = name; terms = Var (record { 0 = number }) ∷ []; dims = [] }) [] (variable_small number) (All-nil ShowsSmallSets))
    by false k = absurd (none-some ss k)

shown_by : (naming : Naming) → IsSmallNaming naming → (number : ℕ) (form : Form) → All IsGoodPart (all_parts form)
    → (ss : List Shown) → shown_in naming number form ≡ Some ss → All ShowsSmallSets ss
shown_by naming small number forms.Predicate h ss is = none_shown ss is
shown_by naming small number (forms.Param t ident anns e) h ss is = none_shown ss is
shown_by naming small number (forms.Variable t ident anns e) h ss is = scalar_by ident.name number (output_in anns) ss is
shown_by naming small number (forms.Array len false t ident anns at items) h ss is = none_shown ss is
shown_by naming small number (forms.Array len true t ident anns at items) h ss is =
    array_by naming small ident.name (length items) items (subst (All IsGoodPart) (append-nil items) h) (output_in anns) ss is
shown_by naming small number (forms.Constraint ident es anns) h ss is = none_shown ss is
shown_by naming small number (forms.Solve anns goal) h ss is = none_shown ss is

-- ---- all items

parts_at : (tree : Tree) → HasNoFault tree → (front : List Item) (item : Item) (back : List Item) → tree.items ≡ front ++ item ∷ back → HasGoodParts item
parts_at tree faultless front item back split = good_parts front item (none_at tree faultless front item back split)

all_parts_good : (tree : Tree) → HasNoFault tree → All HasGoodParts tree.items
all_parts_good tree faultless =
    by_prefixes (All HasGoodParts) tree.items (All-nil HasGoodParts)
    (λ front item back split h. All-append HasGoodParts front (item ∷ []) h
    (All-cons HasGoodParts item [] (parts_at tree faultless front item back split) (All-nil HasGoodParts)))

before_small : (tree : Tree) → HasNoFault tree → (front : List Item) (item : Item) (back : List Item) → tree.items ≡ front ++ item ∷ back
    → IsSmallNaming (naming_after front)
before_small tree faultless front item back split =
    naming_small front (all_front HasGoodParts front (item ∷ back) (subst (All HasGoodParts) split (all_parts_good tree faultless)))

pub constraints_kept : (tree : Tree) → HasNoFault tree → (cs : List Constraint) → each_after constraints_after [] tree.items ≡ Some cs
    → All (λ c. All IsSmallSet (terms_in c)) cs
constraints_kept tree faultless cs is =
    each_all constraints_after AreSmallSets [] tree.items cs is (λ front item back ys split e.
    constraints_by (naming_after front) (before_small tree faultless front item back split) (count_variables front) item.form
    (parts_at tree faultless front item back split) ys e)

pub shown_kept : (tree : Tree) → HasNoFault tree → (ss : List Shown) → each_after shown_after [] tree.items ≡ Some ss
    → All (λ s. All IsSmallSet s.terms) ss
shown_kept tree faultless ss is =
    each_all shown_after ShowsSmallSets [] tree.items ss is (λ front item back ys split e.
    shown_by (naming_after front) (before_small tree faultless front item back split) (count_variables front) item.form
    (parts_at tree faultless front item back split) ys e)
