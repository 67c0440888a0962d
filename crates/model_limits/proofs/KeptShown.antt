-- A shown item of a tree has as many terms as its dimensions multiply to.
use Rattle.std.proofs.Common.{◌≡◌, ℕ, suc, Bool, true, false, List, [], ◌∷◌, length, if◌then◌else◌, Option, Some, None, refl, sym, ap, subst, ◌∙◌, arith}
use Rattle.std.specs.Prelude.{All, ◌&&◌, ◌==◌, nat_le}
use Rattle.std.specs.Option.{option_and_then}
use Rattle.std.proofs.lemmas.Bool.{eqb-true}
use Rattle.std.proofs.lemmas.Option.{none-some, same_Some}
use Rattle.std.proofs.lemmas.List.Elements.{All-cons, All-nil}
use Rattle.fzn_parser.specs.declared.tree.Basic.{Basic}
use Rattle.fzn_parser.specs.declared.tree.Form.{Form}
use Rattle.fzn_parser.specs.declared.tree.Form.TheVariants as forms
use Rattle.fzn_parser.specs.declared.tree.Tree.{Tree}
use Rattle.set_meaning.specs.declared.problems.Arg.{Arg}
use Rattle.set_meaning.specs.declared.problems.Arg.TheVariants.{Many}
use Rattle.set_meaning.specs.declared.problems.Dim.{Dim}
use Rattle.set_meaning.specs.declared.problems.Shown.{Shown}
use Rattle.set_meaning.specs.declared.problems.Term.TheVariants.{Var}
use Rattle.fzn_model.specs.Lists.{each_after, each_of}
use Rattle.fzn_model.specs.Entities.{Naming, array_of, count_variables, naming_after, term_of_part}
use Rattle.fzn_model.specs.Limits.{dimension_limit}
use Rattle.fzn_model.specs.Outputs.{Annotation, dims_in, dims_shown, fit, if_fit, is_output_array, output_in, shows_scalar, size_of}
use Rattle.fzn_model.specs.ProblemOf.{shown_after, shown_array, shown_in, shown_scalar, terms_in}
use Rattle.model_limits.specs.SetLimits.{HasItsLength}
use Rattle.model_limits.proofs.FineTerms.{both_there}
use Rattle.model_limits.proofs.FineConstraints.{bind_some, map_some}
use Rattle.model_limits.proofs.Splits.{each_all}

and_right : (a b : Bool) → (a && b) ≡ true → b ≡ true
and_right true b e = e
and_right false b e = let f : false ≡ true = e in absurd (cc)

-- ---- dimensions

fits_size : (count : ℕ) (xs ds : List Dim) → if_fit count xs ≡ Some ds → size_of ds ≡ count
fits_size count xs ds e = by (fit count xs) refl e
  where
    by : (b : Bool) → fit count xs ≡ b → (if b then Some xs else None) ≡ Some ds → size_of ds ≡ count
    by true q k =
        subst (λ (zs : List Dim). size_of zs ≡ count) (same_Some xs ds k)
        (eqb-true (size_of xs) count (and_right (nat_le 1 (length xs) && nat_le (length xs) dimension_limit) (size_of xs == count) q))
    by false q k = absurd (none-some ds k)

dims_fit : (count : ℕ) (a : Annotation) (ds : List Dim) → dims_shown count a ≡ Some ds → size_of ds ≡ count
dims_fit count a ds e = by (is_output_array a) e
  where
    by : (b : Bool) → (if b then option_and_then (if_fit count) (dims_in a.args) else None) ≡ Some ds → size_of ds ≡ count
    by true k = let d = bind_some (dims_in a.args) (if_fit count) ds k in fits_size count d.0 ds d.2
    by false k = absurd (none-some ds k)

-- ---- arrays

each_length : {A B : Type 0} (f : A → Option B) (xs : List A) (ys : List B) → each_of f xs ≡ Some ys → length ys ≡ length xs
each_length f [] ys e = ap length (sym (same_Some [] ys e))
each_length f (x ∷ xs) ys e =
    let both = both_there (f x) (each_of f xs) ys e in
    let rest : length both.tail ≡ length xs = each_length f xs both.tail both.rest in
    ap length both.all ∙ ap suc rest

array_shown : (name : List ℕ) (naming : Naming) (items : List Basic) (o : Option Annotation) (ss : List Shown)
    → shown_array name (length items) (array_of naming items) o ≡ Some ss → All HasItsLength ss
array_shown name naming items None ss e = subst (All HasItsLength) (same_Some [] ss e) (All-nil HasItsLength)
array_shown name naming items (Some a) ss e =
    let made : List Dim → Arg → Shown = λ dims arg. record { name = name; terms = terms_in arg; dims = dims } in
    let d = bind_some (dims_shown (length items) a) (λ (dims : List Dim). option_and_then (λ (arg : Arg). Some (made dims arg ∷ [])) (array_of naming items)) ss e in
    let r = bind_some (array_of naming items) (λ (arg : Arg). Some (made d.0 arg ∷ [])) ss d.2 in
    let m = map_some (each_of (term_of_part naming) items) Many r.0 r.1 in
    let items_are : length m.0 ≡ length items = each_length (term_of_part naming) items m.0 m.1 in
    let terms : length (terms_in r.0) ≡ length m.0 = ap (λ (z : Arg). length (terms_in z)) (sym m.2) in
    let size : size_of d.0 ≡ length items = dims_fit (length items) a d.0 d.1 in
    let own : HasItsLength (made d.0 r.0) = size ∙ (sym items_are ∙ sym terms) in
    subst (All HasItsLength) (same_Some (made d.0 r.0 ∷ []) ss r.2) (All-cons HasItsLength (made d.0 r.0) [] own (All-nil HasItsLength))

scalar_shown : (name : List ℕ) (number : ℕ) (o : Option Annotation) (ss : List Shown) → shown_scalar name number o ≡ Some ss → All HasItsLength ss
scalar_shown name number None ss e = subst (All HasItsLength) (same_Some [] ss e) (All-nil HasItsLength)
scalar_shown name number (Some a) ss e = by (shows_scalar a) e
  where
    by : (b : Bool) → (if b then Some (record { name = name; terms = Var (record { 0 = number }) ∷ []; dims = [] } ∷ []) else None) ≡ Some ss → All HasItsLength ss
    by true k =
        subst (All HasItsLength) (same_Some (record { name = name; terms = Var (record { 0 = number }) ∷ []; dims = [] } ∷ []) ss k)
        (All-cons HasItsLength (record { name = name; terms = Var (record { 0 = number }) ∷ []; dims = [] }) [] refl (All-nil HasItsLength))
    by false k = absurd (none-some ss k)

-- ---- items

by_form : (naming : Naming) (number : ℕ) (form : Form) (ss : List Shown) → shown_in naming number form ≡ Some ss → All HasItsLength ss
by_form naming number forms.Predicate ss is = subst (All HasItsLength) (same_Some [] ss is) (All-nil HasItsLength)
by_form naming number (forms.Param t ident anns e) ss is = subst (All HasItsLength) (same_Some [] ss is) (All-nil HasItsLength)
by_form naming number (forms.Variable t ident anns e) ss is = scalar_shown ident.name number (output_in anns) ss is
by_form naming number (forms.Array len false t ident anns at items) ss is = subst (All HasItsLength) (same_Some [] ss is) (All-nil HasItsLength)
by_form naming number (forms.Array len true t ident anns at items) ss is = array_shown ident.name naming items (output_in anns) ss is
by_form naming number (forms.Constraint ident es anns) ss is = subst (All HasItsLength) (same_Some [] ss is) (All-nil HasItsLength)
by_form naming number (forms.Solve anns goal) ss is = subst (All HasItsLength) (same_Some [] ss is) (All-nil HasItsLength)

pub lengths_kept : (tree : Tree) (ss : List Shown) → each_after shown_after [] tree.items ≡ Some ss → All HasItsLength ss
lengths_kept tree ss is =
    each_all shown_after HasItsLength [] tree.items ss is
    (λ front item back ys split e. by_form (naming_after front) (count_variables front) item.form ys e)
