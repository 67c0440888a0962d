-- The dimensions in an output annotation are legal, and there are some where the annotation shows an array.
use Rattle.std.proofs.Common.{◌≡◌, ◌≢◌, ℕ, Bool, true, false, cond, List, [], ◌∷◌, map, if◌then◌else◌, Option, Some, None, ℤ, refl, sym, ap, subst, ◌∙◌}
use Rattle.std.specs.Prelude.{All, ◌||◌}
use Rattle.std.specs.Option.{option_map, option_and_then}
use Rattle.std.proofs.lemmas.Option.{none-some, same_Some}
use Rattle.std.proofs.lemmas.List.Elements.{All-cons, All-nil}
use Rattle.fzn_parser.specs.declared.tree.SetForm.{SetForm}
use Rattle.fzn_parser.specs.declared.tree.SetForm.TheVariants as sets
use Rattle.fzn_parser.specs.declared.tree.Ann.{Ann, out-Ann, roll-Ann, roll-out-Ann}
use Rattle.fzn_parser.specs.declared.tree.AnnArg.{AnnArg, out-AnnArg, roll-out-AnnArg}
use Rattle.fzn_parser.specs.declared.tree.AnnForm.{AnnForm, out-AnnForm, roll-AnnForm, roll-out-AnnForm}
use Rattle.fzn_parser.specs.declared.tree.AnnForm.TheOpen.{AnnForm-F}
use Rattle.fzn_parser.specs.declared.tree.AnnForm.TheFolds.{fold-AnnForm, fold-roll-Ann, fold-roll-AnnArg, fold-roll-AnnForm}
use Rattle.set_meaning.specs.declared.problems.Dim.{Dim}
use Rattle.set_meaning.specs.declared.problems.Dim.TheVariants as dim
use Rattle.set_meaning.specs.Problems.{IsDim}
use Rattle.set_meaning.specs.Sets.{ascending_set}
use Rattle.set_meaning.proofs.Ascending.{IsSetOf-ascending_set}
use Rattle.fzn_model.specs.Lists.{each_of}
use Rattle.fzn_model.specs.Entities.{integer_of}
use Rattle.fzn_model.specs.Outputs.{Annotation, Argument, ann_level, annotation_of, argument_level, argument_of, dim_of_set, dims_in, dims_shown, fit, form_level, if_fit, is_output_array, is_output_var, output_in, range_dim}
use Rattle.model_legality.proofs.Splits.{bind_some, both_there, map_some}

-- ---- one dimension

range_legal : (o p : Option ℤ) (d : Dim) → range_dim o p ≡ Some d → IsDim d
range_legal None p d e = absurd (none-some d e)
range_legal (Some lo) None d e = absurd (none-some d e)
range_legal (Some lo) (Some hi) d e = subst IsDim (same_Some (dim.Range lo hi) d e) tt

set_legal : (s : SetForm) (d : Dim) → dim_of_set s ≡ Some d → IsDim d
set_legal (sets.Range low high) d e = range_legal (integer_of low) (integer_of high) d e
set_legal (sets.List ns) d e =
    let m = map_some (each_of integer_of ns) (λ xs. dim.List (ascending_set xs)) d e in
    subst IsDim m.2 (IsSetOf-ascending_set m.0).ascending

-- ---- arguments of annotations

abbrev form_of : AnnForm → Argument
form_of = fold-AnnForm Argument Annotation Argument form_level ann_level argument_level

argument_is : (x : AnnArg) → argument_of x ≡ form_of (roll-AnnForm (out-AnnForm (out-AnnArg x).form))
argument_is x =
    sym (ap argument_of (roll-out-AnnArg x))
    ∙ (fold-roll-AnnArg Argument Annotation Argument form_level ann_level argument_level (out-AnnArg x)
    ∙ sym (ap form_of (roll-out-AnnForm (out-AnnArg x).form)))

-- what an argument of the form has
abbrev own_dim : AnnForm-F AnnForm Ann AnnArg → Option Dim
own_dim (AnnForm-F.Set s) = dim_of_set s
own_dim _ = None

abbrev own_dims : AnnForm-F AnnForm Ann AnnArg → Option (List Dim)
own_dims (AnnForm-F.List list) = each_of (λ (a : Argument). a.dim) (map argument_of list)
own_dims _ = None

-- the argument has these, and nothing else
abbrev IsOwn : AnnForm-F AnnForm Ann AnnArg → Type 0
IsOwn f = form_of (roll-AnnForm f) ≡ record { dim = own_dim f; dims = own_dims f }

own : (f : AnnForm-F AnnForm Ann AnnArg) → IsOwn f
own (AnnForm-F.Bool b) = fold-roll-AnnForm Argument Annotation Argument form_level ann_level argument_level (AnnForm-F.Bool b)
own (AnnForm-F.Num n) = fold-roll-AnnForm Argument Annotation Argument form_level ann_level argument_level (AnnForm-F.Num n)
own (AnnForm-F.Set s) = fold-roll-AnnForm Argument Annotation Argument form_level ann_level argument_level (AnnForm-F.Set s)
own AnnForm-F.Str = fold-roll-AnnForm Argument Annotation Argument form_level ann_level argument_level AnnForm-F.Str
own (AnnForm-F.Call a) = fold-roll-AnnForm Argument Annotation Argument form_level ann_level argument_level (AnnForm-F.Call a)
own (AnnForm-F.List list) = fold-roll-AnnForm Argument Annotation Argument form_level ann_level argument_level (AnnForm-F.List list)

known_dim : (f : AnnForm-F AnnForm Ann AnnArg) (d : Dim) → own_dim f ≡ Some d → IsDim d
known_dim (AnnForm-F.Bool b) d e = absurd (none-some d e)
known_dim (AnnForm-F.Num n) d e = absurd (none-some d e)
known_dim (AnnForm-F.Set s) d e = set_legal s d e
known_dim AnnForm-F.Str d e = absurd (none-some d e)
known_dim (AnnForm-F.Call a) d e = absurd (none-some d e)
known_dim (AnnForm-F.List list) d e = absurd (none-some d e)

argument_dim : (x : AnnArg) (d : Dim) → (argument_of x).dim ≡ Some d → IsDim d
argument_dim x d e =
    let f = out-AnnForm (out-AnnArg x).form in
    known_dim f d (sym (ap (λ (z : Argument). z.dim) (argument_is x ∙ own f)) ∙ e)

each_dim : (list : List AnnArg) (ds : List Dim) → each_of (λ (a : Argument). a.dim) (map argument_of list) ≡ Some ds → All IsDim ds
each_dim [] ds e = subst (All IsDim) (same_Some [] ds e) (All-nil IsDim)
each_dim (x ∷ xs) ds e =
    let b = both_there (argument_of x).dim (each_of (λ (a : Argument). a.dim) (map argument_of xs)) ds e in
    subst (All IsDim) (sym b.all) (All-cons IsDim b.head b.tail (argument_dim x b.head b.first) (each_dim xs b.tail b.rest))

known_dims : (f : AnnForm-F AnnForm Ann AnnArg) (ds : List Dim) → own_dims f ≡ Some ds → All IsDim ds
known_dims (AnnForm-F.Bool b) ds e = absurd (none-some ds e)
known_dims (AnnForm-F.Num n) ds e = absurd (none-some ds e)
known_dims (AnnForm-F.Set s) ds e = absurd (none-some ds e)
known_dims AnnForm-F.Str ds e = absurd (none-some ds e)
known_dims (AnnForm-F.Call a) ds e = absurd (none-some ds e)
known_dims (AnnForm-F.List list) ds e = each_dim list ds e

argument_dims : (x : AnnArg) (ds : List Dim) → (argument_of x).dims ≡ Some ds → All IsDim ds
argument_dims x ds e =
    let f = out-AnnForm (out-AnnArg x).form in
    known_dims f ds (sym (ap (λ (z : Argument). z.dims) (argument_is x ∙ own f)) ∙ e)

-- ---- annotations

-- the dimensions that it has are legal
abbrev HasLegalDims : Annotation → Type 0
HasLegalDims a = (ds : List Dim) → dims_in a.args ≡ Some ds → All IsDim ds

-- the annotation of these
abbrev with_arguments : ℕ → List ℕ → Option (List AnnArg) → Annotation
with_arguments at name list = record { at = at; name = name; args = option_map (λ xs. map argument_of xs) list }

annotation_is : (at : ℕ) (name : List ℕ) (list : Option (List AnnArg))
    → annotation_of (roll-Ann (record { at = at; name = name; args = list })) ≡ with_arguments at name list
annotation_is at name None =
    fold-roll-Ann Argument Annotation Argument form_level ann_level argument_level (record { at = at; name = name; args = None })
annotation_is at name (Some list) =
    fold-roll-Ann Argument Annotation Argument form_level ann_level argument_level (record { at = at; name = name; args = Some list })

listed_dims : (list : Option (List AnnArg)) (ds : List Dim) → dims_in (option_map (λ xs. map argument_of xs) list) ≡ Some ds → All IsDim ds
listed_dims None ds e = absurd (none-some ds e)
listed_dims (Some []) ds e = absurd (none-some ds e)
listed_dims (Some (x ∷ [])) ds e = argument_dims x ds e
listed_dims (Some (x ∷ y ∷ xs)) ds e = absurd (none-some ds e)

legal_dims : (a : Ann) → HasLegalDims (annotation_of a)
legal_dims a =
    let o = out-Ann a in
    subst (λ (z : Ann). HasLegalDims (annotation_of z)) (roll-out-Ann a)
    (subst HasLegalDims (sym (annotation_is o.at o.name o.args)) (listed_dims o.args))

shown_legal : (anns : List Ann) (a : Annotation) → output_in anns ≡ Some a → HasLegalDims a
shown_legal [] a e = absurd (none-some a e)
shown_legal (x ∷ anns) a e = by (is_output_var (annotation_of x) || is_output_array (annotation_of x)) (shown_legal anns a) e
  where
    by : (b : Bool) → (output_in anns ≡ Some a → HasLegalDims a) → cond b (Some (annotation_of x)) (output_in anns) ≡ Some a → HasLegalDims a
    by true rest k = subst HasLegalDims (same_Some (annotation_of x) a k) (legal_dims x)
    by false rest k = rest k

-- ---- those of an array

not_none : (count : ℕ) (ds : List Dim) → fit count ds ≡ true → ds ≢ []
not_none count [] e is = let f : false ≡ true = e in absurd (cc)
not_none count (d ∷ ds) e is = absurd (cc)

fits : (count : ℕ) (xs ds : List Dim) → if_fit count xs ≡ Some ds → (xs ≡ ds) × (ds ≢ [])
fits count xs ds e = by (fit count xs) refl e
  where
    by : (b : Bool) → fit count xs ≡ b → (if b then Some xs else None) ≡ Some ds → (xs ≡ ds) × (ds ≢ [])
    by true q k = let same : xs ≡ ds = same_Some xs ds k in (same, subst (λ zs. zs ≢ []) same (not_none count xs q))
    by false q k = absurd (none-some ds k)

-- the dimensions under which an array is shown
pub dims_legal : (anns : List Ann) (a : Annotation) → output_in anns ≡ Some a → (count : ℕ) (ds : List Dim) → dims_shown count a ≡ Some ds
    → All IsDim ds × (ds ≢ [])
dims_legal anns a is count ds e = by (is_output_array a) e
  where
    by : (b : Bool) → (if b then option_and_then (if_fit count) (dims_in a.args) else None) ≡ Some ds → All IsDim ds × (ds ≢ [])
    by true k =
        let m = bind_some (dims_in a.args) (if_fit count) ds k in
        let f = fits count m.0 ds m.2 in
        (subst (All IsDim) f.0 (shown_legal anns a is m.0 m.1), f.1)
    by false k = absurd (none-some ds k)
