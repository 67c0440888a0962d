-- The kinds that the items of a tree without faults declare.
use Rattle.std.proofs.Common.{◌≡◌, ℕ, ◌+◌, ◌≤◌, List, [], ◌∷◌, ◌++◌, length, option_to_list, Option, Some, refl, sym, ap, subst, ◌∙◌, inl, inr, arith}
use Rattle.std.specs.Prelude.{All, sum_by}
use Rattle.std.specs.List.{flat_map}
use Rattle.std.proofs.lemmas.Option.{same_Some}
use Rattle.std.proofs.lemmas.List.{append-nil, length-append}
use Rattle.std.proofs.lemmas.List.Sums.{sum_by-cons}
use Rattle.std.proofs.lemmas.List.Elements.{All-cons, All-head, All-nil}
use Rattle.fzn_parser.specs.declared.tree.Form.{Form}
use Rattle.fzn_parser.specs.declared.tree.Form.TheVariants as forms
use Rattle.fzn_parser.specs.declared.tree.Item.{Item}
use Rattle.fzn_parser.specs.declared.tree.Tree.{Tree}
use Rattle.fzn_parser.specs.Places.{numbers_in, numbers_in_expression, numbers_in_type}
use Rattle.set_meaning.specs.declared.kinds.Kind.{Kind}
use Rattle.bit_layout.specs.Limits.{counted_bits}
use Rattle.fzn_model.specs.declared.faults.ModelFault.TheVariants as faults
use Rattle.fzn_model.specs.Lists.{each_after}
use Rattle.fzn_model.specs.Items.{is_variable}
use Rattle.fzn_model.specs.Entities.{count_variables}
use Rattle.fzn_model.specs.ProblemOf.{kind_of, kinds_in, kinds_of}
use Rattle.fzn_model.specs.FaultsOf.{HasNoFault, IsFaultAfter, integer_values}
use Rattle.fzn_model.specs.FirstFault.{AreNone}
use Rattle.fzn_model.proofs.MoreKinds.{kinds_more}
use Rattle.fzn_model.proofs.Sound.{le_unless}
use Rattle.model_limits.proofs.FineTerms.{IsSmallAt}
use Rattle.model_limits.proofs.FineNames.{AreSmallInItem, one_if}
use Rattle.model_limits.proofs.FineConstraints.{map_some}
use Rattle.model_limits.proofs.Splits.{all_back, all_front, by_prefixes, each_all, two}
use Rattle.model_limits.proofs.SmallKinds.{IsGoodKind, good_kind}

-- at most so many bits, and so many values of integer variables
pub record AreFew (kinds : List Kind) : Type 0 where
  pub bits : sum_by counted_bits kinds ≤ 1048576
  pub values : sum_by integer_values kinds ≤ 67108864

abbrev pub kinds_at : List Item → Item → Option (List Kind)
kinds_at before item = kinds_in item.form

-- no item of a faultless tree has a fault
pub none_at : (tree : Tree) → HasNoFault tree → (front : List Item) (item : Item) (back : List Item)
    → tree.items ≡ front ++ item ∷ back → AreNone (IsFaultAfter front item)
none_at tree faultless front item back split fault h =
    faultless fault (record { before = front; item = item; behind = back; split = split; faulty = h })

pub small_at : (items front : List Item) (item : Item) (back : List Item) → items ≡ front ++ item ∷ back → All AreSmallInItem items → AreSmallInItem item
small_at items front item back split h = first item back (all_back AreSmallInItem front (item ∷ back) (subst (All AreSmallInItem) split h))
  where
    first : (i : Item) (is : List Item) → All AreSmallInItem (i ∷ is) → AreSmallInItem i
    first i is k = All-head AreSmallInItem i is k

pub small_before : (items front : List Item) (item : Item) (back : List Item) → items ≡ front ++ item ∷ back → All AreSmallInItem items → All AreSmallInItem front
small_before items front item back split h = all_front AreSmallInItem front (item ∷ back) (subst (All AreSmallInItem) split h)

kinds_by : (before : List Item) (at : ℕ) (form : Form) → AreNone (IsFaultAfter before (record { at = at; form = form })) → All IsSmallAt (numbers_in form)
    → (ys : List Kind) → kinds_in form ≡ Some ys → All IsGoodKind ys
kinds_by before at forms.Predicate none h ys is = subst (All IsGoodKind) (same_Some [] ys is) (All-nil IsGoodKind)
kinds_by before at (forms.Param t ident anns e) none h ys is = subst (All IsGoodKind) (same_Some [] ys is) (All-nil IsGoodKind)
kinds_by before at (forms.Variable t ident anns e) none h ys is =
    let m = map_some (kind_of t.form) (λ k. k ∷ []) ys is in
    let small = all_front IsSmallAt (numbers_in_type t.form) (flat_map numbers_in_expression (option_to_list e)) h in
    subst (All IsGoodKind) m.2 (All-cons IsGoodKind m.0 [] (good_kind before at t ident anns e none small t.form refl m.0 m.1) (All-nil IsGoodKind))
kinds_by before at (forms.Array len is_var t ident anns items_at items) none h ys is = subst (All IsGoodKind) (same_Some [] ys is) (All-nil IsGoodKind)
kinds_by before at (forms.Constraint ident es anns) none h ys is = subst (All IsGoodKind) (same_Some [] ys is) (All-nil IsGoodKind)
kinds_by before at (forms.Solve anns goal) none h ys is = subst (All IsGoodKind) (same_Some [] ys is) (All-nil IsGoodKind)

pub good_kinds : (tree : Tree) → HasNoFault tree → All AreSmallInItem tree.items → (kinds : List Kind) → kinds_of tree.items ≡ Some kinds → All IsGoodKind kinds
good_kinds tree faultless small kinds is =
    each_all kinds_at IsGoodKind [] tree.items kinds is
    (λ front item back ys split e. kinds_by front item.at item.form (none_at tree faultless front item back split)
    (small_at tree.items front item back split small) ys e)

-- ---- how many there are

count_by_form : (form : Form) (ys : List Kind) → kinds_in form ≡ Some ys → length ys ≡ one_if (is_variable form)
count_by_form forms.Predicate ys is = ap length (sym (same_Some [] ys is))
count_by_form (forms.Param t ident anns e) ys is = ap length (sym (same_Some [] ys is))
count_by_form (forms.Variable t ident anns e) ys is = let m = map_some (kind_of t.form) (λ k. k ∷ []) ys is in ap length (sym m.2)
count_by_form (forms.Array len is_var t ident anns items_at items) ys is = ap length (sym (same_Some [] ys is))
count_by_form (forms.Constraint ident es anns) ys is = ap length (sym (same_Some [] ys is))
count_by_form (forms.Solve anns goal) ys is = ap length (sym (same_Some [] ys is))

counted_from : (done items : List Item) (kinds : List Kind) → each_after kinds_at done items ≡ Some kinds → length kinds ≡ count_variables items
counted_from done [] kinds is = ap length (sym (same_Some [] kinds is))
counted_from done (item ∷ items) kinds is =
    let t = two (kinds_at done item) (each_after kinds_at (done ++ item ∷ []) items) kinds is in
    let own : length t.front ≡ one_if (is_variable item.form) = count_by_form item.form t.front t.first in
    let rest : length t.back ≡ count_variables items = counted_from (done ++ item ∷ []) items t.back t.second in
    let all : length kinds ≡ length t.front + length t.back = ap length t.all ∙ length-append t.front t.back in
    let count : count_variables (item ∷ items) ≡ one_if (is_variable item.form) + count_variables items =
    sum_by-cons (λ (i : Item). one_if (is_variable i.form)) item items in
    omega (arith, own, rest, all, count)

pub counted : (items : List Item) (kinds : List Kind) → kinds_of items ≡ Some kinds → length kinds ≡ count_variables items
counted items kinds is = counted_from [] items kinds is

-- ---- how many bits they have, and how many values

abbrev HasFewBits : List Item → Type 0
HasFewBits items = (kinds : List Kind) → kinds_of items ≡ Some kinds → AreFew kinds

unmoved : (before : List Item) (item : Item) → kinds_in item.form ≡ Some [] → HasFewBits before → HasFewBits (before ++ item ∷ [])
unmoved before item none few kinds is =
    let t = two (kinds_of before) (kinds_in item.form) kinds (sym (kinds_more before item) ∙ is) in
    let old : AreFew t.front = few t.front t.first in
    let nothing : [] ≡ t.back = same_Some [] t.back (sym none ∙ t.second) in
    let same : kinds ≡ t.front = t.all ∙ (ap (λ ks. t.front ++ ks) (sym nothing) ∙ append-nil t.front) in
    subst AreFew (sym same) old

few_bits_next : (before : List Item) (at : ℕ) (form : Form) → AreNone (IsFaultAfter before (record { at = at; form = form })) → HasFewBits before
    → HasFewBits (before ++ record { at = at; form = form } ∷ [])
few_bits_next before at forms.Predicate none few = unmoved before (record { at = at; form = forms.Predicate }) refl few
few_bits_next before at (forms.Param t ident anns e) none few = unmoved before (record { at = at; form = forms.Param t ident anns e }) refl few
few_bits_next before at (forms.Variable t ident anns e) none few =
    λ kinds is. record {
      bits = le_unless 1048576 (sum_by counted_bits kinds)
          (λ w. none (faults.TooManyBits ident.at) (inr (inl (record { kinds = kinds; known = is; many = inl w; place = refl }))));
      values = le_unless 67108864 (sum_by integer_values kinds)
          (λ w. none (faults.TooManyBits ident.at) (inr (inl (record { kinds = kinds; known = is; many = inr w; place = refl }))));
    }
few_bits_next before at (forms.Array len is_var t ident anns items_at items) none few =
    unmoved before (record { at = at; form = forms.Array len is_var t ident anns items_at items }) refl few
few_bits_next before at (forms.Constraint ident es anns) none few = unmoved before (record { at = at; form = forms.Constraint ident es anns }) refl few
few_bits_next before at (forms.Solve anns goal) none few = unmoved before (record { at = at; form = forms.Solve anns goal }) refl few

pub few_bits : (tree : Tree) → HasNoFault tree → (kinds : List Kind) → kinds_of tree.items ≡ Some kinds → AreFew kinds
few_bits tree faultless =
    by_prefixes HasFewBits tree.items
    (λ kinds is. subst AreFew (same_Some [] kinds is) (record { bits = omega arith; values = omega arith }))
    (λ front item back split few. few_bits_next front item.at item.form (none_at tree faultless front item back split) few)
