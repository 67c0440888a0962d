-- Sorts and shapes of arguments.
use Rattle.std.proofs.Common.{◌≡◌, ◌≢◌, ◌⊎◌, ℕ, Bool, true, false, ◌&&◌, List, [], ◌∷◌, ◌++◌, Option, Some, None, refl, sym, ap, subst, ◌∙◌, inl, inr, arith}
use Rattle.std.specs.Prelude.{All}
use Rattle.std.specs.List.{list_all}
use Rattle.std.proofs.lemmas.List.Elements.{All-nil, All-cons, All-head, All-tail}
use Rattle.set_meaning.specs.declared.kinds.Kind.{Kind}
use Rattle.set_meaning.specs.declared.problems.Term.{Term}
use Rattle.set_meaning.specs.declared.problems.Term.TheVariants.{Const, Var}
use Rattle.set_meaning.specs.declared.problems.Arg.{Arg}
use Rattle.set_meaning.specs.declared.problems.Arg.TheVariants.{One, Many}
use Rattle.set_meaning.specs.declared.rows.Sort.{Sort}
use Rattle.set_meaning.specs.declared.rows.Sort.TheVariants.{Boolean, Integer, IntegerSet}
use Rattle.set_meaning.specs.declared.rows.Shape.{Shape}
use Rattle.set_meaning.specs.declared.rows.Shape.TheVariants.{OneOf, ManyOf, ConstantOf, ConstantsOf}
use Rattle.set_meaning.specs.Rows.{HasShape, HasSort, IsConstantOf, IsValueOf}
use Rattle.fzn_model.specs.declared.typing.Typing.{Typing}
use Rattle.fzn_model.specs.Shapes.{HasTyping, is_constant, typing_of_arg}
use Rattle.fzn_model.specs.Drafts.{IsOfSort}

-- ---- what is asked can be told

abbrev Told : Type 0 → Type 0
Told P = P ⊎ (P → ⊥)

both_told : (P Q : Type 0) → Told P → Told Q → Told (P × Q)
both_told P Q (inl p) (inl q) = inl (p, q)
both_told P Q (inl p) (inr q) = inr (λ h. q h.1)
both_told P Q (inr p) q = inr (λ h. p h.0)

three_told : (P Q R : Type 0) → Told P → Told Q → Told R → Told (P × Q × R)
three_told P Q R (inl p) (inl q) (inl r) = inl (p, q, r)
three_told P Q R (inl p) (inl q) (inr r) = inr (λ h. r h.2)
three_told P Q R (inl p) (inr q) r = inr (λ h. q h.1)
three_told P Q R (inr p) q r = inr (λ h. p h.0)

sorts_told : (a b : Sort) → Told (a ≡ b)
sorts_told Boolean Boolean = inl refl
sorts_told Boolean Integer = inr (λ e. cc)
sorts_told Boolean IntegerSet = inr (λ e. cc)
sorts_told Integer Boolean = inr (λ e. cc)
sorts_told Integer Integer = inl refl
sorts_told Integer IntegerSet = inr (λ e. cc)
sorts_told IntegerSet Boolean = inr (λ e. cc)
sorts_told IntegerSet Integer = inr (λ e. cc)
sorts_told IntegerSet IntegerSet = inl refl

truths_told : (a b : Bool) → Told (a ≡ b)
truths_told true true = inl refl
truths_told true false = inr (λ e. cc)
truths_told false true = inr (λ e. cc)
truths_told false false = inl refl

pub typing_told : (shape : Shape) (t : Typing) → HasTyping shape t ⊎ (HasTyping shape t → ⊥)
typing_told (OneOf s) t = both_told (t.sort ≡ s) (t.is_array ≡ false) (sorts_told t.sort s) (truths_told t.is_array false)
typing_told (ManyOf s) t = both_told (t.sort ≡ s) (t.is_array ≡ true) (sorts_told t.sort s) (truths_told t.is_array true)
typing_told (ConstantOf s) t =
    three_told (t.sort ≡ s) (t.is_array ≡ false) (t.is_constant ≡ true) (sorts_told t.sort s) (truths_told t.is_array false) (truths_told t.is_constant true)
typing_told (ConstantsOf s) t =
    three_told (t.sort ≡ s) (t.is_array ≡ true) (t.is_constant ≡ true) (sorts_told t.sort s) (truths_told t.is_array true) (truths_told t.is_constant true)

-- ---- an argument whose typing is asked has the shape

constants_of : (kinds : List Kind) (sort : Sort) (ts : List Term) → list_all is_constant ts ≡ true → All (HasSort kinds sort) ts → All (IsConstantOf sort) ts
constants_of kinds sort [] e h = All-nil (IsConstantOf sort)
constants_of kinds sort (Const v ∷ ts) e h =
    All-cons (IsConstantOf sort) (Const v) ts (All-head (HasSort kinds sort) (Const v) ts h)
    (constants_of kinds sort ts e (All-tail (HasSort kinds sort) (Const v) ts h))
constants_of kinds sort (Var x ∷ ts) e h = cc

pub shape_from_typing : (kinds : List Kind) (shape : Shape) (sort : Sort) (a : Arg)
    → IsOfSort kinds sort a → HasTyping shape (typing_of_arg sort a) → HasShape kinds shape a
shape_from_typing kinds (OneOf s) sort (One t) o h = subst (λ (z : Sort). HasSort kinds z t) h.0 o
shape_from_typing kinds (OneOf s) sort (Many ts) o h = let e = h.1 in absurd (cc)
shape_from_typing kinds (ManyOf s) sort (One t) o h = let e = h.1 in absurd (cc)
shape_from_typing kinds (ManyOf s) sort (Many ts) o h = subst (λ (z : Sort). All (HasSort kinds z) ts) h.0 o
shape_from_typing kinds (ConstantOf s) sort (One (Const v)) o h = subst (λ (z : Sort). IsValueOf z v) h.0 o
shape_from_typing kinds (ConstantOf s) sort (One (Var x)) o h = let e = h.2 in absurd (cc)
shape_from_typing kinds (ConstantOf s) sort (Many ts) o h = let e = h.1 in absurd (cc)
shape_from_typing kinds (ConstantsOf s) sort (One t) o h = let e = h.1 in absurd (cc)
shape_from_typing kinds (ConstantsOf s) sort (Many ts) o h =
    constants_of kinds s ts h.2 (subst (λ (z : Sort). All (HasSort kinds z) ts) h.0 o)

-- ---- shapes and sorts

constants_have_sort : (kinds : List Kind) (sort : Sort) (ts : List Term) → All (IsConstantOf sort) ts → All (HasSort kinds sort) ts
constants_have_sort kinds sort [] h = All-nil (HasSort kinds sort)
constants_have_sort kinds sort (Const v ∷ ts) h =
    All-cons (HasSort kinds sort) (Const v) ts (All-head (IsConstantOf sort) (Const v) ts h)
    (constants_have_sort kinds sort ts (All-tail (IsConstantOf sort) (Const v) ts h))
constants_have_sort kinds sort (Var x ∷ ts) h = absurd (All-head (IsConstantOf sort) (Var x) ts h)

abbrev pub sort_asked : Shape → Sort
sort_asked (OneOf s) = s
sort_asked (ManyOf s) = s
sort_asked (ConstantOf s) = s
sort_asked (ConstantsOf s) = s

pub sort_from_shape : (kinds : List Kind) (shape : Shape) (a : Arg) → HasShape kinds shape a → IsOfSort kinds (sort_asked shape) a
sort_from_shape kinds (OneOf s) (One t) h = h
sort_from_shape kinds (OneOf s) (Many ts) h = absurd h
sort_from_shape kinds (ManyOf s) (One t) h = absurd h
sort_from_shape kinds (ManyOf s) (Many ts) h = h
sort_from_shape kinds (ConstantOf s) (One (Const v)) h = h
sort_from_shape kinds (ConstantOf s) (One (Var x)) h = absurd h
sort_from_shape kinds (ConstantOf s) (Many ts) h = absurd h
sort_from_shape kinds (ConstantsOf s) (One t) h = absurd h
sort_from_shape kinds (ConstantsOf s) (Many ts) h = constants_have_sort kinds s ts h
