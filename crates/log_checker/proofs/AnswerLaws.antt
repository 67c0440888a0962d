-- The boxes of answers.
use Rattle.std.proofs.Common.{◌≡◌, ◌↔◌, ℕ, zero, suc, ◌+◌, ◌<◌, ◌≤◌, ℤ, Bool, true, false, List, [], ◌∷◌, length, Option, Some, None, refl, sym, ap, ◌∙◌, subst, inl, inr, arith, IsTrue, not}
use Rattle.std.specs.Prelude.{slice_get, IsSomeAnd, IfSome, sum_by, max}
use Rattle.std.specs.Option.{option_map_or}
use Rattle.std.proofs.lemmas.List.Sums.{sum_by-cons}
use Rattle.std.proofs.lemmas.Option.{slice_get_within, slice_get_read, get_or_from_slice_get}
use Rattle.std.proofs.lemmas.Slice.Zip.{AllZip-long}
use Rattle.std.proofs.lemmas.Bool.Decides.{eqb_tells}
use Rattle.set_meaning.specs.declared.kinds.Kind.{Kind}
use Rattle.set_meaning.specs.declared.kinds.Kind.TheVariants as kind
use Rattle.set_meaning.specs.declared.kinds.Value.{Value}
use Rattle.set_meaning.specs.declared.kinds.Value.TheVariants as value
use Rattle.set_meaning.specs.declared.problems.VarId.{VarId}
use Rattle.set_meaning.specs.declared.problems.Goal.TheVariants.{Satisfy, Minimize, Maximize}
use Rattle.set_meaning.specs.Kinds.{InKind, IsAssignment}
use Rattle.set_meaning.specs.Problems.{IsKind}
use Rattle.set_meaning.specs.Sets.{Has}
use Rattle.set_meaning.specs.Arguments.{int_at}
use Rattle.bit_layout.specs.Limits.{AreWithinLimits, counted_bits}
use Rattle.bit_layout.specs.Words.{width_of, word_of}
use Rattle.log_rules.specs.declared.nodes.Node.{Node}
use Rattle.log_rules.specs.Tables.{walk, next_node}
use Rattle.log_rules.specs.Boxes.{Sides, IsInitial, word_at, side_of, FitsWidth, AreSides}
use Rattle.log_rules.specs.Rules.{IsBoxOf}
use Rattle.log_checker.specs.Words.{node_of, IsFit, IsFitAt, IsOnlyAt, IsAsGood, NoneIsBetter, NoneIsBeyond}
use Rattle.log_checker.proofs.Boxes.{side_is_node, node_fits}

-- ---- limits

counted : (kinds : List Kind) → length kinds ≤ sum_by counted_bits kinds
counted [] = let e : 0 ≤ sum_by counted_bits [] = omega arith in e
counted (k ∷ ks) =
    let s : sum_by counted_bits (k ∷ ks) ≡ counted_bits k + sum_by counted_bits ks = sum_by-cons counted_bits k ks in
    let rest : length ks ≤ sum_by counted_bits ks = counted ks in
    let one : 1 ≤ max 1 (width_of k) = omega arith in
    let here : 1 ≤ counted_bits k = one in
    let e : suc (length ks) ≤ sum_by counted_bits (k ∷ ks) = omega arith in e

pub few_kinds : (kinds : List Kind) → AreWithinLimits kinds → length kinds ≤ 1048576
few_kinds kinds limits =
    let a : length kinds ≤ sum_by counted_bits kinds = counted kinds in
    let b : sum_by counted_bits kinds ≤ 1048576 = limits.bits in omega arith

pub as_many : (kinds : List Kind) (values : List Value) → IsAssignment kinds values → length values ≡ length kinds
as_many kinds values all = AllZip-long InKind kinds values all

-- ---- one variable

value_in_kind : (kinds : List Kind) (values : List Value) → IsAssignment kinds values → (v : ℕ) (x : Value) → slice_get values v ≡ Some x → IsInitial kinds v x
value_in_kind [] [] all v x is = absurd (cc)
value_in_kind [] (y ∷ ys) all v x is = absurd all
value_in_kind (k ∷ ks) [] all v x is = absurd all
value_in_kind (k ∷ ks) (y ∷ ys) all zero x is = let e : y ≡ x = (cc) in subst (λ z. InKind k z) e all.0
value_in_kind (k ∷ ks) (y ∷ ys) all (suc v) x is = value_in_kind ks ys all.1 v x is

pub initial_at : (kinds other : List Kind) (values : List Value) (v : ℕ) (x : Value) → other ≡ kinds → IsAssignment kinds values → slice_get values v ≡ Some x
    → IsSomeAnd (slice_get other v) (λ k. InKind k x)
initial_at kinds other values v x same all is = subst (λ ks. IsSomeAnd (slice_get ks v) (λ k. InKind k x)) (sym same) (value_in_kind kinds values all v x is)

some_if : {X : Type 0} (o : Option X) (P : X → Type 0) (x : X) → o ≡ Some x → IfSome o P → P x
some_if o P x e h = subst (λ q. IfSome q P) e h

some_and : {X : Type 0} (o : Option X) (P : X → Type 0) (x : X) → o ≡ Some x → IsSomeAnd o P → P x
some_and o P x e h = subst (λ q. IsSomeAnd q P) e h

pub node_there : (kinds : List Kind) (table : List Node) (sides : Sides) (v n : ℕ) → n ≡ node_of sides v → AreSides kinds table sides → n < next_node table
node_there kinds table sides v n is are = subst (λ m. m < next_node table) (sym is) (node_fits kinds table sides v are.each).there

pub node_width : (kinds : List Kind) (table : List Node) (sides : Sides) (v n : ℕ) (k : Kind) → n ≡ node_of sides v → slice_get kinds v ≡ Some k → AreSides kinds table sides
    → FitsWidth table n (width_of k)
node_width kinds table sides v n k is kind_ are =
    subst (λ m. FitsWidth table m (width_of k)) (sym is) (some_if (slice_get kinds v) (λ j. FitsWidth table (node_of sides v) (width_of j)) k kind_ (node_fits kinds table sides v are.each).fits)

pub only_here : (kinds : List Kind) (table : List Node) → ((word : List Bool) → walk table 1 word ≡ true) → (sides : Sides) (values : List Value) (v n : ℕ) (k : Kind) (y : Value) (word : List Bool) (ok : Bool)
    → AreSides kinds table sides → IsAssignment kinds values → slice_get kinds v ≡ Some k → slice_get values v ≡ Some y → n ≡ node_of sides v → word ≡ word_of k y → IsKind k
    → ((k : Kind) (x z : Value) → IsKind k → InKind k x → InKind k z → word_of k x ≡ word_of k z → x ≡ z)
    → IsTrue ok ↔ ((x : Value) → InKind k x → walk table n (word_of k x) ≡ true → word_of k x ≡ word) → IsTrue ok ↔ IsOnlyAt kinds table sides values v
unfolding IsOnlyAt
only_here kinds table ends sides values v n k y word ok are all kind_ value_ node spelled legal apart test = (
  (λ on x initial inside. value_ ∙ ap Some (sym (apart k x y legal (here x initial) mine
      (test.0 on x (here x initial) (ap (λ m. walk table m (word_of k x)) node ∙ (λ i. walk table (node_of sides v) (sym (at x) i)) ∙ sym (side_is_node kinds table ends sides v x are.ascending) ∙ inside) ∙ spelled)))),
  (λ only. test.1 (λ x initial inside.
      let side : side_of kinds table sides v x ≡ true =
      side_is_node kinds table ends sides v x are.ascending ∙ (λ i. walk table (node_of sides v) (at x i)) ∙ sym (ap (λ m. walk table m (word_of k x)) node) ∙ inside in
      let e : Some y ≡ Some x = sym value_ ∙ only x (there x initial) side in
      let same : y ≡ x = cc in
      sym (ap (word_of k) same) ∙ sym spelled)),
)
  where
    at : (x : Value) → word_at kinds v x ≡ word_of k x
    at x = ap (λ (o : Option Kind). option_map_or (λ j. word_of j x) o []) kind_

    here : (x : Value) → IsInitial kinds v x → InKind k x
    here x h = some_and (slice_get kinds v) (λ j. InKind j x) k kind_ h

    there : (x : Value) → InKind k x → IsInitial kinds v x
    there x h = subst (λ (o : Option Kind). IsSomeAnd o (λ j. InKind j x)) (sym kind_) h

    mine : InKind k y
    mine = some_and (slice_get kinds v) (λ j. InKind j y) k kind_ (value_in_kind kinds values all v y value_)

pub only_nowhere : (kinds : List Kind) (table : List Node) (sides : Sides) (values : List Value) (v : ℕ) → slice_get kinds v ≡ None → IsTrue true ↔ IsOnlyAt kinds table sides values v
unfolding IsOnlyAt
only_nowhere kinds table sides values v none =
    ((λ t x initial. absurd (subst (λ (o : Option Kind). IsSomeAnd o (λ k. InKind k x)) none initial)), (λ h. refl))

-- ---- all variables

pub one_more_only : (P : ℕ → Type 0) (i : ℕ) → ((k : ℕ) → k < i → P k) → P i → (k : ℕ) → k < i + 1 → P k
one_more_only P i all here k within = elim (eqb_tells k i) [
  | inl h ↦ subst P (sym h.1) here
  | inr h ↦ all k (let apart : k ≡ i → ⊥ = h.1 in grind arith)
]

pub only_box : (kinds : List Kind) (table : List Node) (sides : Sides) (values : List Value) (ok : Bool) → IsAssignment kinds values
    → IsTrue ok ↔ ((v : ℕ) → v < length values → IsOnlyAt kinds table sides values v) → IsTrue ok ↔ IsBoxOf kinds Satisfy values (side_of kinds table sides)
unfolding IsOnlyAt
only_box kinds table sides values ok all test = (
  (λ on v x initial inside. test.0 on v (subst (λ n. v < n) (sym (as_many kinds values all)) (known v x initial)) x initial inside),
  (λ h. test.1 (λ v within x initial inside. h v x initial inside)),
)
  where
    known : (v : ℕ) (x : Value) → IsInitial kinds v x → v < length kinds
    known v x initial = by (slice_get kinds v) refl initial
      where
        by : (o : Option Kind) → slice_get kinds v ≡ o → IsSomeAnd o (λ k. InKind k x) → v < length kinds
        by None e h = absurd h
        by (Some k) e h = slice_get_within kinds v k e

-- ---- the objective

pub fit_good : (kinds : List Kind) (table : List Node) (v n : ℕ) (bound x : ℤ) (greatest : Bool) → IsAsGood greatest bound x → IsTrue true ↔ IsFit kinds table v n bound greatest x
unfolding IsFit
fit_good kinds table v n bound x greatest good = ((λ t accepted. good), (λ h. refl))

pub fit_walk : (kinds : List Kind) (table : List Node) (v n : ℕ) (bound x : ℤ) (greatest : Bool) (word : List Bool) (accepted : Bool) → (IsAsGood greatest bound x → ⊥)
    → word ≡ word_at kinds v (value.Int x) → accepted ≡ walk table n word → IsTrue (not accepted) ↔ IsFit kinds table v n bound greatest x
unfolding IsFit
fit_walk kinds table v n bound x greatest word accepted worse spelled is = by accepted (is ∙ ap (walk table n) spelled)
  where
    by : (b : Bool) → b ≡ walk table n (word_at kinds v (value.Int x)) → IsTrue (not b) ↔ (walk table n (word_at kinds v (value.Int x)) ≡ true → IsAsGood greatest bound x)
    by true e = ((λ f. absurd (let g : false ≡ true = f in cc)), (λ h. absurd (worse (h (sym e)))))
    by false e = ((λ t a. absurd (let g : false ≡ true = e ∙ a in cc)), (λ h. refl))

pub fit_here : (kinds : List Kind) (table : List Node) (v n : ℕ) (bound x : ℤ) (greatest : Bool) (numbers : List ℤ) (i : ℕ) (ok : Bool) → slice_get numbers i ≡ Some x
    → IsTrue ok ↔ IsFit kinds table v n bound greatest x → IsTrue ok ↔ IsFitAt kinds table v n bound greatest numbers i
unfolding IsFitAt
fit_here kinds table v n bound x greatest numbers i ok is test = (
  (λ on y e. subst (IsFit kinds table v n bound greatest) (let f : Some x ≡ Some y = sym is ∙ e in cc) (test.0 on)),
  (λ h. test.1 (h x is)),
)

pub fits_all : (kinds : List Kind) (table : List Node) (v n : ℕ) (bound : ℤ) (greatest : Bool) (numbers : List ℤ) (ok : Bool)
    → IsTrue ok ↔ ((i : ℕ) → i < length numbers → IsFitAt kinds table v n bound greatest numbers i)
    → IsTrue ok ↔ ((x : ℤ) → InKind (kind.Int numbers) (value.Int x) → IsFit kinds table v n bound greatest x)
unfolding InKind Has IsFitAt
fits_all kinds table v n bound greatest numbers ok test = (
  (λ on x has. test.0 on has.0 has.1 x (slice_get_read numbers (length numbers) has.0 x refl has.1 (sym has.2))),
  (λ h. test.1 (λ i within x is. h x (i, within, get_or_from_slice_get numbers i x x is))),
)

pub fits_bool : (P : ℤ → Type 0) → IsTrue true ↔ ((x : ℤ) → InKind kind.Bool (value.Int x) → P x)
unfolding InKind
fits_bool P = ((λ t x h. absurd h), (λ h. refl))

pub fits_set : (universe : List ℤ) (P : ℤ → Type 0) → IsTrue true ↔ ((x : ℤ) → InKind (kind.Set universe) (value.Int x) → P x)
unfolding InKind
fits_set universe P = ((λ t x h. absurd h), (λ h. refl))

pub number_initial : (kinds : List Kind) (v : ℕ) (numbers : List ℤ) (k : ℕ) (x : ℤ) → slice_get kinds v ≡ Some (kind.Int numbers) → slice_get numbers k ≡ Some x
    → IsSomeAnd (slice_get kinds v) (λ j. InKind j (value.Int x))
unfolding InKind Has
number_initial kinds v numbers k x is at =
    subst (λ (o : Option Kind). IsSomeAnd o (λ j. InKind j (value.Int x))) (sym is) (k, slice_get_within numbers k x at, get_or_from_slice_get numbers k x x at)

pub none_beyond : (kinds other : List Kind) (table : List Node) → ((word : List Bool) → walk table 1 word ≡ true) → (sides : Sides) (o : VarId) (n : ℕ) (k : Kind) (a : ℤ) (greatest ok : Bool)
    → AreSides kinds table sides → other ≡ kinds → slice_get kinds o.0 ≡ Some k → n ≡ node_of sides o.0
    → IsTrue ok ↔ ((x : ℤ) → InKind k (value.Int x) → IsFit other table o.0 n a greatest x) → IsTrue ok ↔ NoneIsBeyond kinds table sides o a greatest
unfolding NoneIsBeyond IsFit
none_beyond kinds other table ends sides o n k a greatest ok are same kind_ node test = (
  (λ on x initial inside. test.0 on x (some_and (slice_get kinds o.0) (λ j. InKind j (value.Int x)) k kind_ initial) (path x ∙ inside)),
  (λ h. test.1 (λ x initial accepted. h x (subst (λ (q : Option Kind). IsSomeAnd q (λ j. InKind j (value.Int x))) (sym kind_) initial) (sym (path x) ∙ accepted))),
)
  where
    path : (x : ℤ) → walk table n (word_at other o.0 (value.Int x)) ≡ side_of kinds table sides o.0 (value.Int x)
    path x = (λ i. walk table (node i) (word_at (same i) o.0 (value.Int x))) ∙ sym (side_is_node kinds table ends sides o.0 (value.Int x) are.ascending)

pub no_kind : (kinds : List Kind) (table : List Node) (sides : Sides) (o : VarId) (a : ℤ) (greatest : Bool) → slice_get kinds o.0 ≡ None → IsTrue true ↔ NoneIsBeyond kinds table sides o a greatest
unfolding NoneIsBeyond
no_kind kinds table sides o a greatest none =
    ((λ t x initial inside. absurd (subst (λ (q : Option Kind). IsSomeAnd q (λ k. InKind k (value.Int x))) none initial)), (λ h. refl))

pub none_better : (kinds : List Kind) (table : List Node) (sides : Sides) (values : List Value) (o : VarId) (a : ℤ) (greatest ok : Bool) → Some a ≡ int_at o values
    → IsTrue ok ↔ NoneIsBeyond kinds table sides o a greatest → IsTrue ok ↔ NoneIsBetter kinds table sides values o greatest
unfolding NoneIsBetter NoneIsBeyond
none_better kinds table sides values o a greatest ok bound test = (
  (λ on x initial inside. subst (λ (q : Option ℤ). IfSome q (λ b. IsAsGood greatest b x)) bound (test.0 on x initial inside)),
  (λ h. test.1 (λ x initial inside. subst (λ (q : Option ℤ). IfSome q (λ b. IsAsGood greatest b x)) (sym bound) (h x initial inside))),
)

pub no_bound : (kinds : List Kind) (table : List Node) (sides : Sides) (values : List Value) (o : VarId) (greatest : Bool) → None ≡ int_at o values → IsTrue true ↔ NoneIsBetter kinds table sides values o greatest
unfolding NoneIsBetter
no_bound kinds table sides values o greatest none = ((λ t x initial inside. subst (λ (q : Option ℤ). IfSome q (λ b. IsAsGood greatest b x)) none tt), (λ h. refl))

pub word_is : (kinds other : List Kind) (v : ℕ) (k : Kind) (y : Value) (word items : List Bool) → other ≡ kinds → slice_get kinds v ≡ Some k → items ≡ word
    → word ≡ option_map_or (λ j. word_of j y) (slice_get other v) [] → items ≡ word_of k y
word_is kinds other v k y word items same is read spelled =
    read ∙ spelled ∙ (λ i. option_map_or (λ j. word_of j y) (slice_get (same i) v) []) ∙ ap (λ (o : Option Kind). option_map_or (λ j. word_of j y) o []) is

pub least_box : (kinds : List Kind) (table : List Node) (sides : Sides) (values : List Value) (o : VarId) (ok : Bool)
    → IsTrue ok ↔ NoneIsBetter kinds table sides values o false → IsTrue ok ↔ IsBoxOf kinds (Minimize o) values (side_of kinds table sides)
unfolding NoneIsBetter
least_box kinds table sides values o ok h = h

pub greatest_box : (kinds : List Kind) (table : List Node) (sides : Sides) (values : List Value) (o : VarId) (ok : Bool)
    → IsTrue ok ↔ NoneIsBetter kinds table sides values o true → IsTrue ok ↔ IsBoxOf kinds (Maximize o) values (side_of kinds table sides)
unfolding NoneIsBetter
greatest_box kinds table sides values o ok h = h

-- ---- numbers that are read back

pub good_from : (a b x y : ℤ) (greatest : Bool) → a ≡ b → x ≡ y → IsAsGood greatest a x → IsAsGood greatest b y
good_from a b x y greatest p q h = subst (λ z. IsAsGood greatest z y) p (subst (IsAsGood greatest a) q h)

pub fit_back : (kinds : List Kind) (table : List Node) (v n : ℕ) (a b x y : ℤ) (greatest ok : Bool) → a ≡ b → x ≡ y → IsTrue ok ↔ IsFit kinds table v n a greatest x → IsTrue ok ↔ IsFit kinds table v n b greatest y
fit_back kinds table v n a b x y greatest ok p q h = subst (λ z. IsTrue ok ↔ IsFit kinds table v n z greatest y) p (subst (λ z. IsTrue ok ↔ IsFit kinds table v n a greatest z) q h)
