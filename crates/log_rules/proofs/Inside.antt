-- Assignments in boxes, and sides as the table grows.
use Rattle.std.proofs.Common.{◌≡◌, ℕ, zero, suc, ◌+◌, ◌<◌, ◌==◌, Bool, true, false, not, ◌&&◌, ◌||◌, cond, List, [], ◌∷◌, ◌++◌, length, Option, Some, None, refl, sym, ap, ◌∙◌, subst, inl, inr, arith}
use Rattle.std.specs.Prelude.{◌⊎◌, ℤ, ◌≤ℤ◌, slice_get, IsSomeAnd, IfSome, All, Any, option_map, option_and_then}
use Rattle.std.proofs.Math.ListN.{get_or-append}
use Rattle.std.proofs.lemmas.List.{length-append}
use Rattle.std.proofs.lemmas.List.Elements.{All-head, All-tail}
use Rattle.std.proofs.lemmas.Slice.Zip.{AllZip-long}
use Rattle.std.proofs.lemmas.Bool.{or_cases, eq-eqb}
use Rattle.std.proofs.lemmas.Bool.Decides.{eqb_tells}
use Rattle.std.proofs.lemmas.Option.{slice_get-get_or}
use Rattle.set_meaning.specs.declared.kinds.Value.{Value}
use Rattle.set_meaning.specs.declared.kinds.Value.TheVariants as value
use Rattle.set_meaning.specs.declared.kinds.Kind.{Kind}
use Rattle.set_meaning.specs.declared.kinds.Kind.TheVariants as kind
use Rattle.set_meaning.specs.declared.problems.Goal.{Goal}
use Rattle.set_meaning.specs.declared.problems.Goal.TheVariants.{Satisfy, Minimize, Maximize}
use Rattle.set_meaning.specs.declared.problems.VarId.{VarId}
use Rattle.set_meaning.specs.declared.problems.Term.TheVariants.{Var}
use Rattle.set_meaning.specs.declared.rows.Sort.TheVariants.{Integer}
use Rattle.set_meaning.specs.Kinds.{InKind, IsAssignment}
use Rattle.set_meaning.specs.Rows.{sort_of_kind, HasSort}
use Rattle.set_meaning.specs.Arguments.{int_at, int_in, OfTwo}
use Rattle.set_meaning.specs.Problems.{IsGoal}
use Rattle.set_meaning.specs.Solutions.{CoversBy}
use Rattle.bit_layout.specs.Words.{width_of}
use Rattle.log_rules.specs.declared.nodes.Node.{Node}
use Rattle.log_rules.specs.Tables.{next_node, walk, IsTable}
use Rattle.log_rules.specs.Boxes.{Sides, IsInitial, word_at, side_of, IsWithin, InBox, resolvent, FitsWidth, IsSide, AreSides}
use Rattle.log_rules.specs.Rules.{IsBoxOf}
use Rattle.log_rules.proofs.Fronts.{nothing_at, same_items}
use Rattle.log_rules.proofs.Walks.{walk_stays, tests_stay}

-- ---- options and truth

pub both_true : (a b : Bool) → (a && b) ≡ true → (a ≡ true) × (b ≡ true)
both_true true b h = (refl, h)
both_true false b h = absurd (let e : false ≡ true = h in cc)

some_as : {X : Type 0} (o : Option X) (P Q : X → Type 0) → ((x : X) → P x → Q x) → IsSomeAnd o P → IsSomeAnd o Q
some_as None P Q f h = absurd h
some_as (Some x) P Q f h = f x h

pub any_more : {X : Type 0} (P : X → Type 0) (xs : List X) (y : X) → Any P xs → Any P (xs ++ y ∷ [])
any_more P xs y h =
    let long = length-append xs (y ∷ []) in
    let within : h.0 < length xs = h.2 in
    (h.0, h.1, (let e : h.0 < length (xs ++ y ∷ []) = omega arith in e), get_or-append xs (y ∷ []) h.1 h.0 h.2 ∙ h.3, h.4)

-- ---- assignments

pub is_initial : (kinds : List Kind) (values : List Value) → IsAssignment kinds values → (v : ℕ) (x : Value) → slice_get values v ≡ Some x → IsInitial kinds v x
is_initial [] [] all v x is = absurd (nothing_at v x is)
is_initial [] (y ∷ ys) all v x is = absurd all
is_initial (k ∷ ks) [] all v x is = absurd all
is_initial (k ∷ ks) (y ∷ ys) all zero x is = let e : y ≡ x = (cc) in subst (λ z. InKind k z) e all.0
is_initial (k ∷ ks) (y ∷ ys) all (suc v) x is = is_initial ks ys all.1 v x is

pub value_there : (kinds : List Kind) (values : List Value) → IsAssignment kinds values → (v : ℕ) → v < length kinds → (x : Value) × (slice_get values v ≡ Some x)
value_there kinds values all v within =
    let long : length values ≡ length kinds = AllZip-long InKind kinds values all in
    let there = slice_get-get_or values v (value.Bool false) (subst (λ n. v < n) (sym long) within) in (_, there)

-- ---- the resolvent

pub resolved : (box other : ℕ → Value → Bool) (pivot : ℕ) (values : List Value) (y : Value) → slice_get values pivot ≡ Some y
    → IsWithin (resolvent box other pivot) values → IsWithin box values ⊎ IsWithin other values
unfolding IsWithin
resolved box other pivot values y is within = elim (or_cases (box pivot y) (other pivot y) either) [
  | inl h ↦ inl (λ v x at. one box (λ u z both. (both_true (box u z) (other u z) both).0) h v x at)
  | inr h ↦ inr (λ v x at. one other (λ u z both. (both_true (box u z) (other u z) both).1) h v x at)
]
  where
    either : (box pivot y || other pivot y) ≡ true
    either = subst (λ b. cond b (box pivot y || other pivot y) (box pivot y && other pivot y) ≡ true) (eq-eqb pivot pivot refl) (within pivot y is)

    one : (chosen : ℕ → Value → Bool) → ((u : ℕ) (z : Value) → (box u z && other u z) ≡ true → chosen u z ≡ true) → chosen pivot y ≡ true
        → (v : ℕ) (x : Value) → slice_get values v ≡ Some x → chosen v x ≡ true
    one chosen from here v x at = elim (eqb_tells v pivot) [
      | inl h ↦ (
          let p : v ≡ pivot = h.1 in
          let same : Some x ≡ Some y = sym at ∙ ap (slice_get values) p ∙ is in
          let e : x ≡ y = cc in
          subst (λ u. chosen u x ≡ true) (sym p) (subst (λ z. chosen pivot z ≡ true) (sym e) here)
          )
      | inr h ↦ from v x (subst (λ b. cond b (box v x || other v x) (box v x && other v x) ≡ true) h.0 (within v x at))
    ]

-- ---- a table that grows

pub side_stays : (kinds : List Kind) (table more : List Node) (sides : Sides) (v : ℕ) (x : Value) → All (λ side. side.1 < next_node table) sides
    → side_of kinds (table ++ more) sides v x ≡ side_of kinds table sides v x
unfolding side_of
side_stays kinds table more [] v x there = refl
side_stays kinds table more (s ∷ sides) v x there =
    let first : walk (table ++ more) s.1 (word_at kinds v x) ≡ walk table s.1 (word_at kinds v x) =
    walk_stays table more s.1 (word_at kinds v x) (All-head (λ side. side.1 < next_node table) s sides there) in
    let rest = side_stays kinds table more sides v x (All-tail (λ side. side.1 < next_node table) s sides there) in
    λ i. (not (s.0 == v) || first i) && rest i

pub nodes_there : (kinds : List Kind) (table : List Node) (sides : Sides) → AreSides kinds table sides → All (λ side. side.1 < next_node table) sides
nodes_there kinds table sides are = λ k d within. (are.each k d within).node

pub inside_before : (kinds : List Kind) (table more : List Node) (sides : Sides) (values : List Value) → AreSides kinds table sides
    → InBox kinds (table ++ more) sides values → InBox kinds table sides values
unfolding IsWithin
inside_before kinds table more sides values are inside = λ v x is.
    sym (side_stays kinds table more sides v x (nodes_there kinds table sides are)) ∙ inside v x is

width_stays : (table more : List Node) (n width : ℕ) → IsTable table → n < next_node table → FitsWidth table n width → FitsWidth (table ++ more) n width
unfolding FitsWidth
width_stays table more n width legal there fits = λ place tests. fits place (tests_stay table more legal n place there tests)

side_grows : (kinds : List Kind) (table more : List Node) (side : ℕ × ℕ) → IsTable table → IsSide kinds table side → IsSide kinds (table ++ more) side
side_grows kinds table more side legal is =
    let long = length-append table more in
    let there : side.1 < length table + 2 = is.node in
    record {
      node = (let e : side.1 < length (table ++ more) + 2 = omega arith in e);
      variable = some_as (slice_get kinds side.0) (λ k. FitsWidth table side.1 (width_of k)) (λ k. FitsWidth (table ++ more) side.1 (width_of k))
          (λ k fits. width_stays table more side.1 (width_of k) legal is.node fits) is.variable;
    }

pub sides_grow : (kinds : List Kind) (table more : List Node) (sides : Sides) → IsTable table → AreSides kinds table sides → AreSides kinds (table ++ more) sides
sides_grow kinds table more sides legal are =
    record { ascending = are.ascending; each = λ k d within. side_grows kinds table more _ legal (are.each k d within) }

-- ---- the box of an answer

integer_kind : (kinds : List Kind) (o : VarId) → HasSort kinds Integer (Var o) → (numbers : List ℤ) × (slice_get kinds o.0 ≡ Some (kind.Int numbers))
integer_kind kinds o sort = by (slice_get kinds o.0) refl sort
  where
    by : (k : Option Kind) → slice_get kinds o.0 ≡ k → option_map sort_of_kind k ≡ Some Integer → (numbers : List ℤ) × (slice_get kinds o.0 ≡ Some (kind.Int numbers))
    by None is sort = absurd (cc)
    by (Some kind.Bool) is sort = absurd (cc)
    by (Some (kind.Int numbers)) is sort = (numbers, is)
    by (Some (kind.Set universe)) is sort = absurd (cc)

integer_in : (numbers : List ℤ) (x : Value) → InKind (kind.Int numbers) x → (z : ℤ) × (x ≡ value.Int z)
unfolding InKind
integer_in numbers (value.Bool b) h = absurd h
integer_in numbers (value.Int z) h = (z, refl)
integer_in numbers (value.Set s) h = absurd h

-- the integer of an integer variable
integer_at : (kinds : List Kind) (o : VarId) (values : List Value) → HasSort kinds Integer (Var o) → IsAssignment kinds values
    → (z : ℤ) × (slice_get values o.0 ≡ Some (value.Int z))
integer_at kinds o values sort all =
    let k = integer_kind kinds o sort in
    let within : o.0 < length kinds = Rattle.std.proofs.lemmas.Option.slice_get_within kinds o.0 (kind.Int k.0) k.1 in
    let there = value_there kinds values all o.0 within in
    let z = integer_in k.0 there.0 (subst (λ e. IsSomeAnd e (λ i. InKind i there.0)) k.1 (is_initial kinds values all o.0 there.0 there.1)) in
    (z.0, there.1 ∙ ap Some z.1)

no_better : (R : ℤ → ℤ → Type 0) (kinds : List Kind) (o : VarId) (answer values : List Value) → HasSort kinds Integer (Var o) → IsAssignment kinds answer → IsAssignment kinds values
    → (box : ℕ → Value → Bool) → ((x : ℤ) → IsInitial kinds o.0 (value.Int x) → box o.0 (value.Int x) ≡ true → IfSome (int_at o answer) (λ a. R a x))
    → IsWithin box values → OfTwo R (int_at o answer) (int_at o values)
unfolding IsWithin
no_better R kinds o answer values sort all other box better within =
    let a = integer_at kinds o answer sort all in
    let s = integer_at kinds o values sort other in
    let here : int_at o answer ≡ Some a.0 = ap (option_and_then int_in) a.1 in
    let there : int_at o values ≡ Some s.0 = ap (option_and_then int_in) s.1 in
    let is : IfSome (int_at o answer) (λ z. R z s.0) = better s.0 (is_initial kinds values other o.0 (value.Int s.0) s.1) (within o.0 (value.Int s.0) s.1) in
    let holds : R a.0 s.0 = subst (λ e. IfSome e (λ z. R z s.0)) here is in
    subst (λ e. OfTwo R e (int_at o values)) (sym here) (subst (λ e. OfTwo R (Some a.0) e) (sym there) holds)

pub box_covers : (kinds : List Kind) (goal : Goal) → IsGoal kinds goal → (answer values : List Value) → IsAssignment kinds answer → IsAssignment kinds values
    → (box : ℕ → Value → Bool) → IsBoxOf kinds goal answer box → IsWithin box values → CoversBy (λ xs. xs) goal answer values
unfolding IsWithin
box_covers kinds Satisfy legal answer values all other box only within =
    same_items answer values (AllZip-long InKind kinds answer all ∙ sym (AllZip-long InKind kinds values other))
    (λ v x is. only v x (is_initial kinds values other v x is) (within v x is))
box_covers kinds (Minimize o) legal answer values all other box only within = no_better (λ a s. a ≤ℤ s) kinds o answer values legal all other box only within
box_covers kinds (Maximize o) legal answer values all other box only within = no_better (λ a s. s ≤ℤ a) kinds o answer values legal all other box only within
