-- Boxes by the nodes of their sides.
use Rattle.std.proofs.Common.{◌≡◌, ◌↔◌, ℕ, ◌+◌, ◌<◌, ◌==◌, Bool, true, false, not, ◌&&◌, ◌||◌, cond, List, [], ◌∷◌, length, Option, Some, None, refl, sym, ap, ◌∙◌, subst, inl, inr, arith, get_or}
use Rattle.std.specs.Prelude.{◌⊎◌, slice_get, IsSomeAnd, IfSome, IsTrue, All}
use Rattle.std.specs.List.{list_all, AllByRecursion}
use Rattle.std.specs.List.Sorted.{IsStrictlySortedBy}
use Rattle.std.specs.Ordering.{nat_cmp}
use Rattle.std.specs.Cmp.{nat_cmp_is}
use Rattle.std.specs.declared.cmp.Ordering.TheVariants.{Less, Equal}
use Rattle.std.proofs.Math.Bool.{and-true}
use Rattle.std.proofs.lemmas.Bool.{eq-eqb, ne_eqb}
use Rattle.std.proofs.lemmas.List.Sums.{AllPass-from_list_all}
use Rattle.std.proofs.lemmas.Bool.Decides.{eqb_tells}
use Rattle.std.proofs.lemmas.List.Elements.{All-head, All-tail}
use Rattle.set_meaning.specs.declared.kinds.Kind.{Kind}
use Rattle.set_meaning.specs.declared.kinds.Value.{Value}
use Rattle.std.specs.Option.{option_map_or}
use Rattle.set_meaning.specs.Kinds.{InKind}
use Rattle.bit_layout.specs.Words.{width_of, word_of}
use Rattle.log_rules.specs.declared.nodes.Node.{Node}
use Rattle.log_rules.specs.Tables.{node_at, walk, Tests, here, by_lo, by_hi}
use Rattle.log_rules.specs.Boxes.{Sides, IsInitial, word_at, side_of, LiesIn, resolvent, everything, FitsWidth, IsSide, AreSides}
use Rattle.log_checker.specs.Words.{node_of, FitsAt, LiesAt, IsResolvedAt}

-- ---- the side of a variable is that of its node

-- a side of a lesser variable is of another than those behind it
later : (a b v : ℕ) → nat_cmp a b ≡ Less → a ≡ v → (b == v) ≡ false
later a b v less is = elim (eqb_tells b v) [
  | inl h ↦ absurd (let same : Equal ≡ nat_cmp a b = nat_cmp_is a b Equal (is ∙ sym h.1) in let clash : Equal ≡ Less = same ∙ less in cc)
  | inr h ↦ h.0
]

unnamed : (kinds : List Kind) (table : List Node) (sides : Sides) (a v : ℕ) (x : Value) → AllByRecursion (λ s. nat_cmp a s.0 ≡ Less) sides → a ≡ v
    → list_all (λ side. not (side.0 == v) || walk table side.1 (word_at kinds v x)) sides ≡ true
unnamed kinds table [] a v x all is = refl
unnamed kinds table (s ∷ sides) a v x all is =
    let off : (s.0 == v) ≡ false = later a s.0 v all.0 is in
    let rest = unnamed kinds table sides a v x all.1 is in
    λ i. (not (off i) || walk table s.1 (word_at kinds v x)) && rest i

pub side_is_node : (kinds : List Kind) (table : List Node) → ((word : List Bool) → walk table 1 word ≡ true) → (sides : Sides) (v : ℕ) (x : Value)
    → IsStrictlySortedBy (λ a b. nat_cmp a.0 b.0) sides → side_of kinds table sides v x ≡ walk table (node_of sides v) (word_at kinds v x)
unfolding side_of IsStrictlySortedBy
side_is_node kinds table ends [] v x order = sym (ends (word_at kinds v x))
side_is_node kinds table ends (s ∷ sides) v x order = elim (eqb_tells s.0 v) [
  | inl h ↦ (
      let off = unnamed kinds table sides s.0 v x order.0 h.1 in
      (λ i. (not (h.0 i) || walk table s.1 (word_at kinds v x)) && off i) ∙ and-true (walk table s.1 (word_at kinds v x))
      ∙ sym (ap (λ c. walk table (cond c s.1 (node_of sides v)) (word_at kinds v x)) h.0)
      )
  | inr h ↦ (
      let rest = side_is_node kinds table ends sides v x order.1 in
      ap (λ c. (not c || walk table s.1 (word_at kinds v x)) && list_all (λ side. not (side.0 == v) || walk table side.1 (word_at kinds v x)) sides) h.0
      ∙ rest ∙ sym (ap (λ c. walk table (cond c s.1 (node_of sides v)) (word_at kinds v x)) h.0)
      )
]

-- ---- nodes of sides fit

no_tests : (table : List Node) (n place : ℕ) → n ≡ 1 → Tests table n place → ⊥
no_tests table n place one (here {node = node} is) = let none : node_at table 1 ≡ Some node = subst (λ m. node_at table m ≡ Some node) one is in absurd (cc)
no_tests table n place one (by_lo {node = node} is rest) = let none : node_at table 1 ≡ Some node = subst (λ m. node_at table m ≡ Some node) one is in absurd (cc)
no_tests table n place one (by_hi {node = node} is rest) = let none : node_at table 1 ≡ Some node = subst (λ m. node_at table m ≡ Some node) one is in absurd (cc)

if_some_from : {X : Type 0} (o : Option X) (P : X → Type 0) → IsSomeAnd o P → IfSome o P
if_some_from None P h = absurd h
if_some_from (Some x) P h = h

if_some_always : {X : Type 0} (o : Option X) (P : X → Type 0) → ((x : X) → P x) → IfSome o P
if_some_always None P f = tt
if_some_always (Some x) P f = f x

pub one_fits : (kinds : List Kind) (table : List Node) (v : ℕ) → FitsAt kinds table v 1
unfolding FitsWidth
one_fits kinds table v = record {
  there = (let e : 1 < length table + 2 = omega arith in e);
  fits = if_some_always (slice_get kinds v) (λ k. (place : ℕ) → Tests table 1 place → place < width_of k) (λ k place tests. absurd (no_tests table 1 place refl tests));
}

pub side_fits : (kinds : List Kind) (table : List Node) (side : ℕ × ℕ) → IsSide kinds table side → FitsAt kinds table side.0 side.1
side_fits kinds table side is = record { there = is.node; fits = if_some_from (slice_get kinds side.0) (λ k. FitsWidth table side.1 (width_of k)) is.variable }

pub node_fits : (kinds : List Kind) (table : List Node) (sides : Sides) (v : ℕ) → All (IsSide kinds table) sides → FitsAt kinds table v (node_of sides v)
node_fits kinds table [] v all = one_fits kinds table v
node_fits kinds table (s ∷ sides) v all = elim (eqb_tells s.0 v) [
  | inl h ↦ subst (λ c. FitsAt kinds table v (cond c s.1 (node_of sides v))) (sym h.0)
      (subst (λ u. FitsAt kinds table u s.1) h.1 (side_fits kinds table s (All-head (IsSide kinds table) s sides all)))
  | inr h ↦ subst (λ c. FitsAt kinds table v (cond c s.1 (node_of sides v))) (sym h.0) (node_fits kinds table sides v (All-tail (IsSide kinds table) s sides all))
]

-- the variable has a side, or its node is 1
pub has_side : (P : ℕ → Type 0) (sides : Sides) (v : ℕ) → All (λ side. P side.0) sides → P v ⊎ (node_of sides v ≡ 1)
has_side P [] v all = inr refl
has_side P (s ∷ sides) v all = elim (eqb_tells s.0 v) [
  | inl h ↦ inl (subst P h.1 (All-head (λ side. P side.0) s sides all))
  | inr h ↦ elim (has_side P sides v (All-tail (λ side. P side.0) s sides all)) [
    | inl p ↦ inl p
    | inr one ↦ inr (ap (λ c. cond c s.1 (node_of sides v)) h.0 ∙ one)
  ]
]

pub variable_there : (kinds : List Kind) (table : List Node) (side : ℕ × ℕ) → IsSide kinds table side → side.0 < length kinds
variable_there kinds table side is = by (slice_get kinds side.0) refl is.variable
  where
    by : (o : Option Kind) → slice_get kinds side.0 ≡ o → IsSomeAnd o (λ k. FitsWidth table side.1 (width_of k)) → side.0 < length kinds
    by None e h = absurd h
    by (Some k) e h = Rattle.std.proofs.lemmas.Option.slice_get_within kinds side.0 k e

-- ---- one variable of a resolvent

or_self : (b : Bool) → (b || b) ≡ b
or_self true = refl
or_self false = refl

to_union : (t a b : Bool) → t ≡ true → (a || b) ≡ true → cond t (a || b) (a && b) ≡ true
to_union true a b e h = h
to_union false a b e h = absurd (cc)

from_union : (t a b : Bool) → t ≡ true → cond t (a || b) (a && b) ≡ true → (a || b) ≡ true
from_union true a b e h = h
from_union false a b e h = absurd (cc)

to_meet : (t a b : Bool) → t ≡ false → a ≡ true → b ≡ true → cond t (a || b) (a && b) ≡ true
to_meet true a b e h k = absurd (cc)
to_meet false true b e h k = k
to_meet false false b e h k = h

from_meet : (t a b : Bool) → t ≡ false → cond t (a || b) (a && b) ≡ true → (a ≡ true) × (b ≡ true)
from_meet true a b e h = absurd (cc)
from_meet false true b e h = (refl, h)
from_meet false false b e h = absurd (cc)

-- the sides of a box by their nodes
pub AreByNodes : List Kind → List Node → Sides → Type 0
AreByNodes kinds table sides = (v : ℕ) (x : Value) → side_of kinds table sides v x ≡ walk table (node_of sides v) (word_at kinds v x)

pub by_nodes : (kinds : List Kind) (table : List Node) → ((word : List Bool) → walk table 1 word ≡ true) → (sides : Sides) → AreSides kinds table sides
    → AreByNodes kinds table sides
unfolding AreByNodes
by_nodes kinds table ends sides are = λ v x. side_is_node kinds table ends sides v x are.ascending

pub at_pivot : (kinds : List Kind) (table : List Node) (sides first second : Sides) (pivot v : ℕ) → AreByNodes kinds table sides → AreByNodes kinds table first
    → AreByNodes kinds table second → (v == pivot) ≡ true
    → LiesAt kinds table v (node_of sides v) (node_of first v) (node_of second v) ↔ IsResolvedAt kinds table sides first second pivot v
unfolding LiesAt IsResolvedAt AreByNodes
at_pivot kinds table sides first second pivot v s f g on = (
  (λ h x initial inside. to_union (v == pivot) (side_of kinds table first v x) (side_of kinds table second v x) on
      ((λ i. f v x i || g v x i) ∙ h x initial (sym (s v x) ∙ inside))),
  (λ h x initial inside. sym (λ i. f v x i || g v x i)
      ∙ from_union (v == pivot) (side_of kinds table first v x) (side_of kinds table second v x) on (h x initial (s v x ∙ inside))),
)

pub elsewhere : (kinds : List Kind) (table : List Node) (sides first second : Sides) (pivot v : ℕ) → AreByNodes kinds table sides → AreByNodes kinds table first
    → AreByNodes kinds table second → (v == pivot) ≡ false
    → (LiesAt kinds table v (node_of sides v) (node_of first v) (node_of first v) × LiesAt kinds table v (node_of sides v) (node_of second v) (node_of second v))
    ↔ IsResolvedAt kinds table sides first second pivot v
unfolding LiesAt IsResolvedAt AreByNodes
elsewhere kinds table sides first second pivot v s f g off = (
  (λ h x initial inside. to_meet (v == pivot) (side_of kinds table first v x) (side_of kinds table second v x) off
      (f v x ∙ sym (or_self (walk table (node_of first v) (word_at kinds v x))) ∙ h.0 x initial (sym (s v x) ∙ inside))
      (g v x ∙ sym (or_self (walk table (node_of second v) (word_at kinds v x))) ∙ h.1 x initial (sym (s v x) ∙ inside))),
  (λ h. (
    (λ x initial inside. or_self (walk table (node_of first v) (word_at kinds v x)) ∙ sym (f v x)
        ∙ (from_meet (v == pivot) (side_of kinds table first v x) (side_of kinds table second v x) off (h x initial (s v x ∙ inside))).0),
    (λ x initial inside. or_self (walk table (node_of second v) (word_at kinds v x)) ∙ sym (g v x)
        ∙ (from_meet (v == pivot) (side_of kinds table first v x) (side_of kinds table second v x) off (h x initial (s v x ∙ inside))).1),
  )),
)

-- ---- all variables

-- where neither box has a side of the variable the resolvent has all its values
free_at : (kinds : List Kind) (table : List Node) → ((word : List Bool) → walk table 1 word ≡ true) → (sides first second : Sides) (pivot v : ℕ)
    → AreByNodes kinds table first → AreByNodes kinds table second → node_of first v ≡ 1 → node_of second v ≡ 1 → IsResolvedAt kinds table sides first second pivot v
unfolding IsResolvedAt AreByNodes
free_at kinds table ends sides first second pivot v f g one two = λ x initial inside.
    let a : side_of kinds table first v x ≡ true = f v x ∙ ap (λ n. walk table n (word_at kinds v x)) one ∙ ends (word_at kinds v x) in
    let b : side_of kinds table second v x ≡ true = g v x ∙ ap (λ n. walk table n (word_at kinds v x)) two ∙ ends (word_at kinds v x) in
    by (v == pivot) (side_of kinds table first v x) (side_of kinds table second v x) a b
  where
    by : (t c d : Bool) → c ≡ true → d ≡ true → cond t (c || d) (c && d) ≡ true
    by true true d h k = refl
    by true false d h k = absurd (cc)
    by false true d h k = k
    by false false d h k = h

pub all_resolved : (kinds : List Kind) (table : List Node) → ((word : List Bool) → walk table 1 word ≡ true) → (sides first second : Sides) (pivot : ℕ)
    → AreSides kinds table first → AreSides kinds table second
    → All (λ side. IsResolvedAt kinds table sides first second pivot side.0) first → All (λ side. IsResolvedAt kinds table sides first second pivot side.0) second
    → LiesIn kinds (side_of kinds table sides) (resolvent (side_of kinds table first) (side_of kinds table second) pivot)
unfolding LiesIn IsResolvedAt
all_resolved kinds table ends sides first second pivot are_first are_second one two = λ v x initial inside.
    elim (has_side (IsResolvedAt kinds table sides first second pivot) first v one) [
      | inl p ↦ p x initial inside
      | inr a ↦ elim (has_side (IsResolvedAt kinds table sides first second pivot) second v two) [
        | inl p ↦ p x initial inside
        | inr b ↦ free_at kinds table ends sides first second pivot v (by_nodes kinds table ends first are_first) (by_nodes kinds table ends second are_second) a b x initial inside
      ]
    ]

one_resolved : (kinds : List Kind) (table : List Node) (sides first second : Sides) (pivot v : ℕ)
    → LiesIn kinds (side_of kinds table sides) (resolvent (side_of kinds table first) (side_of kinds table second) pivot) → IsResolvedAt kinds table sides first second pivot v
unfolding LiesIn IsResolvedAt
one_resolved kinds table sides first second pivot v h = λ x initial inside. h v x initial inside

pub all_one : (kinds : List Kind) (table : List Node) (sides first second rest : Sides) (pivot : ℕ)
    → LiesIn kinds (side_of kinds table sides) (resolvent (side_of kinds table first) (side_of kinds table second) pivot)
    → All (λ side. IsResolvedAt kinds table sides first second pivot side.0) rest
all_one kinds table sides first second rest pivot h = λ k d within. one_resolved kinds table sides first second pivot _ h

-- ---- everything

-- each initial value of the variable is accepted by the node
pub all_everything : (kinds : List Kind) (table : List Node) → ((word : List Bool) → walk table 1 word ≡ true) → (sides : Sides) → AreSides kinds table sides
    → All (λ side. LiesAt kinds table side.0 1 side.1 side.1) sides → LiesIn kinds everything (side_of kinds table sides)
unfolding LiesIn LiesAt side_of
all_everything kinds table ends sides are all = λ v x initial inside. by sides v x initial all
  where
    one : (s : ℕ × ℕ) (v : ℕ) (x : Value) → IsInitial kinds v x → ((y : Value) → IsInitial kinds s.0 y → walk table 1 (word_at kinds s.0 y) ≡ true
        → (walk table s.1 (word_at kinds s.0 y) || walk table s.1 (word_at kinds s.0 y)) ≡ true) → (not (s.0 == v) || walk table s.1 (word_at kinds v x)) ≡ true
    one s v x initial h = elim (eqb_tells s.0 v) [
      | inl e ↦ ap (λ c. not c || walk table s.1 (word_at kinds v x)) e.0
          ∙ sym (or_self (walk table s.1 (word_at kinds v x)))
          ∙ subst (λ u. (walk table s.1 (word_at kinds u x) || walk table s.1 (word_at kinds u x)) ≡ true) e.1
          (h x (subst (λ u. IsInitial kinds u x) (sym e.1) initial) (ends (word_at kinds s.0 x)))
      | inr e ↦ ap (λ c. not c || walk table s.1 (word_at kinds v x)) e.0
    ]

    by : (rest : Sides) (v : ℕ) (x : Value) → IsInitial kinds v x → All (λ side. LiesAt kinds table side.0 1 side.1 side.1) rest
        → list_all (λ side. not (side.0 == v) || walk table side.1 (word_at kinds v x)) rest ≡ true
    by [] v x initial h = refl
    by (s ∷ rest) v x initial h = λ i. one s v x initial (All-head (λ side. LiesAt kinds table side.0 1 side.1 side.1) s rest h) i
        && by rest v x initial (All-tail (λ side. LiesAt kinds table side.0 1 side.1 side.1) s rest h) i

pub from_everything : (kinds : List Kind) (table : List Node) → ((word : List Bool) → walk table 1 word ≡ true) → (sides : Sides)
    → LiesIn kinds everything (side_of kinds table sides) → All (λ side. LiesAt kinds table side.0 1 side.1 side.1) sides
unfolding LiesIn LiesAt side_of
from_everything kinds table ends sides h = λ k d within x initial inside.
    let s : ℕ × ℕ = get_or sides k d in
    let passes : (not (s.0 == s.0) || walk table s.1 (word_at kinds s.0 x)) ≡ true =
    AllPass-from_list_all (λ side. not (side.0 == s.0) || walk table side.1 (word_at kinds s.0 x)) sides (h s.0 x initial refl) k d within in
    or_self (walk table s.1 (word_at kinds s.0 x)) ∙ ap (λ c. not c || walk table s.1 (word_at kinds s.0 x)) (sym (eq-eqb s.0 s.0 refl)) ∙ passes

-- ---- what the tests answer

both_true : (a b : Bool) (P Q : Type 0) → IsTrue a ↔ P → IsTrue b ↔ Q → IsTrue (a && b) ↔ (P × Q)
both_true true b P Q f g = ((λ h. (f.0 refl, g.0 h)), (λ h. g.1 h.1))
both_true false b P Q f g = ((λ h. absurd (let e : false ≡ true = h in cc)), (λ h. absurd (let e : false ≡ true = f.1 h.0 in cc)))

pub fits_node : (kinds : List Kind) (table : List Node) (sides : Sides) (v n : ℕ) → n ≡ node_of sides v → AreSides kinds table sides → FitsAt kinds table v n
fits_node kinds table sides v n is are = subst (FitsAt kinds table v) (sym is) (node_fits kinds table sides v are.each)

pub lies_there : (kinds : List Kind) (table : List Node) (v inside first second : ℕ) (kind : Kind) (ok : Bool) → slice_get kinds v ≡ Some kind
    → IsTrue ok ↔ ((x : Value) → InKind kind x → walk table inside (word_of kind x) ≡ true → (walk table first (word_of kind x) || walk table second (word_of kind x)) ≡ true)
    → IsTrue ok ↔ LiesAt kinds table v inside first second
unfolding LiesAt
lies_there kinds table v inside first second kind ok is h =
    subst (λ (o : Option Kind). IsTrue ok ↔ ((x : Value) → IsSomeAnd o (λ k. InKind k x) → walk table inside (option_map_or (λ k. word_of k x) o []) ≡ true
    → (walk table first (option_map_or (λ k. word_of k x) o []) || walk table second (option_map_or (λ k. word_of k x) o [])) ≡ true)) (sym is) h

pub lies_nowhere : (kinds : List Kind) (table : List Node) (v inside first second : ℕ) → slice_get kinds v ≡ None → IsTrue true ↔ LiesAt kinds table v inside first second
unfolding LiesAt
lies_nowhere kinds table v inside first second is =
    ((λ t x initial. absurd (subst (λ (o : Option Kind). IsSomeAnd o (λ k. InKind k x)) is initial)), (λ h. refl))

at_nodes : (kinds : List Kind) (table : List Node) (v a b c x y z : ℕ) (ok : Bool) → a ≡ x → b ≡ y → c ≡ z → IsTrue ok ↔ LiesAt kinds table v a b c → IsTrue ok ↔ LiesAt kinds table v x y z
at_nodes kinds table v a b c x y z ok p q r h = subst (λ n. IsTrue ok ↔ LiesAt kinds table v n y z) p (subst (λ n. IsTrue ok ↔ LiesAt kinds table v a n z) q (subst (λ n. IsTrue ok ↔ LiesAt kinds table v a b n) r h))

pub resolved_at_pivot : (kinds : List Kind) (table : List Node) → ((word : List Bool) → walk table 1 word ≡ true) → (sides first second : Sides) (pivot v a b c : ℕ) (ok : Bool)
    → AreSides kinds table sides → AreSides kinds table first → AreSides kinds table second → a ≡ node_of sides v → b ≡ node_of first v → c ≡ node_of second v → v ≡ pivot
    → IsTrue ok ↔ LiesAt kinds table v a b c → IsTrue ok ↔ IsResolvedAt kinds table sides first second pivot v
resolved_at_pivot kinds table ends sides first second pivot v a b c ok s f g p q r is h =
    let here = at_nodes kinds table v a b c (node_of sides v) (node_of first v) (node_of second v) ok p q r h in
    let law = at_pivot kinds table sides first second pivot v (by_nodes kinds table ends sides s) (by_nodes kinds table ends first f) (by_nodes kinds table ends second g) (eq-eqb v pivot is) in
    ((λ t. law.0 (here.0 t)), (λ d. here.1 (law.1 d)))

pub resolved_elsewhere : (kinds : List Kind) (table : List Node) → ((word : List Bool) → walk table 1 word ≡ true) → (sides first second : Sides) (pivot v a b c : ℕ) (one two : Bool)
    → AreSides kinds table sides → AreSides kinds table first → AreSides kinds table second → a ≡ node_of sides v → b ≡ node_of first v → c ≡ node_of second v → (v ≡ pivot → ⊥)
    → IsTrue one ↔ LiesAt kinds table v a b b → IsTrue two ↔ LiesAt kinds table v a c c → IsTrue (one && two) ↔ IsResolvedAt kinds table sides first second pivot v
resolved_elsewhere kinds table ends sides first second pivot v a b c one two s f g p q r apart h k =
    let h' = at_nodes kinds table v a b b (node_of sides v) (node_of first v) (node_of first v) one p q q h in
    let k' = at_nodes kinds table v a c c (node_of sides v) (node_of second v) (node_of second v) two p r r k in
    let all = both_true one two (LiesAt kinds table v (node_of sides v) (node_of first v) (node_of first v)) (LiesAt kinds table v (node_of sides v) (node_of second v) (node_of second v)) h' k' in
    let law = elsewhere kinds table sides first second pivot v (by_nodes kinds table ends sides s) (by_nodes kinds table ends first f) (by_nodes kinds table ends second g) (ne_eqb v pivot apart) in
    ((λ t. law.0 (all.0 t)), (λ d. all.1 (law.1 d)))

pub resolved_all : (kinds : List Kind) (table : List Node) → ((word : List Bool) → walk table 1 word ≡ true) → (sides first second : Sides) (pivot : ℕ) (one two : Bool)
    → AreSides kinds table first → AreSides kinds table second
    → IsTrue one ↔ All (λ side. IsResolvedAt kinds table sides first second pivot side.0) first → IsTrue two ↔ All (λ side. IsResolvedAt kinds table sides first second pivot side.0) second
    → IsTrue (one && two) ↔ LiesIn kinds (side_of kinds table sides) (resolvent (side_of kinds table first) (side_of kinds table second) pivot)
resolved_all kinds table ends sides first second pivot one two f g h k =
    let all = both_true one two (All (λ side. IsResolvedAt kinds table sides first second pivot side.0) first) (All (λ side. IsResolvedAt kinds table sides first second pivot side.0) second) h k in (
      (λ t. let e = all.0 t in all_resolved kinds table ends sides first second pivot f g e.0 e.1),
      (λ l. all.1 (all_one kinds table sides first second first pivot l, all_one kinds table sides first second second pivot l)),
    )

pub everything_all : (kinds : List Kind) (table : List Node) → ((word : List Bool) → walk table 1 word ≡ true) → (sides : Sides) (ok : Bool) → AreSides kinds table sides
    → IsTrue ok ↔ All (λ side. LiesAt kinds table side.0 1 side.1 side.1) sides → IsTrue ok ↔ LiesIn kinds everything (side_of kinds table sides)
everything_all kinds table ends sides ok are h =
    ((λ t. all_everything kinds table ends sides are (h.0 t)), (λ l. h.1 (from_everything kinds table ends sides l)))
