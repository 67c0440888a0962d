-- Subsets and results of operations, by a look at each element, and assignments, by a look at each variable.
use Rattle.std.proofs.Common.{◌≡◌, ◌↔◌, ◌⊎◌, List, [], ◌∷◌, length, ℤ, true, false, refl, subst, inl, inr, arith, IsTrue}
use Rattle.std.specs.List.{All}
use Rattle.std.proofs.lemmas.List.Elements.{All-contains, Contains-get_or}
use Rattle.set_meaning.specs.declared.kinds.Kind.{Kind}
use Rattle.set_meaning.specs.declared.kinds.Value.{Value}
use Rattle.set_meaning.specs.Kinds.{InKind, IsAssignment}
use Rattle.set_meaning.specs.declared.sets.SetOperation.{SetOperation}
use Rattle.set_meaning.specs.declared.sets.SetOperation.TheVariants.{Union, Intersection, Difference, SymmetricDifference}
use Rattle.set_meaning.specs.Sets.{Has, EitherHas, BothHave, OnlyFirstHas, JustOneHas, IsSubset, IsUnion, IsIntersection, IsDifference, IsSymmetricDifference}
use Rattle.set_meaning.specs.Operations.{ResultHas, AgreesAt, IsSetResult}

pub IsSubset-from_all : (a b : List ℤ) → All (Has b) a → IsSubset a b
unfolding IsSubset Has
IsSubset-from_all a b all x h = All-contains (Has b) a x all h

pub all_from_IsSubset : (a b : List ℤ) → IsSubset a b → All (Has b) a
unfolding IsSubset Has
all_from_IsSubset a b sub k d within = sub _ (Contains-get_or a k d within)

-- ---- results of operations

-- what an operation gives is an element of one of the two sets
from_one : (operation : SetOperation) (a b : List ℤ) (x : ℤ) → ResultHas operation a b x → Has a x ⊎ Has b x
unfolding EitherHas BothHave OnlyFirstHas JustOneHas
from_one Union a b x h = h
from_one Intersection a b x h = inl h.0
from_one Difference a b x h = inl h.0
from_one SymmetricDifference a b x h = elim h [ inl one ↦ inl one.0 | inr one ↦ inr one.0 ]

-- so it is enough to look at the elements of the three sets
agreement : (operation : SetOperation) (a b c : List ℤ) → All (AgreesAt operation a b c) a → All (AgreesAt operation a b c) b → All (AgreesAt operation a b c) c
    → (x : ℤ) → AgreesAt operation a b c x
unfolding AgreesAt Has
agreement operation a b c in_a in_b in_c x = (
  λ h. (All-contains (AgreesAt operation a b c) c x in_c h).0 h,
  λ r. elim (from_one operation a b x r) [
    | inl h ↦ (All-contains (AgreesAt operation a b c) a x in_a h).1 r
    | inr h ↦ (All-contains (AgreesAt operation a b c) b x in_b h).1 r
  ],
)

result_from_agreement : (operation : SetOperation) (a b c : List ℤ) → ((x : ℤ) → AgreesAt operation a b c x) → IsSetResult operation a b c
unfolding AgreesAt IsUnion IsIntersection IsDifference IsSymmetricDifference
result_from_agreement Union a b c h = h
result_from_agreement Intersection a b c h = h
result_from_agreement Difference a b c h = h
result_from_agreement SymmetricDifference a b c h = h

pub result_agrees : (operation : SetOperation) (a b c : List ℤ) → IsSetResult operation a b c → (x : ℤ) → AgreesAt operation a b c x
unfolding AgreesAt IsUnion IsIntersection IsDifference IsSymmetricDifference
result_agrees Union a b c h = h
result_agrees Intersection a b c h = h
result_agrees Difference a b c h = h
result_agrees SymmetricDifference a b c h = h

pub result_from_parts : (operation : SetOperation) (a b c : List ℤ) → All (AgreesAt operation a b c) a → All (AgreesAt operation a b c) b → All (AgreesAt operation a b c) c
    → IsSetResult operation a b c
result_from_parts operation a b c in_a in_b in_c = result_from_agreement operation a b c (agreement operation a b c in_a in_b in_c)

-- ---- assignments

pub same_length : (kinds : List Kind) (values : List Value) → IsAssignment kinds values → length kinds ≡ length values
same_length [] [] h = refl
same_length [] (v ∷ vs) h = absurd h
same_length (k ∷ ks) [] h = absurd h
same_length (k ∷ ks) (v ∷ vs) h = let rest = same_length ks vs h.1 in omega arith

-- one variable and its value pass
pub assignment_goes_on : (kinds : List Kind) (values : List Value) (k : Kind) (v : Value) (a ks : List Kind) (b vs : List Value) → a ≡ k ∷ ks → b ≡ v ∷ vs → InKind k v
    → (length a ≡ length b) × (IsAssignment a b ↔ IsAssignment kinds values) → (length ks ≡ length vs) × (IsAssignment ks vs ↔ IsAssignment kinds values)
assignment_goes_on kinds values k v a ks b vs p q here left =
    let P : List Kind → List Value → Type 0 = λ x y. (length x ≡ length y) × (IsAssignment x y ↔ IsAssignment kinds values) in
    let all : P (k ∷ ks) (v ∷ vs) = subst (λ x. P x (v ∷ vs)) p (subst (P a) q left) in
    let same : length (k ∷ ks) ≡ length (v ∷ vs) = all.0 in
    (omega arith, (λ rest. all.1.0 (here, rest), λ whole. (all.1.1 whole).1))

-- one variable has a value outside its kind
pub assignment_fails : (k : Kind) (v : Value) (a ks : List Kind) (b vs : List Value) → a ≡ k ∷ ks → b ≡ v ∷ vs → (InKind k v → ⊥) → IsAssignment a b → ⊥
assignment_fails k v a ks b vs p q outside h =
    let all : IsAssignment (k ∷ ks) (v ∷ vs) = subst (λ x. IsAssignment x (v ∷ vs)) p (subst (IsAssignment a) q h) in
    outside all.0

pub empty_assignment : (kinds : List Kind) (values : List Value) → length kinds ≡ 0 → length values ≡ 0 → IsAssignment kinds values
empty_assignment [] [] p q = tt
empty_assignment [] (v ∷ vs) p q = absurd (omega arith)
empty_assignment (k ∷ ks) values p q = absurd (omega arith)

-- ---- an answer that is no

pub never : IsTrue false → ⊥
never h = let e : false ≡ true = h in cc

pub not_so : (P : Type 0) → (P → ⊥) → IsTrue false ↔ P
not_so P none = (λ h. absurd (never h), λ h. absurd (none h))
