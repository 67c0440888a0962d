-- Which relation holds where all elements pass a test.
use Rattle.std.proofs.Common.{◌≡◌, Bool, true, false, not, ◌||◌, ◌&&◌, ℤ, List, [], ◌∷◌, map, refl, sym, ap, ◌∙◌, subst, inl, inr, Contains}
use Rattle.std.specs.Prelude.{◌↔◌, if◌then◌else◌}
use Rattle.std.proofs.lemmas.Bool.{and_parts}
use Rattle.std.proofs.Math.Bool.{beq}
use Rattle.bit_layout.specs.Words.{lists}
use Rattle.bit_layout.proofs.Elements.{lists_true, listed_is_in}
use Rattle.bit_layout.proofs.Rising.{nothing_in_empty, in_cons, in_head, in_tail, same_members}
use Rattle.std.specs.Ordering.{int_cmp}
use Rattle.std.specs.Cmp.{int_cmp_total}
use Rattle.set_meaning.specs.Sets.{Has, IsAscending, EitherHas, BothHave, OnlyFirstHas, JustOneHas, IsSubset, IsUnion, IsIntersection, IsDifference, IsSymmetricDifference}
use Rattle.sweep_sets.specs.declared.marks.Marks.{Marks}
use Rattle.sweep_sets.specs.declared.rules.Rule.{Rule}
use Rattle.sweep_sets.specs.declared.rules.Rule.TheVariants.{Equal, Subset, Superset, Union, Intersection, Difference, SymmetricDifference, Before, AtMost}
use Rattle.sweep_sets.specs.declared.rules.Progress.{Progress}
use Rattle.sweep_sets.specs.declared.rules.Progress.TheVariants.{Same, Settled}
use Rattle.sweep_sets.specs.Rules.{unmarked, marks_in, Relates, passes, close, after, verdict, decided}
use Rattle.sweep_sets.proofs.Truth.{not_true, beq-true, same_truth, beq_from, or_cases, or_left, or_right, and_from, not_from, not_so, differ_is}
use Rattle.sweep_sets.proofs.SetOrders.{before_decides, at_most_decides}

-- ---- all elements pass

-- whether so far all have passed, and these do
abbrev all_pass : Rule → Bool → List Marks → Bool
all_pass rule q [] = q
all_pass rule q (m ∷ ms) = all_pass rule (q && passes rule m) ms

all_pass-to : (rule : Rule) (q : Bool) (ms : List Marks) → all_pass rule q ms ≡ true → (q ≡ true) × ((m : Marks) → Contains ms m → passes rule m ≡ true)
all_pass-to rule q [] h = (h, λ m in_nothing. absurd (nothing_in_empty m in_nothing))
all_pass-to rule q (n ∷ ms) h =
    let r = all_pass-to rule (q && passes rule n) ms h in
    let parts = and_parts q (passes rule n) r.0 in (
      parts.0,
      λ m k. elim (in_cons n ms m k) [
        | inl here ↦ let P : Marks → Type 0 = λ x. passes rule x ≡ true in subst P here parts.1
        | inr later ↦ r.1 m later
      ],
    )

all_pass-from : (rule : Rule) (q : Bool) (ms : List Marks) → q ≡ true → ((m : Marks) → Contains ms m → passes rule m ≡ true) → all_pass rule q ms ≡ true
all_pass-from rule q [] h all = h
all_pass-from rule q (n ∷ ms) h all =
    all_pass-from rule (q && passes rule n) ms (and_from q (passes rule n) h (all n (in_head n ms))) (λ m k. all m (in_tail n ms m k))

pub in_map : {X Y : Type 0} (f : X → Y) (xs : List X) (y : Y) → Contains (map f xs) y → (x : X) × Contains xs x × (f x ≡ y)
in_map f [] y h = absurd (nothing_in_empty y h)
in_map f (x ∷ xs) y h =
    elim (in_cons (f x) (map f xs) y h) [
      | inl here ↦ (x, in_head x xs, here)
      | inr later ↦ let r = in_map f xs y later in (r.0, in_tail x xs r.0 r.1, r.2)
    ]

map_has : {X Y : Type 0} (f : X → Y) (xs : List X) (x : X) → Contains xs x → Contains (map f xs) (f x)
map_has f [] x h = absurd (nothing_in_empty x h)
map_has {Y} f (z ∷ xs) x h =
    elim (in_cons z xs x h) [
      | inl here ↦ subst (λ y. Contains (f z ∷ map f xs) (f y)) here (in_head (f z) (map f xs))
      | inr later ↦ in_tail (f z) (map f xs) (f x) (map_has f xs x later)
    ]

none_passes : (rule : Rule) → passes rule unmarked ≡ true
none_passes Equal = refl
none_passes Subset = refl
none_passes Superset = refl
none_passes Union = refl
none_passes Intersection = refl
none_passes Difference = refl
none_passes SymmetricDifference = refl
none_passes Before = refl
none_passes AtMost = refl

-- three sets whose elements are all listed
pub record AreListed (elements a b c : List ℤ) : Type 0 where
  pub first : (x : ℤ) → Contains a x → Contains elements x
  pub second : (x : ℤ) → Contains b x → Contains elements x
  pub third : (x : ℤ) → Contains c x → Contains elements x

unlisted : (elements a : List ℤ) (x : ℤ) → ((x : ℤ) → Contains a x → Contains elements x) → lists elements x ≡ false → lists a x ≡ false
unlisted elements a x within none =
    not_true (lists a x) (λ t. let e : false ≡ true = sym none ∙ lists_true elements x (within x (listed_is_in a x t)) in cc)

pub all_from_listed : (test : Rule) (elements a b c : List ℤ) → AreListed elements a b c → ((m : Marks) → Contains (map (marks_in a b c) elements) m → passes test m ≡ true) → (x : ℤ) → passes test (marks_in a b c x) ≡ true
all_from_listed test elements a b c listed all x =
    elim (lists elements x) as (λ v. lists elements x ≡ v → passes test (marks_in a b c x) ≡ true) [
      | true ↦ λ e. all (marks_in a b c x) (map_has (marks_in a b c) elements x (listed_is_in elements x e))
      | false ↦ λ e.
          let f = unlisted elements a x listed.first e in
          let g = unlisted elements b x listed.second e in
          let h = unlisted elements c x listed.third e in
          let same : marks_in a b c x ≡ unmarked = λ i. record { first = f i; second = g i; third = h i } in
          ap (passes test) same ∙ none_passes test
    ] refl

-- ---- what this says of the sets

pub has_from : (a : List ℤ) (x : ℤ) → lists a x ≡ true → Has a x
unfolding Has
has_from a x h = listed_is_in a x h

pub lists_from : (a : List ℤ) (x : ℤ) → Has a x → lists a x ≡ true
unfolding Has
lists_from a x h = lists_true a x h

implied : (p q : Bool) → (not p || q) ≡ true → p ≡ true → q ≡ true
implied true q h e = h
implied false q h e = absurd (let f : false ≡ true = e in cc)

implies : (p q : Bool) → (p ≡ true → q ≡ true) → (not p || q) ≡ true
implies true q h = h refl
implies false q h = refl

equal_from : (a b : List ℤ) → IsAscending a → IsAscending b → ((x : ℤ) → beq (lists a x) (lists b x) ≡ true) → a ≡ b
equal_from a b p q all =
    let e : (x : ℤ) → lists a x ≡ lists b x = λ x. beq-true (lists a x) (lists b x) (all x) in
    same_members int_cmp int_cmp_total a b p q
    (λ z h. listed_is_in b z (sym (e z) ∙ lists_true a z h))
    (λ z h. listed_is_in a z (e z ∙ lists_true b z h))

subset_from : (a b : List ℤ) → ((x : ℤ) → (not (lists a x) || lists b x) ≡ true) → IsSubset a b
unfolding IsSubset
subset_from a b all x h = has_from b x (implied (lists a x) (lists b x) (all x) (lists_from a x h))

to_subset : (a b : List ℤ) → IsSubset a b → (x : ℤ) → (not (lists a x) || lists b x) ≡ true
unfolding IsSubset
to_subset a b sub x = implies (lists a x) (lists b x) (λ e. lists_from b x (sub x (has_from a x e)))

union_at : (a b : List ℤ) (x : ℤ) → ((lists a x || lists b x) ≡ true) ↔ EitherHas a b x
unfolding EitherHas
union_at a b x = (
  λ h. elim (or_cases (lists a x) (lists b x) h) [ inl e ↦ inl (has_from a x e) | inr e ↦ inr (has_from b x e) ],
  λ h. elim h [ inl e ↦ or_left (lists a x) (lists b x) (lists_from a x e) | inr e ↦ or_right (lists a x) (lists b x) (lists_from b x e) ],
)

intersection_at : (a b : List ℤ) (x : ℤ) → ((lists a x && lists b x) ≡ true) ↔ BothHave a b x
unfolding BothHave
intersection_at a b x = (
  λ h. let r = and_parts (lists a x) (lists b x) h in (has_from a x r.0, has_from b x r.1),
  λ h. and_from (lists a x) (lists b x) (lists_from a x h.0) (lists_from b x h.1),
)

difference_at : (a b : List ℤ) (x : ℤ) → ((lists a x && not (lists b x)) ≡ true) ↔ OnlyFirstHas a b x
unfolding OnlyFirstHas
difference_at a b x = (
  λ h. let r = and_parts (lists a x) (not (lists b x)) h in (has_from a x r.0, λ k. not_so (lists b x) r.1 (lists_from b x k)),
  λ h. and_from (lists a x) (not (lists b x)) (lists_from a x h.0) (not_from (lists b x) (λ e. h.1 (has_from b x e))),
)

just_one_at : (a b : List ℤ) (x : ℤ) → (not (beq (lists a x) (lists b x)) ≡ true) ↔ JustOneHas a b x
unfolding JustOneHas
just_one_at a b x =
    let p = lists a x && not (lists b x) in
    let q = lists b x && not (lists a x) in (
      λ h. elim (or_cases p q (sym (differ_is (lists a x) (lists b x)) ∙ h)) [ inl e ↦ inl ((difference_at a b x).0 e) | inr e ↦ inr ((difference_at b a x).0 e) ],
      λ h. differ_is (lists a x) (lists b x) ∙ elim h [ inl e ↦ or_left p q ((difference_at a b x).1 e) | inr e ↦ or_right p q ((difference_at b a x).1 e) ],
    )

-- the third set has x just where the result does
result_at : (c : List ℤ) (x : ℤ) (r : Bool) (P : Type 0) → (r ≡ true) ↔ P → beq (lists c x) r ≡ true → Has c x ↔ P
result_at c x r P is h =
    let e : lists c x ≡ r = beq-true (lists c x) r h in
    (λ k. is.0 (sym e ∙ lists_from c x k), λ p. has_from c x (e ∙ is.1 p))

to_result : (c : List ℤ) (x : ℤ) (r : Bool) (P : Type 0) → (r ≡ true) ↔ P → Has c x ↔ P → beq (lists c x) r ≡ true
to_result c x r P is h = beq_from (lists c x) r (same_truth (lists c x) r (λ e. is.1 (h.0 (has_from c x e))) (λ e. lists_from c x (h.1 (is.0 e))))

-- ---- the rules that are tests

-- whether all have passed so far
abbrev known : Bool → Progress
known passed = if passed then Same else Settled false

-- a rule that keeps just that
record IsTest (rule : Rule) : Type 0 where
  pub closes : (q : Bool) (m : Marks) → close rule (known q) m ≡ known (q && passes rule m)
  pub ends : (q : Bool) → verdict rule (known q) ≡ q

after-known : (rule : Rule) (q : Bool) (ms : List Marks) → IsTest rule → after rule (known q) ms ≡ known (all_pass rule q ms)
after-known rule q [] is = refl
after-known rule q (m ∷ ms) is = ap (λ p. after rule p ms) (is.closes q m) ∙ after-known rule (q && passes rule m) ms is

decided-tests : (rule : Rule) (ms : List Marks) → IsTest rule → decided rule ms ≡ all_pass rule true ms
decided-tests rule ms is = ap (verdict rule) (after-known rule true ms is) ∙ is.ends (all_pass rule true ms)

test_decides : (rule : Rule) (elements a b c : List ℤ) → IsTest rule → AreListed elements a b c
    → (((x : ℤ) → passes rule (marks_in a b c x) ≡ true) → Relates rule a b c) → (Relates rule a b c → (x : ℤ) → passes rule (marks_in a b c x) ≡ true)
    → (decided rule (map (marks_in a b c) elements) ≡ true) ↔ Relates rule a b c
test_decides rule elements a b c is listed to from =
    let ms : List Marks = map (marks_in a b c) elements in (
      λ h. to (all_from_listed rule elements a b c listed (all_pass-to rule true ms (sym (decided-tests rule ms is) ∙ h)).1),
      λ h. decided-tests rule ms is ∙ all_pass-from rule true ms refl (λ m k.
          let r = in_map (marks_in a b c) elements m k in
          let P : Marks → Type 0 = λ n. passes rule n ≡ true in
          subst P r.2 (from h r.0)),
    )

known_case : (P : Bool → Type 0) → P true → P false → (q : Bool) → P q
known_case P yes_case no_case true = yes_case
known_case P yes_case no_case false = no_case

is_Equal : IsTest Equal
is_Equal = record {
  closes = λ q m. known_case (λ q. close Equal (known q) m ≡ known (q && passes Equal m)) refl refl q;
  ends = λ q. known_case (λ q. verdict Equal (known q) ≡ q) refl refl q;
}

is_Subset : IsTest Subset
is_Subset = record {
  closes = λ q m. known_case (λ q. close Subset (known q) m ≡ known (q && passes Subset m)) refl refl q;
  ends = λ q. known_case (λ q. verdict Subset (known q) ≡ q) refl refl q;
}

is_Superset : IsTest Superset
is_Superset = record {
  closes = λ q m. known_case (λ q. close Superset (known q) m ≡ known (q && passes Superset m)) refl refl q;
  ends = λ q. known_case (λ q. verdict Superset (known q) ≡ q) refl refl q;
}

is_Union : IsTest Union
is_Union = record {
  closes = λ q m. known_case (λ q. close Union (known q) m ≡ known (q && passes Union m)) refl refl q;
  ends = λ q. known_case (λ q. verdict Union (known q) ≡ q) refl refl q;
}

is_Intersection : IsTest Intersection
is_Intersection = record {
  closes = λ q m. known_case (λ q. close Intersection (known q) m ≡ known (q && passes Intersection m)) refl refl q;
  ends = λ q. known_case (λ q. verdict Intersection (known q) ≡ q) refl refl q;
}

is_Difference : IsTest Difference
is_Difference = record {
  closes = λ q m. known_case (λ q. close Difference (known q) m ≡ known (q && passes Difference m)) refl refl q;
  ends = λ q. known_case (λ q. verdict Difference (known q) ≡ q) refl refl q;
}

is_SymmetricDifference : IsTest SymmetricDifference
is_SymmetricDifference = record {
  closes = λ q m. known_case (λ q. close SymmetricDifference (known q) m ≡ known (q && passes SymmetricDifference m)) refl refl q;
  ends = λ q. known_case (λ q. verdict SymmetricDifference (known q) ≡ q) refl refl q;
}

-- ---- each rule

-- what is read of three sets, element by element, decides the rule
pub decides : (rule : Rule) (elements a b c : List ℤ) → IsAscending elements → AreListed elements a b c → IsAscending a → IsAscending b → (decided rule (map (marks_in a b c) elements) ≡ true) ↔ Relates rule a b c
unfolding IsUnion IsIntersection IsDifference IsSymmetricDifference
decides Equal elements a b c up listed p q = test_decides Equal elements a b c is_Equal listed (λ all. equal_from a b p q all) (λ h x. beq_from (lists a x) (lists b x) (ap (λ s. lists s x) h))
decides Subset elements a b c up listed p q = test_decides Subset elements a b c is_Subset listed (λ all. subset_from a b all) (λ h. to_subset a b h)
decides Superset elements a b c up listed p q = test_decides Superset elements a b c is_Superset listed (λ all. subset_from b a all) (λ h. to_subset b a h)
decides Union elements a b c up listed p q = test_decides Union elements a b c is_Union listed (λ all x. result_at c x (lists a x || lists b x) (EitherHas a b x) (union_at a b x) (all x)) (λ h x. to_result c x (lists a x || lists b x) (EitherHas a b x) (union_at a b x) (h x))
decides Intersection elements a b c up listed p q = test_decides Intersection elements a b c is_Intersection listed (λ all x. result_at c x (lists a x && lists b x) (BothHave a b x) (intersection_at a b x) (all x)) (λ h x. to_result c x (lists a x && lists b x) (BothHave a b x) (intersection_at a b x) (h x))
decides Difference elements a b c up listed p q = test_decides Difference elements a b c is_Difference listed (λ all x. result_at c x (lists a x && not (lists b x)) (OnlyFirstHas a b x) (difference_at a b x) (all x)) (λ h x. to_result c x (lists a x && not (lists b x)) (OnlyFirstHas a b x) (difference_at a b x) (h x))
decides SymmetricDifference elements a b c up listed p q = test_decides SymmetricDifference elements a b c is_SymmetricDifference listed (λ all x. result_at c x (not (beq (lists a x) (lists b x))) (JustOneHas a b x) (just_one_at a b x) (all x)) (λ h x. to_result c x (not (beq (lists a x) (lists b x))) (JustOneHas a b x) (just_one_at a b x) (h x))
decides Before elements a b c up listed p q = before_decides elements a b c up p q listed.first listed.second
decides AtMost elements a b c up listed p q = at_most_decides elements a b c up p q listed.first listed.second
