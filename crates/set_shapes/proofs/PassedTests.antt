-- Which relation holds where all elements pass a test.
use Rattle.std.proofs.Common.{◌≡◌, ◌⊎◌, Bool, true, false, not, ◌||◌, ◌&&◌, ℤ, List, [], ◌∷◌, map, refl, sym, ap, ◌∙◌, subst, inl, inr, Contains}
use Rattle.std.specs.Prelude.{◌↔◌}
use Rattle.std.proofs.lemmas.Bool.{and_parts}
use Rattle.bit_machine.specs.Comparisons.{beq, beq-true}
use Rattle.bit_layout.specs.Words.{lists}
use Rattle.bit_layout.proofs.Elements.{lists_true, listed_is_in}
use Rattle.bit_layout.proofs.Rising.{nothing_in_empty, in_cons, in_head, in_tail, same_members}
use Rattle.std.specs.Ordering.{int_cmp}
use Rattle.std.specs.Cmp.{int_cmp_total}
use Rattle.set_meaning.specs.Sets.{Has, IsAscending, EitherHas, BothHave, OnlyFirstHas, JustOneHas, IsSubset, IsUnion, IsIntersection, IsDifference, IsSymmetricDifference}
use Rattle.element_machine.specs.declared.marks.Marks.{Marks}
use Rattle.element_machine.specs.Rules.{unmarked, after, accepts_elements}
use Rattle.set_shapes.specs.declared.tests_of_elements.ElementTest.{ElementTest}
use Rattle.set_shapes.specs.declared.tests_of_elements.ElementTest.TheVariants.{Equal, Subset, Superset, Union, Intersection, Difference, SymmetricDifference}
use Rattle.set_shapes.specs.Tests.{passes, all_pass}
use Rattle.set_shapes.specs.Tables.{marks_in}
use Rattle.set_shapes.proofs.Numbers.{not_true}

-- ---- truth values

pub same_truth : (a b : Bool) → (a ≡ true → b ≡ true) → (b ≡ true → a ≡ true) → a ≡ b
same_truth true b f g = sym (f refl)
same_truth false true f g = g refl
same_truth false false f g = refl

beq_itself : (a : Bool) → beq a a ≡ true
beq_itself true = refl
beq_itself false = refl

pub beq_from : (a b : Bool) → a ≡ b → beq a b ≡ true
beq_from a b e = ap (λ x. beq x b) e ∙ beq_itself b

or_cases : (a b : Bool) → (a || b) ≡ true → (a ≡ true) ⊎ (b ≡ true)
or_cases true b h = inl refl
or_cases false b h = inr h

or_left : (a b : Bool) → a ≡ true → (a || b) ≡ true
or_left a b h = ap (λ x. x || b) h

or_right : (a b : Bool) → b ≡ true → (a || b) ≡ true
or_right true b h = refl
or_right false b h = h

and_from : (a b : Bool) → a ≡ true → b ≡ true → (a && b) ≡ true
and_from a b p q = ap (λ x. x && b) p ∙ q

not_from : (a : Bool) → (a ≡ true → ⊥) → not a ≡ true
not_from true h = absurd (h refl)
not_from false h = refl

not_so : (a : Bool) → not a ≡ true → a ≡ true → ⊥
not_so true h p = let e : false ≡ true = h in cc
not_so false h p = let e : false ≡ true = p in cc

differ_is : (a b : Bool) → not (beq a b) ≡ ((a && not b) || (b && not a))
differ_is true true = refl
differ_is true false = refl
differ_is false true = refl
differ_is false false = refl

-- ---- all elements pass

pub after-all_pass : (test : ElementTest) (wanted q : Bool) (ms : List Marks) → after (all_pass test wanted) q ms ≡ true → (q ≡ true) × ((m : Marks) → Contains ms m → passes test m ≡ true)
after-all_pass test wanted q [] h = (h, λ m in_nothing. absurd (nothing_in_empty m in_nothing))
after-all_pass test wanted q (n ∷ ms) h =
    let r = after-all_pass test wanted (q && passes test n) ms h in
    let parts = and_parts q (passes test n) r.0 in (
      parts.0,
      λ m k. elim (in_cons n ms m k) [
        | inl here ↦ let P : Marks → Type 0 = λ x. passes test x ≡ true in subst P here parts.1
        | inr later ↦ r.1 m later
      ],
    )

pub after-all_true : (test : ElementTest) (wanted q : Bool) (ms : List Marks) → q ≡ true → ((m : Marks) → Contains ms m → passes test m ≡ true) → after (all_pass test wanted) q ms ≡ true
after-all_true test wanted q [] h all = h
after-all_true test wanted q (n ∷ ms) h all =
    after-all_true test wanted (q && passes test n) ms (and_from q (passes test n) h (all n (in_head n ms))) (λ m k. all m (in_tail n ms m k))

pub in_map : {X Y : Type 0} (f : X → Y) (xs : List X) (y : Y) → Contains (map f xs) y → (x : X) × Contains xs x × (f x ≡ y)
in_map f [] y h = absurd (nothing_in_empty y h)
in_map f (x ∷ xs) y h =
    elim (in_cons (f x) (map f xs) y h) [
      | inl here ↦ (x, in_head x xs, here)
      | inr later ↦ let r = in_map f xs y later in (r.0, in_tail x xs r.0 r.1, r.2)
    ]

map_has : {X Y : Type 0} (f : X → Y) (xs : List X) (x : X) → Contains xs x → Contains (map f xs) (f x)
map_has f [] x h = absurd (nothing_in_empty x h)
map_has {Y} f (z ∷ xs) x h =
    elim (in_cons z xs x h) [
      | inl here ↦ subst (λ y. Contains (f z ∷ map f xs) (f y)) here (in_head (f z) (map f xs))
      | inr later ↦ in_tail (f z) (map f xs) (f x) (map_has f xs x later)
    ]

none_passes : (test : ElementTest) → passes test unmarked ≡ true
none_passes Equal = refl
none_passes Subset = refl
none_passes Superset = refl
none_passes Union = refl
none_passes Intersection = refl
none_passes Difference = refl
none_passes SymmetricDifference = refl

-- three sets whose elements are all listed
pub record AreListed (elements a b c : List ℤ) : Type 0 where
  pub first : (x : ℤ) → Contains a x → Contains elements x
  pub second : (x : ℤ) → Contains b x → Contains elements x
  pub third : (x : ℤ) → Contains c x → Contains elements x

unlisted : (elements a : List ℤ) (x : ℤ) → ((x : ℤ) → Contains a x → Contains elements x) → lists elements x ≡ false → lists a x ≡ false
unlisted elements a x within none =
    not_true (lists a x) (λ t. let e : false ≡ true = sym none ∙ lists_true elements x (within x (listed_is_in a x t)) in cc)

pub all_from_listed : (test : ElementTest) (elements a b c : List ℤ) → AreListed elements a b c → ((m : Marks) → Contains (map (marks_in a b c) elements) m → passes test m ≡ true) → (x : ℤ) → passes test (marks_in a b c x) ≡ true
all_from_listed test elements a b c listed all x =
    elim (lists elements x) as (λ v. lists elements x ≡ v → passes test (marks_in a b c x) ≡ true) [
      | true ↦ λ e. all (marks_in a b c x) (map_has (marks_in a b c) elements x (listed_is_in elements x e))
      | false ↦ λ e.
          let f = unlisted elements a x listed.first e in
          let g = unlisted elements b x listed.second e in
          let h = unlisted elements c x listed.third e in
          let same : marks_in a b c x ≡ unmarked = λ i. record { first = f i; second = g i; third = h i } in
          ap (passes test) same ∙ none_passes test
    ] refl

-- the machine accepts where it is as wanted whether every integer passes
pub record Passing (test : ElementTest) (wanted : Bool) (elements a b c : List ℤ) : Type 0 where
  pub to : accepts_elements (all_pass test true) (map (marks_in a b c) elements) ≡ true → (x : ℤ) → passes test (marks_in a b c x) ≡ true
  pub from : ((x : ℤ) → passes test (marks_in a b c x) ≡ true) → accepts_elements (all_pass test true) (map (marks_in a b c) elements) ≡ true

pub are_passing : (test : ElementTest) (wanted : Bool) (elements a b c : List ℤ) → AreListed elements a b c → Passing test wanted elements a b c
are_passing test wanted elements a b c listed =
    let ms : List Marks = map (marks_in a b c) elements in record {
      to = λ h. all_from_listed test elements a b c listed (after-all_pass test true true ms (beq-true (after (all_pass test true) true ms) true h)).1;
      from = λ h. beq_from (after (all_pass test true) true ms) true (after-all_true test true true ms refl (λ m k.
          let r = in_map (marks_in a b c) elements m k in
          let P : Marks → Type 0 = λ n. passes test n ≡ true in
          subst P r.2 (h r.0)));
    }

-- ---- what this says of the sets

pub has_from : (a : List ℤ) (x : ℤ) → lists a x ≡ true → Has a x
unfolding Has
has_from a x h = listed_is_in a x h

pub lists_from : (a : List ℤ) (x : ℤ) → Has a x → lists a x ≡ true
unfolding Has
lists_from a x h = lists_true a x h

-- the relation of the sets for which all integers pass
abbrev pub Relates : ElementTest → List ℤ → List ℤ → List ℤ → Type 0
Relates Equal a b c = a ≡ b
Relates Subset a b c = IsSubset a b
Relates Superset a b c = IsSubset b a
Relates Union a b c = IsUnion a b c
Relates Intersection a b c = IsIntersection a b c
Relates Difference a b c = IsDifference a b c
Relates SymmetricDifference a b c = IsSymmetricDifference a b c

implied : (p q : Bool) → (not p || q) ≡ true → p ≡ true → q ≡ true
implied true q h e = h
implied false q h e = absurd (let f : false ≡ true = e in cc)

implies : (p q : Bool) → (p ≡ true → q ≡ true) → (not p || q) ≡ true
implies true q h = h refl
implies false q h = refl

equal_from : (a b : List ℤ) → IsAscending a → IsAscending b → ((x : ℤ) → beq (lists a x) (lists b x) ≡ true) → a ≡ b
equal_from a b p q all =
    let e : (x : ℤ) → lists a x ≡ lists b x = λ x. beq-true (lists a x) (lists b x) (all x) in
    same_members int_cmp int_cmp_total a b p q
    (λ z h. listed_is_in b z (sym (e z) ∙ lists_true a z h))
    (λ z h. listed_is_in a z (e z ∙ lists_true b z h))

subset_from : (a b : List ℤ) → ((x : ℤ) → (not (lists a x) || lists b x) ≡ true) → IsSubset a b
unfolding IsSubset
subset_from a b all x h = has_from b x (implied (lists a x) (lists b x) (all x) (lists_from a x h))

to_subset : (a b : List ℤ) → IsSubset a b → (x : ℤ) → (not (lists a x) || lists b x) ≡ true
unfolding IsSubset
to_subset a b sub x = implies (lists a x) (lists b x) (λ e. lists_from b x (sub x (has_from a x e)))

union_at : (a b : List ℤ) (x : ℤ) → ((lists a x || lists b x) ≡ true) ↔ EitherHas a b x
unfolding EitherHas
union_at a b x = (
  λ h. elim (or_cases (lists a x) (lists b x) h) [ inl e ↦ inl (has_from a x e) | inr e ↦ inr (has_from b x e) ],
  λ h. elim h [ inl e ↦ or_left (lists a x) (lists b x) (lists_from a x e) | inr e ↦ or_right (lists a x) (lists b x) (lists_from b x e) ],
)

intersection_at : (a b : List ℤ) (x : ℤ) → ((lists a x && lists b x) ≡ true) ↔ BothHave a b x
unfolding BothHave
intersection_at a b x = (
  λ h. let r = and_parts (lists a x) (lists b x) h in (has_from a x r.0, has_from b x r.1),
  λ h. and_from (lists a x) (lists b x) (lists_from a x h.0) (lists_from b x h.1),
)

difference_at : (a b : List ℤ) (x : ℤ) → ((lists a x && not (lists b x)) ≡ true) ↔ OnlyFirstHas a b x
unfolding OnlyFirstHas
difference_at a b x = (
  λ h. let r = and_parts (lists a x) (not (lists b x)) h in (has_from a x r.0, λ k. not_so (lists b x) r.1 (lists_from b x k)),
  λ h. and_from (lists a x) (not (lists b x)) (lists_from a x h.0) (not_from (lists b x) (λ e. h.1 (has_from b x e))),
)

just_one_at : (a b : List ℤ) (x : ℤ) → (not (beq (lists a x) (lists b x)) ≡ true) ↔ JustOneHas a b x
unfolding JustOneHas
just_one_at a b x =
    let p = lists a x && not (lists b x) in
    let q = lists b x && not (lists a x) in (
      λ h. elim (or_cases p q (sym (differ_is (lists a x) (lists b x)) ∙ h)) [ inl e ↦ inl ((difference_at a b x).0 e) | inr e ↦ inr ((difference_at b a x).0 e) ],
      λ h. differ_is (lists a x) (lists b x) ∙ elim h [ inl e ↦ or_left p q ((difference_at a b x).1 e) | inr e ↦ or_right p q ((difference_at b a x).1 e) ],
    )

-- the third set has x just where the result does
result_at : (c : List ℤ) (x : ℤ) (r : Bool) (P : Type 0) → (r ≡ true) ↔ P → beq (lists c x) r ≡ true → Has c x ↔ P
result_at c x r P is h =
    let e : lists c x ≡ r = beq-true (lists c x) r h in
    (λ k. is.0 (sym e ∙ lists_from c x k), λ p. has_from c x (e ∙ is.1 p))

to_result : (c : List ℤ) (x : ℤ) (r : Bool) (P : Type 0) → (r ≡ true) ↔ P → Has c x ↔ P → beq (lists c x) r ≡ true
to_result c x r P is h = beq_from (lists c x) r (same_truth (lists c x) r (λ e. is.1 (h.0 (has_from c x e))) (λ e. lists_from c x (h.1 (is.0 e))))

pub relates : (test : ElementTest) (a b c : List ℤ) → IsAscending a → IsAscending b → ((x : ℤ) → passes test (marks_in a b c x) ≡ true) → Relates test a b c
unfolding IsUnion IsIntersection IsDifference IsSymmetricDifference
relates Equal a b c p q all = equal_from a b p q all
relates Subset a b c p q all = subset_from a b all
relates Superset a b c p q all = subset_from b a all
relates Union a b c p q all = λ x. result_at c x (lists a x || lists b x) (EitherHas a b x) (union_at a b x) (all x)
relates Intersection a b c p q all = λ x. result_at c x (lists a x && lists b x) (BothHave a b x) (intersection_at a b x) (all x)
relates Difference a b c p q all = λ x. result_at c x (lists a x && not (lists b x)) (OnlyFirstHas a b x) (difference_at a b x) (all x)
relates SymmetricDifference a b c p q all = λ x. result_at c x (not (beq (lists a x) (lists b x))) (JustOneHas a b x) (just_one_at a b x) (all x)

pub all_passing : (test : ElementTest) (a b c : List ℤ) → Relates test a b c → (x : ℤ) → passes test (marks_in a b c x) ≡ true
unfolding IsUnion IsIntersection IsDifference IsSymmetricDifference
all_passing Equal a b c h x = beq_from (lists a x) (lists b x) (ap (λ s. lists s x) h)
all_passing Subset a b c h x = to_subset a b h x
all_passing Superset a b c h x = to_subset b a h x
all_passing Union a b c h x = to_result c x (lists a x || lists b x) (EitherHas a b x) (union_at a b x) (h x)
all_passing Intersection a b c h x = to_result c x (lists a x && lists b x) (BothHave a b x) (intersection_at a b x) (h x)
all_passing Difference a b c h x = to_result c x (lists a x && not (lists b x)) (OnlyFirstHas a b x) (difference_at a b x) (h x)
all_passing SymmetricDifference a b c h x = to_result c x (not (beq (lists a x) (lists b x))) (JustOneHas a b x) (just_one_at a b x) (h x)
