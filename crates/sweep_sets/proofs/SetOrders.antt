-- Reading two sets element by element decides which is before the other.
use Rattle.std.proofs.Common.{◌≡◌, ◌↔◌, ◌⊎◌, Bool, true, false, not, ◌<ℤ◌, ℤ, List, [], ◌∷◌, map, refl, sym, ap, ◌∙◌, subst, inl, inr, arith, Contains}
use Rattle.std.specs.Prelude.{if◌then◌else◌}
use Rattle.std.specs.Ordering.{int_cmp}
use Rattle.std.specs.declared.cmp.Ordering.TheVariants.{Less}
use Rattle.std.specs.Cmp.{int_ranked}
use Rattle.std.specs.List.Sorted.{IsStrictlySortedBy}
use Rattle.std.proofs.lemmas.Map.Keys.{sorted_head, sorted_tail}
use Rattle.std.proofs.lemmas.Int.{ints}
use Rattle.std.proofs.lemmas.List.Elements.{All-contains, All-from_recursion}
use Rattle.bit_layout.specs.Words.{lists}
use Rattle.bit_layout.proofs.Elements.{lists_true, listed_is_in, same_lists}
use Rattle.bit_layout.proofs.Rising.{nothing_in_empty, in_cons, in_head, in_tail}
use Rattle.set_meaning.specs.Sets.{IsAscending, IsBefore}
use Rattle.sweep_sets.specs.declared.marks.Marks.{Marks}
use Rattle.sweep_sets.specs.declared.rules.Rule.TheVariants.{Before, AtMost}
use Rattle.sweep_sets.specs.declared.rules.Progress.{Progress}
use Rattle.sweep_sets.specs.declared.rules.Progress.TheVariants.{Same, FirstHasMore, SecondHasMore, Settled}
use Rattle.sweep_sets.specs.Rules.{marks_in, compared, after, verdict, decided}
use Rattle.sweep_sets.proofs.Truth.{not_true}

-- ---- reading an order

abbrev in_order : Bool → List ℤ → List ℤ → Type 0
in_order true a b = IsBefore a b ⊎ (a ≡ b)
in_order false a b = IsBefore a b

abbrev run : Progress → List Marks → Progress
run q [] = q
run q (m ∷ ms) = run (compared q m) ms

-- whether the order is found, equal sets being in order where this is allowed
abbrev judge : Bool → Progress → Bool
judge equal Same = equal
judge equal FirstHasMore = false
judge equal SecondHasMore = true
judge equal (Settled first_is_before) = first_is_before

-- ---- ascending lists within ascending lists

below : (x : ℤ) (xs : List ℤ) (z : ℤ) → IsAscending (x ∷ xs) → Contains xs z → x <ℤ z
below x xs z up h = int_ranked x z Less (sym (All-contains (λ y. int_cmp x y ≡ Less) xs z (All-from_recursion (λ y. int_cmp x y ≡ Less) xs (sorted_head int_cmp x xs up)) h))

apart : (x z : ℤ) → x <ℤ z → z ≡ x → ⊥
apart x z less same = let more : z <ℤ z = let P : ℤ → Type 0 = λ y. y <ℤ z in subst P (sym same) less in omega (arith, ints, more)

-- what is left of a set once the first element is read
record Rest (e : ℤ) (es a : List ℤ) : Type 0 where
  pub has : Bool
  pub left : List ℤ
  pub is : a ≡ (if has then e ∷ left else left)
  pub mark : lists a e ≡ has
  pub ascending : IsAscending left
  pub within : (x : ℤ) → Contains left x → Contains es x
  pub same : (x : ℤ) → Contains es x → lists a x ≡ lists left x

not_listed : (e : ℤ) (es a : List ℤ) → IsAscending (e ∷ es) → ((x : ℤ) → Contains a x → Contains es x) → lists a e ≡ false
not_listed e es a up within = not_true (lists a e) (λ t. let h = below e es e up (within e (listed_is_in a e t)) in omega (arith, ints, h))

rest_of : (e : ℤ) (es a : List ℤ) → IsAscending (e ∷ es) → IsAscending a → ((x : ℤ) → Contains a x → Contains (e ∷ es) x) → Rest e es a
unfolding IsStrictlySortedBy
rest_of e es [] up p within = record {
  has = false;
  left = [];
  is = refl;
  mark = refl;
  ascending = p;
  within = λ x h. absurd (nothing_in_empty x h);
  same = λ x h. refl;
}
rest_of e es (y ∷ ys) up p within =
    elim (in_cons e es y (within y (in_head y ys))) [
      | inl first ↦
          let later : (x : ℤ) → Contains ys x → Contains es x =
          λ x h. elim (in_cons e es x (within x (in_tail y ys x h))) [
            | inl here ↦ absurd (apart y x (below y ys x p h) (sym here ∙ first))
            | inr there ↦ there
          ] in record {
            has = true;
            left = ys;
            is = ap (λ z. z ∷ ys) (sym first);
            mark = lists_true (y ∷ ys) e (subst (Contains (y ∷ ys)) (sym first) (in_head y ys));
            ascending = sorted_tail int_cmp y ys p;
            within = later;
            same = λ x h. same_lists (y ∷ ys) ys x
                (λ k. elim (in_cons y ys x k) [
                  | inl here ↦ absurd (apart e x (below e es x up h) (sym here ∙ sym first))
                  | inr there ↦ there
                ])
                (λ k. in_tail y ys x k);
          }
      | inr there ↦
          let later : (x : ℤ) → Contains (y ∷ ys) x → Contains es x =
          λ x h. elim (in_cons e es x (within x h)) [
            | inl here ↦ elim (in_cons y ys x h) [
              | inl head ↦ subst (Contains es) head there
              | inr k ↦ let low = below y ys x p k in let high = below e es y up there in absurd (let f : e ≡ x = here in let g : e <ℤ e = let P : ℤ → Type 0 = λ z. e <ℤ z in subst P (sym f) (omega (arith, ints, low, high)) in omega (arith, ints, g))
            ]
            | inr k ↦ k
          ] in record {
            has = false;
            left = y ∷ ys;
            is = refl;
            mark = not_listed e es (y ∷ ys) up later;
            ascending = p;
            within = later;
            same = λ x h. refl;
          }
    ]

-- ---- what is left to read

marked : List ℤ → List ℤ → List ℤ → List ℤ → List Marks
marked a b c es = map (marks_in a b c) es

marks_alike : (a b c a' b' : List ℤ) (es : List ℤ) → ((x : ℤ) → Contains es x → lists a x ≡ lists a' x) → ((x : ℤ) → Contains es x → lists b x ≡ lists b' x) → marked a b c es ≡ marked a' b' c es
unfolding marked
marks_alike a b c a' b' [] p q = refl
marks_alike a b c a' b' (e ∷ es) p q =
    λ i. record { first = p e (in_head e es) i; second = q e (in_head e es) i; third = lists c e } ∷ marks_alike a b c a' b' es (λ x h. p x (in_tail e es x h)) (λ x h. q x (in_tail e es x h)) i

settled : (v : Bool) (ms : List Marks) → run (Settled v) ms ≡ Settled v
settled v [] = refl
settled v (m ∷ ms) = settled v ms

some : List ℤ → Bool
some [] = false
some (x ∷ xs) = true

-- the first set has an element that the second lacks: it is before the second just where the second has a later one
first_more : (equal : Bool) (es a b c : List ℤ) → IsAscending es → IsAscending b → ((x : ℤ) → Contains b x → Contains es x) → judge equal (run FirstHasMore (marked a b c es)) ≡ some b
unfolding marked some
first_more equal [] a [] c up q within = refl
first_more equal [] a (y ∷ ys) c up q within = absurd (nothing_in_empty y (within y (in_head y ys)))
first_more equal (e ∷ es) a b c up q within =
    let r = rest_of e es b up q within in
    elim r.has as (λ v. r.has ≡ v → judge equal (run FirstHasMore (marked a b c (e ∷ es))) ≡ some b) [
      | true ↦ λ is.
          ap (λ v. judge equal (run (if v then Settled true else FirstHasMore) (marked a b c es))) (r.mark ∙ is)
          ∙ ap (judge equal) (settled true (marked a b c es))
          ∙ sym (ap some (r.is ∙ ap (λ v. if v then e ∷ r.left else r.left) is))
      | false ↦ λ is.
          let same : b ≡ r.left = r.is ∙ ap (λ v. if v then e ∷ r.left else r.left) is in
          ap (λ v. judge equal (run (if v then Settled true else FirstHasMore) (marked a b c es))) (r.mark ∙ is)
          ∙ first_more equal es a b c (sorted_tail int_cmp e es up) q (λ x h. r.within x (subst (λ s. Contains s x) same h))
    ] refl

-- the second set has an element that the first lacks: the first is before it just where the first has no later one
second_more : (equal : Bool) (es a b c : List ℤ) → IsAscending es → IsAscending a → ((x : ℤ) → Contains a x → Contains es x) → judge equal (run SecondHasMore (marked a b c es)) ≡ not (some a)
unfolding marked some
second_more equal [] [] b c up q within = refl
second_more equal [] (y ∷ ys) b c up q within = absurd (nothing_in_empty y (within y (in_head y ys)))
second_more equal (e ∷ es) a b c up q within =
    let r = rest_of e es a up q within in
    elim r.has as (λ v. r.has ≡ v → judge equal (run SecondHasMore (marked a b c (e ∷ es))) ≡ not (some a)) [
      | true ↦ λ is.
          ap (λ v. judge equal (run (if v then Settled false else SecondHasMore) (marked a b c es))) (r.mark ∙ is)
          ∙ ap (judge equal) (settled false (marked a b c es))
          ∙ sym (ap (λ s. not (some s)) (r.is ∙ ap (λ v. if v then e ∷ r.left else r.left) is))
      | false ↦ λ is.
          let same : a ≡ r.left = r.is ∙ ap (λ v. if v then e ∷ r.left else r.left) is in
          ap (λ v. judge equal (run (if v then Settled false else SecondHasMore) (marked a b c es))) (r.mark ∙ is)
          ∙ second_more equal es a b c (sorted_tail int_cmp e es up) q (λ x h. r.within x (subst (λ s. Contains s x) same h))
    ] refl

-- ---- the order of what is left

abbrev Says : Bool → Type 0 → Type 0
Says answer P = (answer ≡ true) ↔ P

says_none : (equal : Bool) → Says equal (in_order equal [] [])
unfolding IsBefore
says_none true = (λ h. inr refl, λ h. refl)
says_none false = (λ h. absurd (let e : false ≡ true = h in cc), λ h. absurd h)

prefixed : (e : ℤ) (xs ys : List ℤ) → IsBefore (e ∷ xs) (e ∷ ys) ↔ IsBefore xs ys
unfolding IsBefore
prefixed e xs ys = (
  λ h. elim h [
    | inl less ↦ absurd (omega (arith, ints, less))
    | inr both ↦ both.1
  ],
  λ h. inr (refl, h),
)

says_prefixed : (equal answer : Bool) (e : ℤ) (xs ys : List ℤ) → Says answer (in_order equal xs ys) → Says answer (in_order equal (e ∷ xs) (e ∷ ys))
says_prefixed false answer e xs ys says = (λ h. (prefixed e xs ys).1 (says.0 h), λ h. says.1 ((prefixed e xs ys).0 h))
says_prefixed true answer e xs ys says = (
  λ h. elim (says.0 h) [
    | inl less ↦ inl ((prefixed e xs ys).1 less)
    | inr same ↦ inr (ap (λ zs. e ∷ zs) same)
  ],
  λ h. elim h [
    | inl less ↦ says.1 (inl ((prefixed e xs ys).0 less))
    | inr same ↦ says.1 (inr (let s : xs ≡ ys = cc in s))
  ],
)

says_first : (equal : Bool) (e : ℤ) (xs ys : List ℤ) → ((y : ℤ) → Contains ys y → e <ℤ y) → Says (some ys) (in_order equal (e ∷ xs) ys)
unfolding IsBefore some
says_first true e xs [] later = (λ h. absurd (let f : false ≡ true = h in cc), λ h. elim h [ inl less ↦ absurd less | inr same ↦ absurd (cc) ])
says_first false e xs [] later = (λ h. absurd (let f : false ≡ true = h in cc), λ h. absurd h)
says_first true e xs (y ∷ ys) later = (λ h. inl (inl (later y (in_head y ys))), λ h. refl)
says_first false e xs (y ∷ ys) later = (λ h. inl (later y (in_head y ys)), λ h. refl)

says_second : (equal : Bool) (e : ℤ) (xs ys : List ℤ) → ((x : ℤ) → Contains xs x → e <ℤ x) → Says (not (some xs)) (in_order equal xs (e ∷ ys))
unfolding IsBefore some
says_second true e [] ys later = (λ h. inl tt, λ h. refl)
says_second false e [] ys later = (λ h. tt, λ h. refl)
says_second true e (x ∷ xs) ys later =
    let up = later x (in_head x xs) in (
      λ h. absurd (let f : false ≡ true = h in cc),
      λ h. elim h [
        | inl less ↦ elim less [ inl low ↦ absurd (omega (arith, ints, up, low)) | inr both ↦ absurd (apart e x up both.0) ]
        | inr same ↦ absurd (let s : x ≡ e = cc in apart e x up s)
      ],
    )
says_second false e (x ∷ xs) ys later =
    let up = later x (in_head x xs) in (
      λ h. absurd (let f : false ≡ true = h in cc),
      λ h. elim h [ inl low ↦ absurd (omega (arith, ints, up, low)) | inr both ↦ absurd (apart e x up both.0) ],
    )

-- ---- all elements

answer : Bool → Progress → List ℤ → List ℤ → List ℤ → List ℤ → Bool
answer equal q a b c es = judge equal (run q (marked a b c es))

decides : (equal : Bool) (es a b c : List ℤ) → IsAscending es → IsAscending a → IsAscending b → ((x : ℤ) → Contains a x → Contains es x) → ((x : ℤ) → Contains b x → Contains es x) → Says (answer equal Same a b c es) (in_order equal a b)
unfolding answer marked
decides equal [] [] [] c up p q in_a in_b = says_none equal
decides equal [] (x ∷ xs) b c up p q in_a in_b = absurd (nothing_in_empty x (in_a x (in_head x xs)))
decides equal [] [] (y ∷ ys) c up p q in_a in_b = absurd (nothing_in_empty y (in_b y (in_head y ys)))
decides equal (e ∷ es) a b c up p q in_a in_b =
    let r = rest_of e es a up p in_a in
    let s = rest_of e es b up q in_b in
    let tail : IsAscending es = sorted_tail int_cmp e es up in
    let next : Bool → Bool → Bool = λ v w. judge equal (run (compared Same record { first = v; second = w; third = lists c e }) (marked a b c es)) in
    let Goal : Bool → List ℤ → List ℤ → Type 0 = λ v x y. Says v (in_order equal x y) in
    let at : (v w : Bool) → r.has ≡ v → s.has ≡ w → Says (next v w) (in_order equal (if v then e ∷ r.left else r.left) (if w then e ∷ s.left else s.left)) =
    λ v w. elim v as (λ v. r.has ≡ v → s.has ≡ w → Says (next v w) (in_order equal (if v then e ∷ r.left else r.left) (if w then e ∷ s.left else s.left))) [
      | true ↦ elim w as (λ w. r.has ≡ true → s.has ≡ w → Says (next true w) (in_order equal (e ∷ r.left) (if w then e ∷ s.left else s.left))) [
        | true ↦ λ f g. says_prefixed equal (next true true) e r.left s.left (subst (λ ms. Says (judge equal (run Same ms)) (in_order equal r.left s.left)) (sym (marks_alike a b c r.left s.left es r.same s.same)) (decides equal es r.left s.left c tail r.ascending s.ascending r.within s.within))
        | false ↦ λ f g. subst (λ v. Says v (in_order equal (e ∷ r.left) s.left)) (sym (ap (λ ms. judge equal (run FirstHasMore ms)) (marks_alike a b c a s.left es (λ x h. refl) s.same) ∙ first_more equal es a s.left c tail s.ascending s.within)) (says_first equal e r.left s.left (λ y h. below e es y up (s.within y h)))
      ]
      | false ↦ elim w as (λ w. r.has ≡ false → s.has ≡ w → Says (next false w) (in_order equal r.left (if w then e ∷ s.left else s.left))) [
        | true ↦ λ f g. subst (λ v. Says v (in_order equal r.left (e ∷ s.left))) (sym (ap (λ ms. judge equal (run SecondHasMore ms)) (marks_alike a b c r.left b es r.same (λ x h. refl)) ∙ second_more equal es r.left b c tail r.ascending r.within)) (says_second equal e r.left s.left (λ x h. below e es x up (r.within x h)))
        | false ↦ λ f g. subst (λ ms. Says (judge equal (run Same ms)) (in_order equal r.left s.left)) (sym (marks_alike a b c r.left s.left es r.same s.same)) (decides equal es r.left s.left c tail r.ascending s.ascending r.within s.within)
      ]
    ] in
    let done = at r.has s.has refl refl in
    subst (λ v. Says v (in_order equal a b)) (sym (λ i. next (r.mark i) (s.mark i)))
    (subst (λ x. Says (next r.has s.has) (in_order equal x b)) (sym r.is) (subst (λ y. Says (next r.has s.has) (in_order equal (if r.has then e ∷ r.left else r.left) y)) (sym s.is) done))

-- ---- the two rules

after_before : (q : Progress) (ms : List Marks) → after Before q ms ≡ run q ms
after_before q [] = refl
after_before q (m ∷ ms) = after_before (compared q m) ms

after_at_most : (q : Progress) (ms : List Marks) → after AtMost q ms ≡ run q ms
after_at_most q [] = refl
after_at_most q (m ∷ ms) = after_at_most (compared q m) ms

judge_before : (q : Progress) → verdict Before q ≡ judge false q
judge_before Same = refl
judge_before FirstHasMore = refl
judge_before SecondHasMore = refl
judge_before (Settled b) = refl

judge_at_most : (q : Progress) → verdict AtMost q ≡ judge true q
judge_at_most Same = refl
judge_at_most FirstHasMore = refl
judge_at_most SecondHasMore = refl
judge_at_most (Settled b) = refl

pub before_decides : (es a b c : List ℤ) → IsAscending es → IsAscending a → IsAscending b → ((x : ℤ) → Contains a x → Contains es x) → ((x : ℤ) → Contains b x → Contains es x)
    → (decided Before (map (marks_in a b c) es) ≡ true) ↔ IsBefore a b
unfolding answer marked
before_decides es a b c up p q in_a in_b =
    let same : decided Before (marked a b c es) ≡ answer false Same a b c es = judge_before (after Before Same (marked a b c es)) ∙ ap (judge false) (after_before Same (marked a b c es)) in
    subst (λ v. (v ≡ true) ↔ IsBefore a b) (sym same) (decides false es a b c up p q in_a in_b)

pub at_most_decides : (es a b c : List ℤ) → IsAscending es → IsAscending a → IsAscending b → ((x : ℤ) → Contains a x → Contains es x) → ((x : ℤ) → Contains b x → Contains es x)
    → (decided AtMost (map (marks_in a b c) es) ≡ true) ↔ (IsBefore a b ⊎ (a ≡ b))
unfolding answer marked
at_most_decides es a b c up p q in_a in_b =
    let same : decided AtMost (marked a b c es) ≡ answer true Same a b c es = judge_at_most (after AtMost Same (marked a b c es)) ∙ ap (judge true) (after_at_most Same (marked a b c es)) in
    subst (λ v. (v ≡ true) ↔ (IsBefore a b ⊎ (a ≡ b))) (sym same) (decides true es a b c up p q in_a in_b)
