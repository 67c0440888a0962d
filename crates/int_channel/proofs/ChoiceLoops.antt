-- A branch for each of some numbers.
use Rattle.std.proofs.Common.{◌≡◌, ◌↔◌, ◌⊎◌, ◌<◌, ◌≤◌, ◌+◌, ℕ, zero, suc, ℤ, pos, Bool, true, false, IsTrue, List, [], ◌∷◌, ◌++◌, take, length, get_or, refl, sym, ap, ◌∙◌, subst, inl, inr, arith, Contains}
use Rattle.std.specs.Prelude.{Any, filter_map, if◌then◌else◌}
use Rattle.std.specs.List.{All}
use Rattle.std.proofs.lemmas.List.{take_more, take_all}
use Rattle.std.proofs.lemmas.List.Elements.{All-nil, All-push, Contains-append_left, Contains-append_right}
use Rattle.set_meaning.specs.declared.kinds.Kind.{Kind}
use Rattle.set_meaning.specs.declared.kinds.Value.{Value}
use Rattle.set_meaning.specs.declared.problems.Term.{Term}
use Rattle.set_meaning.specs.Relations.{variable_of}
use Rattle.set_meaning.specs.Sets.{Has}
use Rattle.bit_layout.proofs.Rising.{nothing_in_empty, in_cons, in_head, in_tail}
use Rattle.int_channel.specs.declared.forms.Branch.{Branch}
use Rattle.int_channel.specs.Forms.{BranchHolds, IsBranchOver}
use Rattle.int_channel.specs.Choices.{number_of_term, AreAmong, IsBranchWhere, AreChoicesOf, IsOneOf}
use Rattle.int_channel.proofs.ChoiceBranches.{any_head, any_tail, any_cases, none}

-- ---- one more item

any_left : {X : Type 0} (P : X → Type 0) (xs : List X) (y : X) → Any P xs → Any P (xs ++ y ∷ [])
any_left P [] y h = absurd (none P h)
any_left P (x ∷ xs) y h = elim (any_cases P x xs h) [ inl here ↦ any_head P x (xs ++ y ∷ []) here | inr later ↦ any_tail P x (xs ++ y ∷ []) (any_left P xs y later) ]

any_last : {X : Type 0} (P : X → Type 0) (xs : List X) (y : X) → P y → Any P (xs ++ y ∷ [])
any_last P [] y h = any_head P y [] h
any_last P (x ∷ xs) y h = any_tail P x (xs ++ y ∷ []) (any_last P xs y h)

any_either : {X : Type 0} (P : X → Type 0) (xs : List X) (y : X) → Any P (xs ++ y ∷ []) → Any P xs ⊎ P y
any_either P [] y h = elim (any_cases P y [] h) [ inl here ↦ inr here | inr other ↦ inl other ]
any_either P (x ∷ xs) y h =
    elim (any_cases P x (xs ++ y ∷ []) h) [
      | inl here ↦ inl (any_head P x xs here)
      | inr later ↦ elim (any_either P xs y later) [ inl before ↦ inl (any_tail P x xs before) | inr last ↦ inr last ]
    ]

in_left : (xs : List ℤ) (y x : ℤ) → Contains xs x → Contains (xs ++ y ∷ []) x
in_left xs y x h = Contains-append_left xs (y ∷ []) x h

in_last : (xs : List ℤ) (y x : ℤ) → y ≡ x → Contains (xs ++ y ∷ []) x
in_last xs y x e = subst (Contains (xs ++ y ∷ [])) e (Contains-append_right xs (y ∷ []) y (in_head y []))

in_either : (xs : List ℤ) (y x : ℤ) → Contains (xs ++ y ∷ []) x → Contains xs x ⊎ (y ≡ x)
in_either [] y x h = elim (in_cons y [] x h) [ inl same ↦ inr same | inr other ↦ inl other ]
in_either (z ∷ xs) y x h =
    elim (in_cons z (xs ++ y ∷ []) x h) [
      | inl here ↦ inl (subst (Contains (z ∷ xs)) here (in_head z xs))
      | inr later ↦ elim (in_either xs y x later) [ inl before ↦ inl (in_tail z xs x before) | inr last ↦ inr last ]
    ]

-- ---- branches of the numbers so far

pub no_choice : (kinds : List Kind) (ts : List Term) (t : Term) (Q : ℤ → List Value → Type 0) (bs : List Branch) → bs ≡ [] → AreChoicesOf kinds ts (IsOneOf t [] Q) bs
no_choice kinds ts t Q bs is =
    subst (AreChoicesOf kinds ts (IsOneOf t [] Q)) (sym is)
    record {
      meaning = λ values. (λ some. absurd (none (λ n. (number_of_term values t ≡ n) × Q n values) some), λ some. absurd (none (BranchHolds values) some));
      over = λ terms among. All-nil (IsBranchOver kinds (filter_map variable_of terms));
    }

pub one_choice_more : (kinds : List Kind) (ts : List Term) (t : Term) (numbers : List ℤ) (Q : ℤ → List Value → Type 0) (i : ℕ) (n : ℤ) (old new : List Branch) (b : Branch)
    → i < length numbers → n ≡ get_or numbers i (pos 0) → new ≡ old ++ b ∷ [] → AreChoicesOf kinds ts (IsOneOf t (take i numbers) Q) old
    → IsBranchWhere kinds ts (λ values. (number_of_term values t ≡ n) × Q n values) b → AreChoicesOf kinds ts (IsOneOf t (take (i + 1) numbers) Q) new
one_choice_more kinds ts t numbers Q i n old new b within here is before branch =
    let taken : take (i + 1) numbers ≡ take i numbers ++ n ∷ [] = take_more numbers i (pos 0) within ∙ ap (λ x. take i numbers ++ x ∷ []) (sym here) in
    let T : List ℤ → List Branch → Type 0 = λ xs bs. AreChoicesOf kinds ts (IsOneOf t xs Q) bs in
    subst (λ xs. T xs new) (sym taken) (subst (T (take i numbers ++ n ∷ [])) (sym is)
    record {
      meaning = λ values.
          let F : ℤ → Type 0 = λ n. (number_of_term values t ≡ n) × Q n values in (
            λ some. elim (any_either F (take i numbers) n some) [
              | inl earlier ↦ any_left (BranchHolds values) old b ((before.meaning values).0 earlier)
              | inr last ↦ any_last (BranchHolds values) old b ((branch.meaning values).0 last)
            ],
            λ some. elim (any_either (BranchHolds values) old b some) [
              | inl earlier ↦ any_left F (take i numbers) n ((before.meaning values).1 earlier)
              | inr last ↦ any_last F (take i numbers) n ((branch.meaning values).1 last)
            ],
          );
      over = λ terms among. All-push (IsBranchOver kinds (filter_map variable_of terms)) old b (before.over terms among) (branch.over terms among);
    })

pub all_choices : (kinds : List Kind) (ts : List Term) (t : Term) (numbers : List ℤ) (Q : ℤ → List Value → Type 0) (i : ℕ) (bs : List Branch) → length numbers ≤ i
    → AreChoicesOf kinds ts (IsOneOf t (take i numbers) Q) bs → AreChoicesOf kinds ts (IsOneOf t numbers Q) bs
all_choices kinds ts t numbers Q i bs whole h = subst (λ xs. AreChoicesOf kinds ts (IsOneOf t xs Q) bs) (take_all i numbers whole) h

-- where the number is one of these, or Q makes it one
pub is_one_of : (t : Term) (numbers : List ℤ) (Q : ℤ → List Value → Type 0) (values : List Value) → (Q (number_of_term values t) values → Contains numbers (number_of_term values t))
    → Q (number_of_term values t) values ↔ IsOneOf t numbers Q values
is_one_of t numbers Q values among = (
  λ q. let here = among q in (here.0, number_of_term values t, here.1, here.2, (refl, q)),
  λ some. subst (λ n. Q n values) (sym some.4.0) some.4.1,
)

-- ---- those of some numbers that are kept

kept_one : (P : ℤ → Type 0) (front : List ℤ) (x : ℤ) (keep : Bool) (old new : List ℤ) → new ≡ (if keep then old ++ x ∷ [] else old) → IsTrue keep ↔ P x
    → ((n : ℤ) → Contains old n ↔ (Contains front n × P n)) → (n : ℤ) → Contains new n ↔ (Contains (front ++ x ∷ []) n × P n)
kept_one P front x true old new is test before n =
    subst (λ (xs : List ℤ). Contains xs n ↔ (Contains (front ++ x ∷ []) n × P n)) (sym is) (
      λ h. elim (in_either old x n h) [
        | inl earlier ↦ let both = (before n).0 earlier in (in_left front x n both.0, both.1)
        | inr same ↦ (in_last front x n same, subst P same (test.0 refl))
      ],
      λ h. elim (in_either front x n h.0) [
        | inl earlier ↦ in_left old x n ((before n).1 (earlier, h.1))
        | inr same ↦ in_last old x n same
      ],
    )
kept_one P front x false old new is test before n =
    subst (λ (xs : List ℤ). Contains xs n ↔ (Contains (front ++ x ∷ []) n × P n)) (sym is) (
      λ h. let both = (before n).0 h in (in_left front x n both.0, both.1),
      λ h. elim (in_either front x n h.0) [
        | inl earlier ↦ (before n).1 (earlier, h.1)
        | inr same ↦ absurd (let never : false ≡ true = test.1 (subst P (sym same) h.1) in cc)
      ],
    )

pub kept_more : (P : ℤ → Type 0) (numbers : List ℤ) (i : ℕ) (x : ℤ) (keep : Bool) (old new : List ℤ) → i < length numbers → x ≡ get_or numbers i (pos 0) → new ≡ (if keep then old ++ x ∷ [] else old)
    → IsTrue keep ↔ P x → ((n : ℤ) → Contains old n ↔ (Contains (take i numbers) n × P n)) → (n : ℤ) → Contains new n ↔ (Contains (take (i + 1) numbers) n × P n)
kept_more P numbers i x keep old new within here is test before n =
    let taken : take (i + 1) numbers ≡ take i numbers ++ x ∷ [] = take_more numbers i (pos 0) within ∙ ap (λ y. take i numbers ++ y ∷ []) (sym here) in
    subst (λ (xs : List ℤ). Contains new n ↔ (Contains xs n × P n)) (sym taken) (kept_one P (take i numbers) x keep old new is test before n)

pub all_kept : (P : ℤ → Type 0) (numbers : List ℤ) (i : ℕ) (kept : List ℤ) → length numbers ≤ i → ((n : ℤ) → Contains kept n ↔ (Contains (take i numbers) n × P n)) → (n : ℤ) → Contains kept n ↔ (Contains numbers n × P n)
all_kept P numbers i kept whole h = subst (λ (xs : List ℤ). (n : ℤ) → Contains kept n ↔ (Contains xs n × P n)) (take_all i numbers whole) h

-- nothing is kept for a set without elements
pub nothing_kept : (numbers es kept : List ℤ) → kept ≡ [] → es ≡ [] → (n : ℤ) → Contains kept n ↔ (Contains numbers n × Has es n)
unfolding Has
nothing_kept numbers es kept none empty n = (
  λ h. absurd (nothing_in_empty n (subst (λ (xs : List ℤ). Contains xs n) none h)),
  λ h. absurd (nothing_in_empty n (subst (λ (xs : List ℤ). Contains xs n) empty h.1)),
)
