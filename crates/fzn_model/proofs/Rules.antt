-- The first fault of a rule that comes at one place at most, and of the numbers of a list.
use Rattle.std.proofs.Common.{◌≡◌, ◌⊎◌, ◌↔◌, ℕ, suc, ◌+◌, ◌<◌, ◌≤◌, Bool, true, false, cond, IsTrue, List, [], ◌∷◌, ◌++◌, length, take, get_or, Option, Some, None, refl, sym, ap, ◌∙◌, subst, inl, inr, arith, Any, Contains}
use Rattle.fzn_parser.specs.declared.tree.Number.{Number}
use Rattle.fzn_parser.specs.declared.tree.Num.{Num}
use Rattle.fzn_parser.specs.declared.tree.Num.TheVariants as nums
use Rattle.fzn_model.specs.declared.faults.ModelFault.{ModelFault}
use Rattle.fzn_model.specs.declared.faults.ModelFault.TheVariants as faults
use Rattle.fzn_model.specs.FirstFault.{AtPlaces, IsFirstOf, first_told}
use Rattle.fzn_model.specs.DeclarationRules.{HasNumberFault}
use Rattle.fzn_model.specs.Measures.{fault_at, number_fault}
use Rattle.std.proofs.lemmas.List.{append-nil, take_all, take_more}
use Rattle.std.proofs.lemmas.List.Quantifiers.{Any-push}
use Rattle.fzn_model.proofs.Firsts.{broken_at, broken_nowhere, either_first, only_one, same_first}
use Rattle.fzn_model.proofs.Spans.{Any-cases, Any-none}

-- ---- one rule

-- a rule that comes at one place at most
pub rule_if : (told : ℕ → ModelFault) (comes : ℕ → Type 0) (p : ℕ) (b : Bool) → (IsTrue b ↔ comes p) → ((at : ℕ) → comes at → at ≡ p)
    → IsFirstOf (AtPlaces told comes) (cond b (Some (told p)) None)
rule_if told comes p true here only = broken_at told p (here.0 refl) only
rule_if told comes p false here only =
    broken_nowhere told (λ at h. let wrong : false ≡ true = here.1 (subst comes (only at h) h) in absurd (cc))

pub rule_is : (told : ℕ → ModelFault) (comes : ℕ → Type 0) (p : ℕ) (b : Bool) (r : Option ModelFault) → r ≡ cond b (Some (told p)) None
    → (IsTrue b ↔ comes p) → ((at : ℕ) → comes at → at ≡ p) → IsFirstOf (AtPlaces told comes) r
rule_is told comes p b r e here only = subst (IsFirstOf (AtPlaces told comes)) (sym e) (rule_if told comes p b here only)

-- ---- numbers

contained : (numbers : List Number) (n : Number) (f : ModelFault) → number_fault n ≡ Some f → Contains numbers n → HasNumberFault numbers f
contained numbers n f e c = (c.0, n, c.1, c.2, e)

pub float_fault : (numbers : List Number) (at : ℕ) → Contains numbers (record { at = at; num = nums.Float }) → HasNumberFault numbers (faults.Float at)
float_fault numbers at c = contained numbers (record { at = at; num = nums.Float }) (faults.Float at) refl c

pub large_fault : (numbers : List Number) (at : ℕ) → Contains numbers (record { at = at; num = nums.Large }) → HasNumberFault numbers (faults.NumberTooLarge at)
large_fault numbers at c = contained numbers (record { at = at; num = nums.Large }) (faults.NumberTooLarge at) refl c

abbrev pub FloatAmong : List Number → ℕ → Type 0
FloatAmong numbers at = Contains numbers (record { at = at; num = nums.Float })

abbrev pub LargeAmong : List Number → ℕ → Type 0
LargeAmong numbers at = Contains numbers (record { at = at; num = nums.Large })

faulty : (numbers : List Number) (k at : ℕ) (num : Num) → k < length numbers → get_or numbers k (record { at = at; num = num }) ≡ record { at = at; num = num } → (f : ModelFault)
    → fault_at at num ≡ Some f → AtPlaces faults.Float (FloatAmong numbers) f ⊎ AtPlaces faults.NumberTooLarge (LargeAmong numbers) f
faulty numbers k at (nums.Int x) within here f e = absurd (cc)
faulty numbers k at nums.Large within here f e = inr (at, cc, (k, within, here))
faulty numbers k at nums.Float within here f e = inl (at, cc, (k, within, here))

pub number_rules : (numbers : List Number) (f : ModelFault) → HasNumberFault numbers f
    → AtPlaces faults.Float (FloatAmong numbers) f ⊎ AtPlaces faults.NumberTooLarge (LargeAmong numbers) f
number_rules numbers f h = faulty numbers h.0 h.1.at h.1.num h.2 h.3 f h.4

-- ---- the first of the numbers

pub no_numbers : IsFirstOf (HasNumberFault []) None
no_numbers = λ f h. Any-none (λ n. number_fault n ≡ Some f) h

first_of_one : (o : Option ModelFault) → IsFirstOf (λ f. o ≡ Some f) o
first_of_one None = λ f h. absurd (cc)
first_of_one (Some f) = only_one f refl (λ other e. cc)

any_split : {X : Type 0} (P : X → Type 0) (xs : List X) (x : X) → Any P (xs ++ x ∷ []) → Any P xs ⊎ P x
any_split P [] x h = elim (Any-cases P x [] h) [ inl here ↦ inr here | inr later ↦ absurd (Any-none P later) ]
any_split P (y ∷ ys) x h =
    elim (Any-cases P y (ys ++ x ∷ []) h) [
      | inl here ↦ inl (0, y, omega arith, refl, here)
      | inr later ↦ elim (any_split P ys x later) [
        | inl among ↦ inl (suc among.0, among.1, omega (arith, among.2), among.3, among.4)
        | inr last ↦ inr last
      ]
    ]

any_front : {X : Type 0} (P : X → Type 0) (xs : List X) (x : X) → Any P xs → Any P (xs ++ x ∷ [])
any_front P [] x h = absurd (Any-none P h)
any_front P (y ∷ ys) x h =
    elim (Any-cases P y ys h) [
      | inl here ↦ (0, y, omega arith, refl, here)
      | inr later ↦ let among = any_front P ys x later in (suc among.0, among.1, omega (arith, among.2), among.3, among.4)
    ]

-- one more number
pub first_more : (numbers : List Number) (n : Number) (a b : Option ModelFault) → IsFirstOf (HasNumberFault numbers) a → b ≡ number_fault n
    → IsFirstOf (HasNumberFault (numbers ++ n ∷ [])) (first_told a b)
first_more numbers n a b first is =
    let one : IsFirstOf (λ f. number_fault n ≡ Some f) b = subst (IsFirstOf (λ f. number_fault n ≡ Some f)) (sym is) (first_of_one (number_fault n)) in
    same_first {P = λ f. HasNumberFault numbers f ⊎ (number_fault n ≡ Some f)} {Q = HasNumberFault (numbers ++ n ∷ [])}
    (λ f h. elim h [
      | inl among ↦ any_front (λ m. number_fault m ≡ Some f) numbers n among
      | inr last ↦ Any-push (λ m. number_fault m ≡ Some f) numbers n last
    ])
    (λ f h. any_split (λ m. number_fault m ≡ Some f) numbers n h)
    (first_told a b) (either_first (HasNumberFault numbers) (λ f. number_fault n ≡ Some f) a b first one)

pub first_both : (m n : Number) → IsFirstOf (HasNumberFault (m ∷ n ∷ [])) (first_told (number_fault m) (number_fault n))
first_both m n =
    first_more (m ∷ []) n (number_fault m) (number_fault n) (first_more [] m None (number_fault m) no_numbers refl) refl

-- ---- along a list

pub first_next : (numbers : List Number) (i : ℕ) (d : Number) (a b r : Option ModelFault) → i < length numbers → IsFirstOf (HasNumberFault (take i numbers)) a
    → b ≡ number_fault (get_or numbers i d) → r ≡ first_told a b → IsFirstOf (HasNumberFault (take (i + 1) numbers)) r
first_next numbers i d a b r within first is joined =
    let more : take (i + 1) numbers ≡ take i numbers ++ get_or numbers i d ∷ [] = take_more numbers i d within in
    subst (λ xs. IsFirstOf (HasNumberFault xs) r) (sym more)
    (subst (IsFirstOf (HasNumberFault (take i numbers ++ get_or numbers i d ∷ []))) (sym joined) (first_more (take i numbers) (get_or numbers i d) a b first is))

pub first_whole : (numbers : List Number) (i : ℕ) (a : Option ModelFault) → length numbers ≤ i → IsFirstOf (HasNumberFault (take i numbers)) a → IsFirstOf (HasNumberFault numbers) a
first_whole numbers i a le first = subst (λ xs. IsFirstOf (HasNumberFault xs) a) (take_all i numbers le) first

pub first_behind : (numbers : List Number) (a : Option ModelFault) → IsFirstOf (HasNumberFault numbers) a → IsFirstOf (HasNumberFault ((numbers ++ []) ++ [])) a
first_behind numbers a first = subst (λ xs. IsFirstOf (HasNumberFault xs) a) (sym (append-nil (numbers ++ []) ∙ append-nil numbers)) first

pub first_with : (numbers : List Number) (n : Number) (a b r : Option ModelFault) → IsFirstOf (HasNumberFault numbers) a → b ≡ number_fault n → r ≡ first_told a b
    → IsFirstOf (HasNumberFault ((numbers ++ []) ++ n ∷ [])) r
first_with numbers n a b r first is joined =
    subst (λ xs. IsFirstOf (HasNumberFault (xs ++ n ∷ [])) r) (sym (append-nil numbers))
    (subst (IsFirstOf (HasNumberFault (numbers ++ n ∷ []))) (sym joined) (first_more numbers n a b first is))

pub first_of_two : (m n : Number) (a b r : Option ModelFault) → a ≡ number_fault m → b ≡ number_fault n → r ≡ first_told a b → IsFirstOf (HasNumberFault (m ∷ n ∷ [])) r
first_of_two m n a b r em en joined =
    subst (IsFirstOf (HasNumberFault (m ∷ n ∷ []))) (sym (joined ∙ ap (λ x. first_told x b) em ∙ ap (first_told (number_fault m)) en)) (first_both m n)
